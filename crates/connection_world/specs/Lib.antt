pub mod Connection
pub mod Headline
pub mod BothWays
pub mod LateBid
pub mod CrossingBids
pub mod LastBlocks
