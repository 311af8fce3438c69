pub mod Deck
pub mod Ascii
pub mod Listing
pub mod Punch
pub mod Fitting
pub mod Blocks
pub mod Joined
pub mod Laws
