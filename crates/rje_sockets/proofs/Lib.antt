pub mod BothFiles
pub mod LeavingBoth
pub mod BothWays
pub mod OverLine
pub mod Exchanged
pub mod Sending
pub mod Outgoing
pub mod Patience
pub mod InFront
mod Keeping
pub mod Growing
pub mod Answering
pub mod Received
pub mod NamedFiles
pub mod Failing
pub mod Looped
pub mod Marked
pub mod Watched
