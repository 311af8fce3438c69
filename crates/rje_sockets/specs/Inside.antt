-- What private functions tell; no promise rests on it.
pub mod Sending
pub mod Opening
pub mod Keeping
pub mod Marking
pub mod BreakingOff
pub mod BothFiles
