-- What private functions cite; no promise rests on it.
pub mod Writing
pub mod Hearing
pub mod Sending
pub mod Uncounted
