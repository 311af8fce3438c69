-- What private functions cite; no promise rests on it.
pub mod Calls
