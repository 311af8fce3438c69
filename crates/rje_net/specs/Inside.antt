-- What private functions tell; no promise rests on it.
pub mod Reading
