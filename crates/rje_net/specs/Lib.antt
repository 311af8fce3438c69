pub mod LineCause
pub mod Words
pub mod Hearing
pub mod Streams
pub mod Inside
