pub mod Words
pub mod BlockWords
pub mod Reasons
pub mod Hearing
pub mod Stream
pub mod Turns
pub mod Inside
