pub mod Given
pub mod GivenFiles
pub mod OneEntry
pub mod Backed
pub mod Due
pub mod TooMuch
