pub mod FirstLine
pub mod Faults
pub mod SoundCards
pub mod Shown
mod Coded
mod InPlace
