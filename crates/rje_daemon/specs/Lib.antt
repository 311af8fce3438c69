pub mod Doorway
pub mod Calling
pub mod Guarding
pub mod Pausing
pub mod Running
