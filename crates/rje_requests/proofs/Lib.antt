pub mod Addresses
pub mod Numbers
pub mod Parts
