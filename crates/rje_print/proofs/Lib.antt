pub mod Names
pub mod Printed
pub mod BlockListings
pub mod Fates
pub mod Scripts
pub mod Splits
pub mod Turns
