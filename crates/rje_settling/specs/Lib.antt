pub mod Giving
pub mod Counting
