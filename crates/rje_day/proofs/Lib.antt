pub mod Carried
pub mod GivenOnce
pub mod Told
