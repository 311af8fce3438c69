pub mod Chosen
pub mod Inputs
