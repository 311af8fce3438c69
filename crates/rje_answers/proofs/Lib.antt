pub mod Own
pub mod Pieces
pub mod Numbers
pub mod Spelled
