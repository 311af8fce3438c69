pub mod Polynomials
pub mod Check
pub mod Inside
pub mod Laws
