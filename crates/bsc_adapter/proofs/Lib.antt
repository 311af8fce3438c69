pub mod Steps
pub mod Parts
pub mod Forwards
pub mod Standing
pub mod Backwards
pub mod Saying
pub mod Alike
