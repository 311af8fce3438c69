pub mod Changes
pub mod Replacing
pub mod Turning
pub mod Marking
