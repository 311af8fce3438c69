pub mod Asked
pub mod Noted
pub mod Seconds
pub mod Received
pub mod Brought
pub mod Highest
pub mod Sorted
