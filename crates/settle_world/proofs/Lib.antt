pub mod Doubt
pub mod Kept
pub mod Lists
pub mod Names
pub mod Once
pub mod Receipts
pub mod Sound
pub mod WorkedDay
