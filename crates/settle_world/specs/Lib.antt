pub mod Connections
pub mod Day
pub mod Settling
pub mod WorkedDay
