pub mod Day
pub mod Duties
pub mod Ended
pub mod Giving
pub mod History
pub mod Laws
