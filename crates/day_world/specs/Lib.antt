pub mod Passage
pub mod Carried
pub mod Books
pub mod Day
pub mod WorkedDay
