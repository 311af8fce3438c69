pub mod Lists
pub mod Passages
pub mod Carried
pub mod Books
pub mod WholeDay
pub mod WorkedDay
