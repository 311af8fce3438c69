pub mod Entry
pub mod JobFile
pub mod FileFault
pub mod Unsent
pub mod Laws
pub mod Inside
pub mod Growth
pub mod Marks
