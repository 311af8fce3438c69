pub mod Grammar
pub mod Reader
pub mod Collecting
pub mod Stored
