pub mod Store
pub mod MemoryStore
pub mod Disk
pub mod Replacing
pub mod Inside
pub mod FileStore
pub mod Growing
pub mod Marked
