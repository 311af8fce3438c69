pub mod QueuedFile
pub mod Status
