pub mod Awaiting
pub mod Handover
pub mod Hearing
pub mod Law
pub mod Spelling
