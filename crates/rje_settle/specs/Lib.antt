pub mod Connection
pub mod Digest
pub mod Inside
pub mod Laws
pub mod Names
pub mod Receipt
pub mod Sending
