pub mod Sender
pub mod Receiver
pub mod Contender
pub mod Runs
pub mod Laws
