pub mod Command
pub mod SocketCommand
