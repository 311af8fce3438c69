pub mod Chosen
pub mod Commands
pub mod CommandFault
pub mod Inside
pub mod NamedFile
