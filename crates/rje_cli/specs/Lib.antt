pub mod Address
pub mod Orders
pub mod WordsFault
pub mod CommandLine
pub mod Asking
pub mod Canonical
pub use Rattle.clap.specs.Words
pub use Rattle.clap.specs.Simple
