pub mod Callers
pub mod Choice
pub mod Connection
pub mod Device
pub mod Existing
pub mod JobNumbers
pub mod Mark
pub mod Station
