pub mod Bytes
pub mod CodePage
pub mod Laws
