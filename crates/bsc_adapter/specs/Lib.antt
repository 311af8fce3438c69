pub mod Form
pub mod Heard
pub mod Made
pub mod Laws
pub mod Inside
