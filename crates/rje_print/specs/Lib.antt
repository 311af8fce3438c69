pub mod BlockLines
pub mod BlockListing
pub mod JobTexts
pub mod ProgressTexts
pub mod ReportTexts
pub mod Script
pub mod TurnTexts
pub mod Inside
