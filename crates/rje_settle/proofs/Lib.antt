pub mod Accounts
pub mod CountedTexts
pub mod Counting
pub mod Digits
pub mod NameTexts
pub mod Splits
