pub mod OwnTurn
pub mod Places
pub mod Passed
pub mod Keeps
pub mod LedgerInStep
pub mod DayOn
