pub mod Division
pub mod Shifts
pub mod Quotients
pub mod ByTable
pub mod ByTables
