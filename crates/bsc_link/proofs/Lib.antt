pub mod Rvi
