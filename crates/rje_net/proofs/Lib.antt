pub mod Words
mod Hearing
