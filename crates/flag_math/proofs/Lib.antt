pub mod Quotients
pub mod Turns
pub mod Words
