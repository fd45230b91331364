pub mod Digits
pub mod Endings
pub mod Lawful
pub mod Order
pub mod Rounds
pub mod Whole
