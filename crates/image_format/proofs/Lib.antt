pub mod Lawful
pub mod Many
