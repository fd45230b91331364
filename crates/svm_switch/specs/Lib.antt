pub mod Left
pub mod Saved
