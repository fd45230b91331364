pub mod Lookups
pub mod PathBits
