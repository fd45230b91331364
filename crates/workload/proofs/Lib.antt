pub mod LawfulImages
pub mod LawfulScripts
pub mod Ranges
