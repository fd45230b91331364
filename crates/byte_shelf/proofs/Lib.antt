pub mod Appended
pub mod FirstFile
pub mod Left
