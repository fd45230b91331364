pub mod Reading
pub mod Widths
