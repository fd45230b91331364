-- Memory as bytes, and how linear addresses reach it.
pub mod Bits
pub mod Bytes
pub mod HalfWalks
pub mod NestedPaging
pub mod OuterPasses
pub mod PageEntries
pub mod PageTables
pub mod PhysicalAnswers
pub mod RegisterFile
