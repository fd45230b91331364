pub mod HighBits
pub mod LayoutLemmas
pub mod PutLaw
pub mod RegisterParts
