pub mod ChangeLemmas
pub mod TraceLemmas
pub mod TracerLemmas
