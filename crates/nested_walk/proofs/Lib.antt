pub mod ReachLemmas
pub mod ReadLemmas
