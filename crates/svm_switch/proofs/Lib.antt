pub mod LeftLemmas
pub mod MovedLemmas
pub mod SavedLemmas
pub mod StoredLemmas
