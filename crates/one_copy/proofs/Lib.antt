pub mod RecallLemmas
