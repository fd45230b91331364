pub mod AuditLemmas
pub mod LengthLemmas
pub mod RuleLemmas
