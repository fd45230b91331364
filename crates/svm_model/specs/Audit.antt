-- The rules of maintenance: which copies of translations and of VMCBs a processor may have kept, and where one counts that is stale.
pub mod Breaches
pub mod HeldFields
pub mod Makings
pub mod Records
pub mod Verdicts
pub mod WatchCalls
