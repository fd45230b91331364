mod FlushLemmas
mod HeldLemmas
mod LeafLemmas
mod Orders
mod RecentLemmas
mod Retained
mod SpaceLemmas
mod StandLemmas
