pub mod HeldMap
pub mod Kept
pub mod Leaves
pub mod Places
pub mod Recents
pub mod Stands
