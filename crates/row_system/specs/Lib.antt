pub mod Moving
pub mod Named
