pub mod CutOffs
pub mod Steps
