pub mod KeptLemmas
pub mod MaskLaws
pub mod VectorLemmas
