pub mod ChoiceLemmas
pub mod LengthLemmas
pub mod ResultLemmas
pub mod ShapeLemmas
