pub mod BoundLemmas
pub mod KindLemmas
pub mod LengthLemmas
pub mod ShapeLemmas
pub mod WrittenLemmas
