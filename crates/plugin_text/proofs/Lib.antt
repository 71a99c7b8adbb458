pub mod BackLemmas
pub mod PlainLemmas
pub mod StraightLemmas
