pub mod CountLemmas
pub mod FilterLemmas
pub mod FreeLemmas
pub mod OverLemmas
pub mod PickLemmas
mod WalkLemmas
