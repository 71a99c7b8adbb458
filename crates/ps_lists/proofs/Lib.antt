mod JoinLemmas
mod LentLemmas
mod MoveLemmas
pub mod OrderLemmas
pub mod PickLemmas
pub mod SearchLemmas
