pub mod Gathered
pub mod JoinLemmas
pub mod Kept
