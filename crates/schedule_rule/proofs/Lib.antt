pub mod FirstLemmas
pub mod JumpLemmas
