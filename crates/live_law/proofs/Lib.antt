pub mod AwakeLemmas
pub mod DraftLemmas
pub mod GroupLemmas
pub mod PurgeLemmas
pub mod StillLemmas
pub mod WakingLemmas
