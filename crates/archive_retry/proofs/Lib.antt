pub mod MergeLemmas
pub mod RetryLemmas
