mod CommandLemmas
pub mod OutcomeLemmas
