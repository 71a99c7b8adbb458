pub mod EntryLemmas
pub mod FillLemmas
pub mod PairLemmas
