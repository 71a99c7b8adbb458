mod OrderLemmas
pub mod ShownLemmas
