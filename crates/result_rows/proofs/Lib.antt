pub mod Texts
pub mod TableLemmas
pub mod EntryLemmas
pub mod SelectLemmas
pub mod StateLemmas
pub mod PutLemmas
pub mod OpenLemmas
pub mod FileLemmas
