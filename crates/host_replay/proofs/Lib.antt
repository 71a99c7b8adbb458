pub mod ListLemmas
pub mod OneBookLemmas
