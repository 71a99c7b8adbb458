pub mod CivilLemmas
pub mod FlatLemmas
