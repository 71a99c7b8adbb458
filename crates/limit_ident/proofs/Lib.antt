pub mod AddressLemmas
pub mod FlatLemmas
pub mod NamedLemmas
pub mod PlainLemmas
pub mod RequireLemmas
