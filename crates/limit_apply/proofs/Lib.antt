pub mod AdmitsLemmas
pub mod BareLemmas
pub mod CeilingLemmas
pub mod FlatLemmas
mod KeptLemmas
pub mod OpenLemmas
pub mod ReadLemmas
pub mod SignedLemmas
