pub mod BodyLemmas
pub mod WantedLemmas
