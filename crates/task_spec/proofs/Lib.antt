pub mod ArchiveLemmas
pub mod LengthLemmas
pub mod ScheduleLemmas
pub mod ShapeLemmas
pub mod StartLemmas
pub mod TaskLemmas
pub mod WriteLemmas
