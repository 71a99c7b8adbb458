mod ArchiveLemmas
mod ArriveLemmas
pub mod ResultLemmas
mod SaidLemmas
pub mod TellLemmas
pub use Rattle.rehearsal_state.proofs.MoveLemmas
