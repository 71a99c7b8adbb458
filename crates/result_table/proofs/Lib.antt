mod EightLemmas
mod MapKeeperLemmas
pub mod RecordLemmas
mod ReportLemmas
mod StoredLemmas
mod TallyLemmas
pub mod UpsertLemmas
mod VisitLemmas
