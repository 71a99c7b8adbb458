mod AddsLemmas
mod ChoiceLemmas
mod CrashLemmas
mod FormatLemmas
mod FrontLemmas
mod LookLemmas
mod OpenLemmas
mod RecordLemmas
mod ReloadLemmas
mod RestLemmas
mod TakenLemmas
mod TurnExits
pub mod AppendLemmas
pub mod CallLemmas
pub mod HeadLemmas
pub mod MomentLemmas
pub mod OursLemmas
pub mod PairLemmas
pub mod SnapshotLemmas
pub mod StateLemmas
pub mod ToldLemmas
pub mod TurnLemmas
