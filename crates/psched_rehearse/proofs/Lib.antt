mod LineLemmas
pub mod PlayLemmas
mod SimulatedLemmas
mod SettleLemmas
mod TurnLemmas
