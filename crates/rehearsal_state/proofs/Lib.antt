pub mod MoveLemmas
mod RehearsalLemmas
mod TurnLemmas
