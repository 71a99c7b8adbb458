pub mod AskLemmas
pub mod UnarmedLemmas
pub mod ActionLemmas
mod FaultSamples
pub mod FirstLemmas
pub mod HostLemmas
pub mod KnownLemmas
pub mod LineLemmas
pub mod ListLemmas
pub mod MoveLemmas
pub mod PlayLemmas
pub mod ReachLemmas
mod Samples
pub mod SimulationLemmas
pub mod SeenLemmas
pub mod TurnLemmas
pub mod WorldLemmas
