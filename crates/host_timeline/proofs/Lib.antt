mod BesideLemmas
mod BusyLemmas
mod CountLemmas
pub mod FoundLemmas
pub mod Free
mod GatherLemmas
mod HoldLemmas
mod IndexedLemmas
mod KeysLemmas
mod LaneLemmas
pub mod Least
mod NearLemmas
mod Place
pub mod PutLemmas
mod RangeLemmas
mod StartLemmas
mod SweepLemmas
mod Tests
mod WalkLemmas
