pub mod Archiving
pub mod Arriving
pub mod Playing
pub use Rattle.rehearsal_state.specs.Kept
pub use Rattle.rehearsal_state.specs.Ready
