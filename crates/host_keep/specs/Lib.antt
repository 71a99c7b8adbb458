pub mod Laws
pub mod Opening
pub mod Standing
pub use Rattle.host_replay.specs.Stands
