pub mod Carried
pub mod Moved
pub mod Ready
pub use Rattle.simulated_host.specs.Kept
