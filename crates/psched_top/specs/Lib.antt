pub mod Command
pub mod Limits
pub mod Outcome
pub mod Psched
pub mod Words
