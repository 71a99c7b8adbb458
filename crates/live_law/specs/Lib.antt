pub mod Groups
pub mod Waking
