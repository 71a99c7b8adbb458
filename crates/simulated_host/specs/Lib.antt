pub mod Kept
pub mod Staged
