pub mod Answerable
pub mod Epochs
pub mod Kept
pub mod Runs
