pub mod Bounds
pub mod Fault
pub mod Merge
pub mod ReadPolicy
pub mod Retry
