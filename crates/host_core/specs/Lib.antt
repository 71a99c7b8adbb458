pub mod ReadOff
pub mod Restarts
