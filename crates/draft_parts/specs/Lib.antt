pub mod Log
pub mod Overlay
pub mod ReadOn
pub mod Way
