pub mod Bounds
pub mod Civil
pub mod Limit
pub mod ReadLimits
pub mod ReadSchedule
pub mod Schedule
