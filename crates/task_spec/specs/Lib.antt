pub mod Bounds
pub mod Fault
pub mod ReadArchive
pub mod ReadSchedule
pub mod ReadTask
pub mod WriteTask
