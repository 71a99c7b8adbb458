pub mod Bounds
pub mod Fault
pub mod Kind
pub mod Participants
pub mod ReadTest
pub mod TestSpec
pub mod WriteTest
