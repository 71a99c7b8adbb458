pub mod Bounds
pub mod Denials
pub mod Errors
pub mod Replies
pub mod Shown
pub mod Views
