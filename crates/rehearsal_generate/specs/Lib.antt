pub mod Draws
pub mod Posts
pub mod Shown
pub mod Summary
pub mod Work
