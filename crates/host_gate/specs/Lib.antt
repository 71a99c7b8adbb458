pub mod Stages
pub mod Marks
pub mod Turns
pub mod Line
pub mod Plays
pub mod Calls
