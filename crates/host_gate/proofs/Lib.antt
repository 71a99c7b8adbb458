pub mod Views
pub mod TurnKept
pub mod LineKept
pub mod Moves
pub mod Steps
