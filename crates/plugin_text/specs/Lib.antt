pub mod Plain
pub mod Straight
