pub mod Keeper
pub mod Opening
pub mod Row
