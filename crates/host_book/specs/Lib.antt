pub mod Host
pub mod Pairs
pub mod Ready
pub mod Reservations
pub mod Restore
pub mod Waking
