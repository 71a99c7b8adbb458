pub mod Reservations
pub mod Seen
