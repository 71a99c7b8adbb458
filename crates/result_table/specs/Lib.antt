pub mod MapKeeper
pub mod Record
pub mod Report
pub mod Stored
pub mod Tally
pub mod Upsert
pub mod Visit
