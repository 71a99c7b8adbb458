pub mod Address
pub mod Entries
pub mod Fault
pub mod Fill
pub mod Group
pub mod Named
pub mod Pairs
pub mod ReadGroups
