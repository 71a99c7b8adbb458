pub mod All
pub mod Causes
pub mod Memory
