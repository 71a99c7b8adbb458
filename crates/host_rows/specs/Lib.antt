pub mod Called
pub mod Closing
pub mod Deadlines
pub mod Ledger
pub mod LiveKeys
pub mod Still
