pub mod Found
pub mod Keeps
pub mod Rows
pub mod Statement
pub mod Table
