pub mod Places
pub mod Query
pub mod Refused
pub mod Routes
pub mod Understood
