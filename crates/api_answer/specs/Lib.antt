pub mod Denied
pub mod Heard
pub mod Told
