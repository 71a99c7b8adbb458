pub mod Application
pub mod Bare
pub mod Limits
pub mod Open
pub mod Read
pub mod ReadApplications
