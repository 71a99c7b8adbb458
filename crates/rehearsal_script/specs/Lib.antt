pub mod Kind
pub mod Lawful
pub mod Line
pub mod Read
pub mod Refusal
pub mod Script
pub mod Told
pub mod Words
