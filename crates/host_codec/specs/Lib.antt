pub mod Books
pub mod Bounds
pub mod FirstFormat
