pub mod Books
pub mod Planning
pub mod Posting
pub mod Starts
