pub mod CommonStart
pub mod Search
