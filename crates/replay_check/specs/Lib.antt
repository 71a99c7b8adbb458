pub mod Follows
pub mod NewKey
pub mod ReadBook
pub mod ReadChange
pub mod Suits
pub mod Way
