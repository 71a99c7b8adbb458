pub mod Due
pub mod Listed
pub mod Listing
pub mod Others
