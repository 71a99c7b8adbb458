pub mod Gated
pub mod Comes
pub mod Laws
pub mod Applied
