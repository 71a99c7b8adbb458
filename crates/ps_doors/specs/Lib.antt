pub mod Archiver
pub mod Door
pub mod Link
pub mod Porch
pub mod Returned
pub mod Told
