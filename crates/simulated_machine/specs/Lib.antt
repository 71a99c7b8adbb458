pub mod Crashed
pub mod Held
pub mod IsHeld
pub mod AfterStep
pub mod Said
