pub mod Disk
pub mod History
pub mod Images
pub mod MemoryDisk
pub mod Rack
pub mod Run
