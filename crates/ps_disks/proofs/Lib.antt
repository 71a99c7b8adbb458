pub mod DiskLemmas
mod ImageLemmas
mod MemoryDiskLemmas
mod RackLemmas
mod RecentLemmas
pub mod RunLemmas
