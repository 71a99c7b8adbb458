pub mod Lending
pub mod Order
pub mod PlacedList
pub mod SlidingList
pub mod TieredList
