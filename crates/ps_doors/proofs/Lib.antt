mod DealLemmas
pub mod DoorLemmas
