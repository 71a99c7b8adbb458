mod BookingLemmas
mod CancelLemmas
pub mod WalkLemmas
