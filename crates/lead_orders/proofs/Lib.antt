pub mod DueLemmas
pub mod FirstLemmas
pub mod ListingLemmas
pub mod OtherLemmas
