mod HostLemmas
mod OpeningLemmas
mod RefusedLemmas
