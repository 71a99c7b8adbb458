mod EachLemmas
mod FirstLemmas
mod FollowLemmas
mod LengthLemmas
mod ReadLemmas
mod WritableLemmas
