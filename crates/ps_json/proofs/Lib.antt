pub mod EachLemmas
pub mod MemberLemmas
pub mod TreeLemmas
pub mod TakenLemmas
