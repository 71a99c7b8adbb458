pub mod FitLemmas
pub mod JoinLemmas
pub mod LawfulLemmas
pub mod LineLemmas
pub mod OnLiterals
pub mod TextLemmas
pub mod Worked
