pub mod Loop
mod NoText
pub mod WholeLemmas
