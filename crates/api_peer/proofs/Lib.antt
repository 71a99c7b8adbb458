pub mod AnswerLemmas
pub mod BodyLemmas
mod DenialBounds
mod DenialLemmas
mod FewTools
mod FlatLemmas
mod HeardLemmas
pub mod InputLemmas
pub mod KeyLemmas
mod MeantLemmas
mod OrderBounds
pub mod OrderLemmas
mod OrderWalk
pub mod OrderlyChanges
pub mod OrderlySteps
mod PartBounds
pub mod PathLemmas
mod ReadLemmas
mod ReplyBounds
mod ReplyLemmas
mod Samples
mod SendLemmas
pub mod ToldChanges
mod ToldLemmas
pub mod ToldSteps
mod ToldTexts
mod ValueLemmas
mod WholeLemmas
mod WriteLemmas
