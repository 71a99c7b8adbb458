mod FoundTasks
mod OrderLemmas
mod StateLemmas
