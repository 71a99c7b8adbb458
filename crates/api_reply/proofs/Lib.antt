mod ArchivingLemmas
mod RefusalLemmas
mod WholeLemmas
