pub mod ArmedLemmas
mod BrokenLemmas
pub mod CallLemmas
mod CourseLemmas
mod CrashLemmas
mod FaultedLemmas
mod KeepLemmas
pub mod LeftLemmas
pub mod OpeningLemmas
pub mod RefusalLemmas
pub mod StoppedLemmas
