pub mod AttemptLemmas
pub mod PlanningLemmas
pub mod PostLemmas
pub mod StartLemmas
