pub mod FileCalls
pub mod PairSteps
