pub mod OrderLemmas
pub mod WorkedReport
