pub mod Draft
pub mod Making
