pub mod Choice
pub mod ResultText
pub mod Run
pub mod Tool
