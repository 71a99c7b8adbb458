mod BookingScripts
pub mod Given
mod LeadDecisions
mod LeadOrders
mod LeadScript
mod LimitLengths
mod PartDecisions
mod PartScript
pub mod Script
mod TaskScripts
