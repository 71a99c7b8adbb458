mod OpenRequests
mod OrderRequests
mod PeerAnswers
mod PeerRequests
pub mod Told
