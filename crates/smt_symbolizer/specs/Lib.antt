pub mod ByType
pub mod EntityView
pub mod Listed
pub mod Named
pub mod Requests
pub mod Stored
pub mod View
