pub mod Asking
pub mod Believing
pub mod Conditions
pub mod FirstSteps
pub mod Running
pub mod Statuses
pub mod Stopped
pub mod Summarizing
