pub mod Asking
pub mod Once
pub mod Pairing
pub mod Reviewing
pub mod Running
pub mod Statuses
pub mod Telling
pub mod Writing
