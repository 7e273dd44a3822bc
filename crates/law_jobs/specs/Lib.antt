pub mod Declarations
pub mod Enums
pub mod Jobs
pub mod Laws
pub mod Outcomes
pub mod Steps
pub mod Terms
pub mod Types
