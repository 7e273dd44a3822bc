pub mod Allowed
pub mod Answers
pub mod Clauses
pub mod Counted
pub mod Given
pub mod Limits
pub mod Steps
