mod Actions
pub mod Answers
pub mod Meanings
mod Members
mod Outcomes
pub mod Program
pub mod ProgramTypes
mod Rows
mod Stored
mod Types
mod ValueRows
pub mod Whole
