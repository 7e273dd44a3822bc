pub mod Complete
pub mod Entries
pub mod Lines
pub mod Reading
