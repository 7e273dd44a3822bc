pub mod Levels
pub mod SameValue
