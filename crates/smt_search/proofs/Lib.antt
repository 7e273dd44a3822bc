pub mod Counting
pub mod Models
