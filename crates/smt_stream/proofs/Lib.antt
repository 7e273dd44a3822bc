pub mod Leading
pub mod Linked
pub mod Saying
pub mod Talking
