pub mod Heard
pub mod Led
pub mod Links
pub mod Runs
pub mod Scanning
pub mod Starters
pub mod Words
