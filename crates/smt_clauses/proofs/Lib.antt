pub mod Chains
pub mod Clashes
pub mod Pushed
pub mod Steps
pub mod Variables
