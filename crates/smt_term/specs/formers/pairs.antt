pub mod AttributePairs
