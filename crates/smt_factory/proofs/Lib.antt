pub mod FunctionsFold
pub mod Rules
pub mod Widths
