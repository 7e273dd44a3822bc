pub mod BitOperators
pub mod BitVectors
pub mod Extensions
pub mod Laws
pub mod Longs
pub mod Rows
pub mod Shifts
pub mod Widths
