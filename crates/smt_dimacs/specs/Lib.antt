pub mod Entries
pub mod Faults
pub mod Formulas
pub mod Laws
pub mod Read
pub mod Rows
pub mod Spelling
pub mod Words
