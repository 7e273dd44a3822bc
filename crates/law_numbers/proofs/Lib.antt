pub mod BitOperators
pub mod BitRanges
pub mod Least
pub mod Masks
pub mod Modulus
pub mod Moved
pub mod SignedRange
pub mod TwosComplement
