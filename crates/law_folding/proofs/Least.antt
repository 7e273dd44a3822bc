-- A negation overflows exactly at the least value.
pub use Rattle.law_numbers.proofs.Least.{overflow_is}
