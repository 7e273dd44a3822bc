-- The start of a day.
use Rattle.std.proofs.Common.{◌/◌, ℤ, pos, negsuc, arith}
use Rattle.std.proofs.lemmas.Int.{ints}
use Rattle.smt_ext.specs.Milliseconds.{IsLastMidnight, day_start}

pub last_midnight : (v : ℤ) → IsLastMidnight v (day_start v)
last_midnight (pos n) = record { days = pos (n / 86400000); multiple = omega (arith, ints); not_above = omega (arith, ints); next_above = omega (arith, ints) }
last_midnight (negsuc n) = record { days = negsuc (n / 86400000); multiple = omega (arith, ints); not_above = omega (arith, ints); next_above = omega (arith, ints) }
