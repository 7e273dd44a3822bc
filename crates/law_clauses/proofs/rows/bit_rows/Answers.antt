use Rattle.std.proofs.Common.{refl}
use Rattle.law_clauses.proofs.rows.bit_rows.Goals as goal

pub returns : goal.returns
returns c = record {
  sum = refl;
  product = refl;
  quotient = refl;
  by_zero = refl;
  signed = refl;
  quotients = refl;
  remainders = refl;
  moduli = refl;
  overflow = refl;
  overflows = refl;
}
