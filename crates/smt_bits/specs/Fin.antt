-- What contracts see of a number below a bound.
use Rattle.std.specs.Prelude.{ℕ}
use Rattle.smt_bits.specs.declared.fin.Fin.{Fin}

-- the bound
abbrev pub bound_of : Fin → ℕ
bound_of f = f.upper_bound

-- the number, which is below the bound
abbrev pub value_of : Fin → ℕ
value_of f = f.number
