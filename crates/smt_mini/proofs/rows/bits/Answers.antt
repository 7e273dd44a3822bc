use Rattle.std.proofs.Common.{◌≡◌, ap, sym, ◌∙◌, refl, arith}
use Rattle.law_verdicts.specs.TruthRows.{has_bit, just}
use Rattle.smt_mini.proofs.RowBits.{row_of_bits}
use Rattle.smt_mini.proofs.rows.bits.Goals as goal

pub returns-in-0 : goal.returns-in-0
returns-in-0 c r l = row_of_bits 12297829382473034410 6148914691236517205 0 refl r l ∙ ap (λ p. just (has_bit r p)) (sym c.in-0.is)

pub returns-in-1 : goal.returns-in-1
returns-in-1 c r l = row_of_bits 14757395258967641292 3689348814741910323 1 refl r l ∙ ap (λ p. just (has_bit r p)) (sym c.in-1.is)

pub returns-in-2 : goal.returns-in-2
returns-in-2 c r l = row_of_bits 17361641481138401520 1085102592571150095 2 refl r l ∙ ap (λ p. just (has_bit r p)) (sym c.in-2.is)

pub returns-in-3 : goal.returns-in-3
returns-in-3 c r l = row_of_bits 18374966859414961920 71777214294589695 3 refl r l ∙ ap (λ p. just (has_bit r p)) (sym c.in-3.is)

pub returns-in-4 : goal.returns-in-4
returns-in-4 c r l = row_of_bits 18446462603027742720 281470681808895 4 refl r l ∙ ap (λ p. just (has_bit r p)) (sym c.in-4.is)

pub returns-in_default : goal.returns-in_default
returns-in_default c r l =
    let last : 5 ≡ c.args.place = omega (arith, c.requires, c.in_default) in
    row_of_bits 18446744069414584320 4294967295 5 refl r l ∙ ap (λ p. just (has_bit r p)) last
