-- The free bits of literals of prefixes.
use Rattle.std.proofs.Common.{◌≡◌, ℕ, ◌+◌, ◌-◌, ◌%◌, ◌^◌, ◌<◌, zero, suc, true, Some, None, refl, ap, ◌∙◌, arith}
use Rattle.std.specs.Prelude.{◌&&◌, ◌==◌}
use Rattle.std.proofs.Math.Nat.{add-mod_left, mod-eq_of_lt, pow-suc}
use Rattle.std.proofs.lemmas.Bool.{and_from, cond-true, eq-eqb}
use Rattle.law_numbers.specs.BitOperators.{BitsOperator, BvsubOp, bits_entry}
use Rattle.law_numbers.specs.BitVectors.{bvsub}
use Rattle.law_extensions.specs.Laws.{FreeBitsAreCounted}
use Rattle.law_extensions.proofs.Choices.{chosen_otherwise}
use Rattle.law_folding.specs.Applications.{bits_literal, bits_of_two}
use Rattle.law_folding.specs.Builder.{folding}
use Rattle.law_folding.specs.FoldBits.{takes_right}
use Rattle.law_terms.specs.Plain.{BitsOp}

-- two literals of one width are computed with
pub at_width : (o : BitsOperator) (n a b : ℕ) → takes_right o b ≡ true → folding.bits o (bits_literal n a) (bits_literal n b) ≡ bits_literal n ((bits_entry o).function n a b)
at_width o n a b h =
    cond-true (n == n && takes_right o b) (bits_literal n ((bits_entry o).function n a b)) (bits_of_two (BitsOp o) (bits_literal n a) (bits_literal n b)) (and_from (n == n) (takes_right o b) (eq-eqb n n refl) h)

pub below_power : (w : ℕ) → w < 2 ^ w
below_power zero = omega arith
below_power (suc w) = let h = below_power w in omega (arith, pow-suc 2 w)

-- what is left of n, of n bits
rest : (n q : ℕ) → q < n → bvsub n n q ≡ n - q
rest n q h =
    let wide : n < 2 ^ n = below_power n in
    let moved : n + (2 ^ n - q) ≡ 2 ^ n + (n - q) = omega arith in
    ap (λ x. x % 2 ^ n) moved ∙ add-mod_left (2 ^ n) (n - q) ∙ mod-eq_of_lt (omega arith)

pub free_bits_are_counted : FreeBitsAreCounted
free_bits_are_counted w None h = ap (bits_literal (2 ^ w)) (omega arith)
free_bits_are_counted w (Some q) h =
    let n = 2 ^ w in
    let wide : w < 2 ^ w = below_power w in
    let e : w + (2 ^ w - w) ≡ 2 ^ w = omega arith in
    chosen_otherwise (bits_literal n 0) (folding.bits BvsubOp (bits_literal n n) (bits_literal (w + (n - w)) q)) ∙ ap (λ m. folding.bits BvsubOp (bits_literal n n) (bits_literal m q)) e ∙ at_width BvsubOp n n q refl ∙ ap (bits_literal n) (rest n q h)
