-- What digits say that write a number above the variables.
use Rattle.std.proofs.Common.{◌≡◌, ◌∙◌, ◌+◌, ◌-◌, ◌*◌, ◌<◌, ℕ, List, Some, None, Bool, true, ap, arith}
use Rattle.std.specs.Prelude.{◌&&◌, if◌then◌else◌, nat_lt}
use Rattle.std.proofs.lemmas.Bool.{lt-ltb}
use Rattle.law_texts.specs.Digits.{decimal_number, is_numeral}
use Rattle.smt_dimacs.specs.Entries.{End, Of, negated_entry, plain_entry}
use Rattle.smt_dimacs.specs.Read.{IsAbove}

pub plain_above : (digits : List ℕ) (variables : ℕ) → is_numeral digits ≡ true → variables < decimal_number digits → IsAbove variables (plain_entry digits)
plain_above digits variables numeral above =
    let n = decimal_number digits in
    record {
      literal = 2 * (n - 1);
      says = ap (λ (b : Bool). if b then Some (if nat_lt 0 n then Of (2 * (n - 1)) else End) else None) numeral ∙ ap (λ (b : Bool). Some (if b then Of (2 * (n - 1)) else End)) (lt-ltb 0 n (omega arith));
      above = omega arith;
    }

pub negated_above : (digits : List ℕ) (variables : ℕ) → is_numeral digits ≡ true → variables < decimal_number digits → IsAbove variables (negated_entry digits)
negated_above digits variables numeral above =
    let n = decimal_number digits in
    record {
      literal = 2 * (n - 1) + 1;
      says = ap (λ (b : Bool). if b && nat_lt 0 n then Some (Of (2 * (n - 1) + 1)) else None) numeral ∙ ap (λ (b : Bool). if b then Some (Of (2 * (n - 1) + 1)) else None) (lt-ltb 0 n (omega arith));
      above = omega arith;
    }
