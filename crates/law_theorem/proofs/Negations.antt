-- The overflow of a negation is an equality with the least number.
use Rattle.std.proofs.Common.{◌≡◌, ℕ, ◌-◌, ◌^◌, ◌<◌, ◌≤◌, [], ◌∷◌, refl, sym, ap, ◌∙◌, arith}
use Rattle.std.specs.Prelude.{Some}
use Rattle.std.proofs.Math.Pow.{pow-lt}
use Rattle.std.specs.Cmp.{nat_cmp_is, unsigned_ties}
use Rattle.law_terms.specs.Plain.{BitVecType, BoolType, EqOp, BvnegoOp}
use Rattle.law_terms.specs.Values.{Value, BitVecValue}
use Rattle.law_scripts.specs.ScriptValues.{TruthOf, BitsOf}
use Rattle.std.specs.Ordering.{nat_cmp, ordering_then, is_eq}
use Rattle.std.specs.declared.cmp.Ordering.TheVariants.{Equal}
use Rattle.law_numbers.specs.BitVectors as bits
use Rattle.law_numbers.proofs.Least.{overflow_is}
use Rattle.law_terms.specs.Operators.{apply}
use Rattle.law_terms.specs.Tables.{Interpretation}
use Rattle.law_terms.specs.TypeValues.{IsValue, Enums, AreEnums}
use Rattle.law_scripts.specs.Value.{operator_value}
use Rattle.law_lines.specs.NameTables.{Tables}
use Rattle.law_theorem.specs.Carry.{carry}
use Rattle.law_theorem.proofs.Ordered.{same_values}

half_below : (n : ℕ) → 1 ≤ n → 2 ^ (n - 1) < 2 ^ n
half_below n g = pow-lt (omega arith)

pub negated : (enums : Enums) (s : Tables) (good : AreEnums enums) (I : Interpretation) (n : ℕ) (v : Value) → 1 ≤ n → IsValue enums (BitVecType n) v
    → operator_value EqOp (carry enums s (BitVecType n) v ∷ BitsOf n (2 ^ (n - 1)) ∷ []) ≡ Some (carry enums s BoolType (apply I BvnegoOp BoolType (v ∷ [])))
negated enums s good I n (BitVecValue m a) g h =
    ap (λ b. Some (TruthOf b))
    (same_values enums s good (BitVecType n) (BitVecValue m a) (BitVecValue n (2 ^ (n - 1))) h (refl, half_below n g)
    ∙ (ap (λ o. is_eq (ordering_then o (nat_cmp a (2 ^ (n - 1))))) (sym (nat_cmp_is m n Equal h.0))
    ∙ (sym (unsigned_ties a (2 ^ (n - 1)))
    ∙ (sym (overflow_is n a g h.1) ∙ ap (λ k. bits.bvnego k a) (sym h.0)))))
negated enums s good I n v g h = absurd h
