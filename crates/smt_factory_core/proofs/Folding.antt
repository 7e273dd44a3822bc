-- What is folded stands for what was asked for, in the words of the foldings of bits.
use Rattle.std.proofs.Common.{◌≡◌, ℕ, ◌+◌, ◌%◌, ◌^◌, ◌<◌, ◌≤◌, [], ◌∷◌, refl, ap, ◌∙◌, sym, subst}
use Rattle.std.specs.Prelude.{cond, IfSome, Option, Some, None}
use Rattle.std.proofs.Math.Nat.{mod-eq_of_lt}
use Rattle.law_numbers.specs.BitOperators.{OverflowOperator}
use Rattle.law_numbers.proofs.BitRanges as ranges
use Rattle.law_folding.specs.Applications.{bits_literal, bvneg_of, bvnego_of, test_of_two, wider_type, zero_extend_of}
use Rattle.law_folding.specs.FoldBits.{folded_bvneg, folded_bvnego, folded_overflow, folded_zero_extend}
use Rattle.law_folding.specs.Parts.{bits_inside}
use Rattle.law_folding.specs.Refinement.{Refines}
use Rattle.law_folding.proofs.BitsStand.{stands_bvneg, stands_bvnego, stands_overflow, stands_zero_extend}
use Rattle.law_terms.specs.Plain.{PlainType, BitVecType, ZeroExtendOp, BitVecLiteral, PlainTerm, Application, LiteralTerm, terms, OverflowOp}
use Rattle.law_terms.specs.Types.{is_bits, type_of, width_in}

pub stands_for_bvneg : (r t : PlainTerm) → r ≡ folded_bvneg t → Refines r (bvneg_of t)
stands_for_bvneg r t e = subst (λ (x : PlainTerm). Refines x (bvneg_of t)) (sym e) (stands_bvneg t)

pub stands_for_bvnego : (r t : PlainTerm) → r ≡ folded_bvnego t → Refines r (bvnego_of t)
stands_for_bvnego r t e = subst (λ (x : PlainTerm). Refines x (bvnego_of t)) (sym e) (stands_bvnego t)

pub stands_for_zero_extend : (r : PlainTerm) (k : ℕ) (t : PlainTerm) → r ≡ folded_zero_extend k t → Refines r (zero_extend_of k t)
stands_for_zero_extend r k t e = subst (λ (x : PlainTerm). Refines x (zero_extend_of k t)) (sym e) (stands_zero_extend k t)

pub stands_for_overflow : (o : OverflowOperator) (r t u : PlainTerm) → r ≡ folded_overflow o t u → Refines r (test_of_two (OverflowOp o) t u)
stands_for_overflow o r t u e = subst (λ (x : PlainTerm). Refines x (test_of_two (OverflowOp o) t u)) (sym e) (stands_overflow o t u)

-- ---- more places

-- a number keeps its value at a greater width
pub same_extended : (n k w a : ℕ) → a < 2 ^ n → w ≡ n + k → a % 2 ^ w ≡ a
same_extended n k w a l e = ap (λ x. a % 2 ^ x) e ∙ mod-eq_of_lt (ranges.wider n k a l)

-- zero extension of a literal
pub zero_extend-literal : (k m b n a : ℕ) (t : PlainTerm) → t ≡ bits_literal n a → m ≡ n + k → b ≡ a → bits_literal m b ≡ folded_zero_extend k t
zero_extend-literal k m b n a t h d e = ap (λ x. bits_literal x b) d ∙ (ap (λ x. bits_literal (n + k) x) e ∙ sym (ap (λ x. folded_zero_extend k x) h))

-- zero extension of what is no literal, by the width of its type
fits : (o : Option ℕ) (n k : ℕ) → o ≡ Some n → IfSome o (λ width. width + k ≤ 128) → n + k ≤ 128
fits o n k e h = subst (λ (p : Option ℕ). IfSome p (λ width. width + k ≤ 128)) e h

pub width_fits : (t : PlainTerm) (n k : ℕ) → width_in (type_of t) ≡ Some n → IfSome (width_in (type_of t)) (λ width. width + k ≤ 128) → n + k ≤ 128
width_fits t n k e h = fits (width_in (type_of t)) n k e h

by_type : (k : ℕ) (t : PlainTerm) → bits_inside t ≡ None → folded_zero_extend k t ≡ cond (is_bits (type_of t)) (zero_extend_of k t) t
by_type k (LiteralTerm (BitVecLiteral n a)) h = cc
by_type k t h = refl

extended_by : (k n : ℕ) (t : PlainTerm) (ty : PlainType) → width_in ty ≡ Some n → cond (is_bits ty) (Application (ZeroExtendOp k) (terms (t ∷ [])) (wider_type k ty)) t ≡ Application (ZeroExtendOp k) (terms (t ∷ [])) (BitVecType (n + k))
extended_by k n t (BitVecType m) e = cc
extended_by k n t ty e = cc

kept_by : (k : ℕ) (t : PlainTerm) (ty : PlainType) → width_in ty ≡ None → cond (is_bits ty) (Application (ZeroExtendOp k) (terms (t ∷ [])) (wider_type k ty)) t ≡ t
kept_by k t (BitVecType m) e = cc
kept_by k t ty e = refl

pub zero_extend-bits : (k n w : ℕ) (t : PlainTerm) → bits_inside t ≡ None → width_in (type_of t) ≡ Some n → w ≡ n + k → folded_zero_extend k t ≡ Application (ZeroExtendOp k) (terms (t ∷ [])) (BitVecType w)
zero_extend-bits k n w t h e d = by_type k t h ∙ (extended_by k n t (type_of t) e ∙ ap (λ m. Application (ZeroExtendOp k) (terms (t ∷ [])) (BitVecType m)) (sym d))

pub zero_extend-other : (k : ℕ) (t : PlainTerm) → bits_inside t ≡ None → width_in (type_of t) ≡ None → folded_zero_extend k t ≡ t
zero_extend-other k t h e = by_type k t h ∙ kept_by k t (type_of t) e
