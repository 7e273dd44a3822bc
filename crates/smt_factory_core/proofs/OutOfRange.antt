-- Whether a signed result leaves its range, where the machine's numbers of 128 bits may not hold it.
use Rattle.std.proofs.Common.{◌≡◌, ℕ, zero, suc, ◌-◌, ◌^◌, ◌<◌, ◌≤◌, Bool, true, false, ◌||◌, Option, Some, None, refl, sym, ap, ◌∙◌, inl, inr, arith}
use Rattle.std.specs.Prelude.{ℤ, pos, negsuc, neg_ℤ, int_lt, int_le, nat_lt, nat_le, ◌==◌, cond, FitsSigned, SomeIff}
use Rattle.std.specs.Fn.{FnReturnsAtPair}
use Rattle.std.specs.Int.{w128}
use denote.Param.Members.{Shared}
use denote.Ref.{Bor}
use Rattle.std.proofs.lemmas.Bool.{leb-false, ltb-false, eq-eqb, eqb-true}
use Rattle.std.proofs.Math.Pow.{pow_mono}
use Rattle.smt_bits.specs.BitVec.{number_of, width_of}
use Rattle.law_numbers.specs.BitVectors as bits
use Rattle.law_folding.specs.Applications.{bits_literal, truth_literal, test_of_two}
use Rattle.law_folding.specs.FoldBits.{folded_test_by}
use Rattle.smt_factory_core.specs.FoldBy.{literal_of, leaves, IsOverflowBy}
use Rattle.smt_factory_core.proofs.Answers.{no_test}
use Rattle.law_terms.specs.Plain.{PlainOp, PlainTerm}

-- ---- what the machine's numbers do not hold leaves every range

-- h is half of the width's power
outside : (h : ℕ) (z : ℤ) → 0 < h → h ≤ 2 ^ 127 → (FitsSigned w128 z → ⊥) → (int_lt z (neg_ℤ (pos h)) || int_le (pos h) z) ≡ true
outside zero z l m f = absurd (omega arith)
outside (suc h) (pos a) l m f = by (nat_le (suc h) a) refl
  where
    by : (t : Bool) → nat_le (suc h) a ≡ t → t ≡ true
    by true e = refl
    by false e = let k : a < suc h = leb-false (suc h) a e in absurd (f (record { sfits = omega arith }))
outside (suc h) (negsuc a) l m f = by (nat_lt h a) refl
  where
    by : (t : Bool) → nat_lt h a ≡ t → (t || false) ≡ true
    by true e = refl
    by false e = let k : a ≤ h = ltb-false h a e in absurd (f (record { sfits = omega arith }))

not_held : (n : ℕ) (z : ℤ) → n ≤ 128 → (FitsSigned w128 z → ⊥) → bits.overflows n z ≡ true
not_held n z h f = outside (2 ^ (n - 1)) z (pow_mono {i = 0} {j = n - 1} (omega arith)) (pow_mono {i = n - 1} {j = 127} (omega arith)) f

-- an exact result, or none where the machine's numbers do not hold it
pub leaves_exact : (n : ℕ) (z : ℤ) (o : Option ℤ) → n ≤ 128 → SomeIff o (FitsSigned w128 z) z → leaves n o ≡ bits.overflows n z
leaves_exact n z None h k = sym (not_held n z h k)
leaves_exact n z (Some x) h k = ap (bits.overflows n) k.1

-- ---- a test by what a call answers

-- a call at equal numbers
pub pair_moved : {F R : Type 0} (g : Shared F (Bor ℤ × (Bor ℤ × Unit {0})) R) (f : F) (x y x' y' : ℤ) (r : R) → x ≡ x' → y ≡ y' → FnReturnsAtPair g f x y r → FnReturnsAtPair g f x' y' r
pair_moved g f x y x' y' r d e h = record { first = h.first; second = h.second; shows = (h.shows.0 ∙ d, h.shows.1 ∙ e); says = h.says }

two_widths : (o : PlainOp) (f : ℕ → ℕ → ℕ → Bool) (n a m b : ℕ) → (n ≡ m → ⊥) → folded_test_by o f (bits_literal n a) (bits_literal m b) ≡ test_of_two o (bits_literal n a) (bits_literal m b)
two_widths o f n a m b h = by (n == m) refl
  where
    by : (t : Bool) → (n == m) ≡ t → cond t (truth_literal (f n a b)) (test_of_two o (bits_literal n a) (bits_literal m b)) ≡ test_of_two o (bits_literal n a) (bits_literal m b)
    by true e = absurd (h (eqb-true n m e))
    by false e = refl

module _ (answers : ℤ → ℤ → Option ℤ → Type 0) (o : PlainOp) where
  module _ (f : ℤ → ℤ → ℤ) (exact : (x y : ℤ) (z : Option ℤ) → answers x y z → SomeIff z (FitsSigned w128 (f x y)) (f x y)) where
    abbrev over : ℕ → ℕ → ℕ → Bool
    over n a b = bits.overflows n (f (bits.signed n a) (bits.signed n b))

    same_width : (n a m b : ℕ) (c : Bool) → n ≡ m → c ≡ over n a b → truth_literal c ≡ folded_test_by o over (bits_literal n a) (bits_literal m b)
    same_width n a m b c e d = ap truth_literal d ∙ sym (ap (λ k. cond k (truth_literal (over n a b)) (test_of_two o (bits_literal n a) (bits_literal m b))) (eq-eqb n m e))

    pub overflow_by : (t u r : PlainTerm) → IsOverflowBy answers o t u r → r ≡ folded_test_by o over t u
    overflow_by t u r (inl (b, a, e)) =
        let h : leaves (width_of a.left) a.answer ≡ over (width_of a.left) (number_of a.left) (number_of a.right) = leaves_exact (width_of a.left) _ a.answer a.left.width.at_most_128 (exact _ _ a.answer a.gives) in
        e ∙ (same_width (width_of a.left) (number_of a.left) (width_of a.right) (number_of a.right) b a.widths (a.tells ∙ h) ∙ (ap (λ x. folded_test_by o over (literal_of a.left) x) (sym a.second) ∙ ap (λ x. folded_test_by o over x u) (sym a.first)))
    overflow_by t u r (inr (inl w, e)) =
        e ∙ (ap (λ x. test_of_two o x u) w.first ∙ (ap (λ x. test_of_two o (literal_of w.left) x) w.second ∙ (sym (two_widths o over (width_of w.left) (number_of w.left) (width_of w.right) (number_of w.right) w.widths)
        ∙ (ap (λ x. folded_test_by o over (literal_of w.left) x) (sym w.second) ∙ ap (λ x. folded_test_by o over x u) (sym w.first)))))
    overflow_by t u r (inr (inr n, e)) = e ∙ sym (no_test o over t u n)
