-- Foldings by a call that is exact: it answers an operator's value where the folding computes one, and else it refuses.
use Rattle.std.proofs.Common.{◌≡◌, ℕ, ◌≤◌, Bool, true, false, ◌&&◌, cond, refl, ap, ◌∙◌, sym, subst, inl, inr}
use Rattle.std.specs.Prelude.{◌==◌, IfErr, IfOk, nat_le, OnOk, Result, Ok, Err}
use Rattle.std.specs.Fn.{FnReturnsAtPair}
use denote.Param.Members.{Shared}
use denote.Ref.{Bor}
use Rattle.std.proofs.lemmas.Bool.{and_from, and_left, and_right, eq-eqb, le-leb, lt-leb, ne_eqb}
use Rattle.smt_bits.specs.BitVec.{IsMismatch, number_of, RefusesShift, width_of}
use Rattle.smt_bits.specs.declared.bitvec.BitVec.{BitVec}
use Rattle.smt_bits.specs.declared.error.BitVecError.{BitVecError}
use Rattle.smt_bits.specs.declared.error.BitVecError.TheVariants.{MismatchedWidths, ShiftAmountTooLarge}
use Rattle.smt_bits.specs.declared.error.BvCall.{BvCall}
use Rattle.law_numbers.specs.BitOperators.{BitsOperator, TestOperator, bits_entry, test_entry}
use Rattle.law_numbers.specs.Shifts.{greatest_shift}
use Rattle.law_folding.specs.Applications.{bits_literal, bits_of_two, test_of_two, truth_literal}
use Rattle.law_folding.specs.FoldBits.{folded_bits, folded_test, takes_right}
use Rattle.law_folding.specs.Refinement.{Refines}
use Rattle.law_folding.proofs.BitsStand.{stands_bits, stands_test}
use Rattle.smt_factory_core.specs.FoldBy.{IsFoldedBy, IsTestedBy, literal_of, NotTwoLiterals}
use Rattle.smt_factory_core.proofs.Answers.{no_test}
use Rattle.law_terms.specs.Plain.{BitsOp, BitVecLiteral, LiteralTerm, PlainTerm, TestOp}

-- what holds at two values holds at two that are those
both : {X : Type 0} (P : X → X → Type 0) (t u x y : X) → x ≡ t → y ≡ u → P x y → P t u
both P t u x y d e h = subst (λ k. P k u) d (subst (λ k. P x k) e h)

-- ---- operators from bits to bits

-- whether the folding computes
abbrev takes : BitsOperator → BitVec → BitVec → Bool
takes o a b = width_of a == width_of b && takes_right o (number_of b)

-- the operator's value at a and b
abbrev value : BitsOperator → BitVec → BitVec → ℕ
value o a b = (bits_entry o).function (width_of a) (number_of a) (number_of b)

-- the answer at a and b is what the folding computes, or refuses where it computes nothing
abbrev pub Computes : BitsOperator → BitVec → BitVec → Result BitVec BitVecError → Type 0
Computes o a b (Ok c) = (takes o a b ≡ true) × (literal_of c ≡ bits_literal (width_of a) (value o a b))
Computes o a b (Err e) = takes o a b ≡ false

same_literal : (c : BitVec) (n a : ℕ) → width_of c ≡ n → number_of c ≡ a → literal_of c ≡ bits_literal n a
same_literal c n a d e = ap (λ k. bits_literal k (number_of c)) d ∙ ap (λ k. bits_literal n k) e

-- a call that refuses other widths alone
pub computes : (o : BitsOperator) (call : BvCall) (a b : BitVec) (r : Result BitVec BitVecError) → ((n : ℕ) → takes_right o n ≡ true) → OnOk r (width_of a ≡ width_of b) × (IfOk r (λ c. width_of c ≡ width_of a) × (IfOk r (λ c. number_of c ≡ value o a b) × IfErr r (IsMismatch call a b))) → Computes o a b r
computes o call a b (Ok c) t (w, (n, (v, h))) = (and_from (width_of a == width_of b) (takes_right o (number_of b)) (eq-eqb (width_of a) (width_of b) w) (t (number_of b)), same_literal c (width_of a) (value o a b) n v)
computes o call a b (Err e) t (w, (n, (v, h))) = and_left (width_of a == width_of b) (takes_right o (number_of b)) (ne_eqb (width_of a) (width_of b) h.1)

-- a shift, which refuses numbers of places too
pub shift_computes : (o : BitsOperator) (call : BvCall) (a b : BitVec) (r : Result BitVec BitVecError) → ((n : ℕ) → takes_right o n ≡ nat_le n greatest_shift) → OnOk r (width_of a ≡ width_of b) × (OnOk r (number_of b ≤ greatest_shift) × (IfOk r (λ c. width_of c ≡ width_of a) × (IfOk r (λ c. number_of c ≡ value o a b) × IfErr r (RefusesShift call a b)))) → Computes o a b r
shift_computes o call a b (Ok c) t (w, (l, (n, (v, h)))) = (and_from (width_of a == width_of b) (takes_right o (number_of b)) (eq-eqb (width_of a) (width_of b) w) (t (number_of b) ∙ le-leb (number_of b) greatest_shift l), same_literal c (width_of a) (value o a b) n v)
shift_computes o call a b (Err (MismatchedWidths named)) t (w, (l, (n, (v, h)))) = and_left (width_of a == width_of b) (takes_right o (number_of b)) (ne_eqb (width_of a) (width_of b) h.1)
shift_computes o call a b (Err ShiftAmountTooLarge) t (w, (l, (n, (v, h)))) = and_right (width_of a == width_of b) (takes_right o (number_of b)) (t (number_of b) ∙ lt-leb (number_of b) greatest_shift h.1)
shift_computes o call a b (Err e) t (w, (l, (n, (v, h)))) = absurd h

no_bits : (o : BitsOperator) (t u : PlainTerm) → NotTwoLiterals t u → bits_of_two (BitsOp o) t u ≡ folded_bits o t u
no_bits o (LiteralTerm (BitVecLiteral n a)) (LiteralTerm (BitVecLiteral m b)) (inl e) = cc
no_bits o (LiteralTerm (BitVecLiteral n a)) (LiteralTerm (BitVecLiteral m b)) (inr e) = cc
no_bits o (LiteralTerm (BitVecLiteral n a)) u e = refl
no_bits o t u e = refl

module _ {F : Type 0} (g : Shared F (Bor BitVec × (Bor BitVec × Unit {0})) (Result BitVec BitVecError)) (f : F) (o : BitsOperator) (exact : (p q : Bor BitVec) (r : Result BitVec BitVecError) → g.post f (p, (q, tt)) r → Computes o p.now q.now r) where
  computed : (a b : BitVec) (r : Result BitVec BitVecError) → FnReturnsAtPair g f a b r → Computes o a b r
  computed a b r h = both (λ x y. Computes o x y r) a b h.first.now h.second.now h.shows.0 h.shows.1 (exact h.first h.second r h.says.met)

  -- at two literals, where the folding computes and where it does not
  chosen : (a b : BitVec) (k : Bool) (r : PlainTerm) → takes o a b ≡ k → r ≡ cond k (bits_literal (width_of a) (value o a b)) (bits_of_two (BitsOp o) (literal_of a) (literal_of b)) → r ≡ folded_bits o (literal_of a) (literal_of b)
  chosen a b k r h e = e ∙ ap (λ x. cond x (bits_literal (width_of a) (value o a b)) (bits_of_two (BitsOp o) (literal_of a) (literal_of b))) (sym h)

  pub bits_folded : (t u r : PlainTerm) → IsFoldedBy (FnReturnsAtPair g f) (BitsOp o) t u r → r ≡ folded_bits o t u
  bits_folded t u r (inl (c, a, e)) =
      let h : Computes o a.left a.right (Ok c) = computed a.left a.right (Ok c) a.gives in
      both (λ x y. r ≡ folded_bits o x y) t u (literal_of a.left) (literal_of a.right) (sym a.first) (sym a.second) (chosen a.left a.right true r h.0 (e ∙ h.1))
  bits_folded t u r (inr (inl (x, a), e)) =
      let d : r ≡ bits_of_two (BitsOp o) (literal_of a.left) (literal_of a.right) = both (λ x y. r ≡ bits_of_two (BitsOp o) x y) (literal_of a.left) (literal_of a.right) t u a.first a.second e in
      both (λ x y. r ≡ folded_bits o x y) t u (literal_of a.left) (literal_of a.right) (sym a.first) (sym a.second) (chosen a.left a.right false r (computed a.left a.right (Err x) a.gives) d)
  bits_folded t u r (inr (inr n, e)) = e ∙ no_bits o t u n

pub stands_for_bits : (o : BitsOperator) (r t u : PlainTerm) → r ≡ folded_bits o t u → Refines r (bits_of_two (BitsOp o) t u)
stands_for_bits o r t u e = subst (λ (x : PlainTerm). Refines x (bits_of_two (BitsOp o) t u)) (sym e) (stands_bits o t u)

-- ---- comparisons

-- what the operator says of a and b
abbrev says : TestOperator → BitVec → BitVec → Bool
says o a b = (test_entry o).function (width_of a) (number_of a) (number_of b)

-- the answer at a and b is what the folding computes, or refuses where it computes nothing
abbrev pub Decides : TestOperator → BitVec → BitVec → Result Bool BitVecError → Type 0
Decides o a b (Ok c) = ((width_of a == width_of b) ≡ true) × (c ≡ says o a b)
Decides o a b (Err e) = (width_of a == width_of b) ≡ false

pub decides : (o : TestOperator) (call : BvCall) (a b : BitVec) (r : Result Bool BitVecError) → OnOk r (width_of a ≡ width_of b) × (IfOk r (λ c. c ≡ says o a b) × IfErr r (IsMismatch call a b)) → Decides o a b r
decides o call a b (Ok c) (w, (v, h)) = (eq-eqb (width_of a) (width_of b) w, v)
decides o call a b (Err e) (w, (v, h)) = ne_eqb (width_of a) (width_of b) h.1

module _ {F : Type 0} (g : Shared F (Bor BitVec × (Bor BitVec × Unit {0})) (Result Bool BitVecError)) (f : F) (o : TestOperator) (exact : (p q : Bor BitVec) (r : Result Bool BitVecError) → g.post f (p, (q, tt)) r → Decides o p.now q.now r) where
  decided : (a b : BitVec) (r : Result Bool BitVecError) → FnReturnsAtPair g f a b r → Decides o a b r
  decided a b r h = both (λ x y. Decides o x y r) a b h.first.now h.second.now h.shows.0 h.shows.1 (exact h.first h.second r h.says.met)

  -- at two literals, where the folding computes and where it does not
  taken : (a b : BitVec) (k : Bool) (r : PlainTerm) → (width_of a == width_of b) ≡ k → r ≡ cond k (truth_literal (says o a b)) (test_of_two (TestOp o) (literal_of a) (literal_of b)) → r ≡ folded_test o (literal_of a) (literal_of b)
  taken a b k r h e = e ∙ ap (λ x. cond x (truth_literal (says o a b)) (test_of_two (TestOp o) (literal_of a) (literal_of b))) (sym h)

  pub test_folded : (t u r : PlainTerm) → IsTestedBy (FnReturnsAtPair g f) (TestOp o) t u r → r ≡ folded_test o t u
  test_folded t u r (inl (c, a, e)) =
      let h : Decides o a.left a.right (Ok c) = decided a.left a.right (Ok c) a.gives in
      both (λ x y. r ≡ folded_test o x y) t u (literal_of a.left) (literal_of a.right) (sym a.first) (sym a.second) (taken a.left a.right true r h.0 (e ∙ ap truth_literal h.1))
  test_folded t u r (inr (inl (x, a), e)) =
      let d : r ≡ test_of_two (TestOp o) (literal_of a.left) (literal_of a.right) = both (λ x y. r ≡ test_of_two (TestOp o) x y) (literal_of a.left) (literal_of a.right) t u a.first a.second e in
      both (λ x y. r ≡ folded_test o x y) t u (literal_of a.left) (literal_of a.right) (sym a.first) (sym a.second) (taken a.left a.right false r (decided a.left a.right (Err x) a.gives) d)
  test_folded t u r (inr (inr n, e)) = e ∙ sym (no_test (TestOp o) (test_entry o).function t u n)

pub stands_for_test : (o : TestOperator) (r t u : PlainTerm) → r ≡ folded_test o t u → Refines r (test_of_two (TestOp o) t u)
stands_for_test o r t u e = subst (λ (x : PlainTerm). Refines x (test_of_two (TestOp o) t u)) (sym e) (stands_test o t u)
