-- Foldings by what a call answers at two literals.
use Rattle.std.proofs.Common.{◌≡◌, ℕ, ◌^◌, ◌<◌, ◌≤◌, Bool, true, false, [], ◌∷◌, refl, ◌∙◌, sym, subst, inl, inr, arith}
use Rattle.std.specs.Prelude.{◌==◌, ℤ, Option, Result}
use Rattle.std.specs.Bool.{then_some}
use Rattle.std.specs.Cmp.{second_so}
use Rattle.std.proofs.lemmas.Bool.{eqb-true, eq-eqb, false≢true}
use Rattle.smt_bits.specs.BitVec.{number_of, width_of}
use Rattle.smt_bits.specs.declared.bitvec.BitVec.{BitVec}
use Rattle.smt_bits.specs.declared.error.BitVecError.{BitVecError}
use Rattle.law_folding.specs.Applications.{bits_literal, bits_of_two, test_of_two, truth_literal}
use Rattle.law_folding.specs.FoldBits.{folded_test_by}
use Rattle.smt_factory_core.specs.FoldBy.{literal_of, NotTwoLiterals, IsFoldedBy, IsOverflowBy, IsValue, AnswersValues, TellsOverflow, leaves, value_at}
use Rattle.law_folding.specs.Refinement.{Refines}
use Rattle.law_folding.proofs.BitsStand.{literal_standing, bits_formed, bits_answered, test_answered}
use Rattle.law_folding.proofs.ConnectivesStand.{chosen_type}
use Rattle.law_folding.proofs.Standing.{itself}
use Rattle.law_terms.specs.Operators.{apply, number, width}
use Rattle.law_terms.specs.Tables.{Interpretation}
use Rattle.law_terms.specs.Types.{bits_and_bits, is_type, result_type, type_eq}
use Rattle.law_terms.specs.Typing.{typed}
use Rattle.law_terms.proofs.TypeOrder.{eq_same}
use Rattle.law_terms.specs.Plain.{BitVecType, BoolType, PlainOp, EqOp, BitVecLiteral, PlainTerm, LiteralTerm, BitsOp, TestOp, OverflowOp}
use Rattle.law_terms.specs.Values.{Value, BitVecValue}

-- ---- typed applications from bits to bits have arguments of one width

one_width : (n m : ℕ) → is_type (then_some (bits_and_bits (BitVecType n) (BitVecType m)) (BitVecType n)) (BitVecType n) ≡ true → n ≡ m
one_width n m h = let e : BitVecType n ≡ BitVecType m = eq_same (BitVecType n) (BitVecType m) (chosen_type (bits_and_bits (BitVecType n) (BitVecType m)) (BitVecType n) (BitVecType n) h).0 in cc

no_truth : (b : Bool) (n m : ℕ) → is_type (then_some b BoolType) (BitVecType n) ≡ true → n ≡ m
no_truth b n m h = let e : BoolType ≡ BitVecType n = (chosen_type b BoolType (BitVecType n) h).1 in cc

widths_agree : (o : PlainOp) (n m : ℕ) → is_type (result_type o (BitVecType n ∷ BitVecType m ∷ [])) (BitVecType n) ≡ true → n ≡ m
widths_agree (BitsOp o) n m h = one_width n m h
widths_agree (TestOp o) n m h = no_truth (bits_and_bits (BitVecType n) (BitVecType m)) n m h
widths_agree (OverflowOp o) n m h = no_truth (bits_and_bits (BitVecType n) (BitVecType m)) n m h
widths_agree EqOp n m h = no_truth (type_eq (BitVecType n) (BitVecType m)) n m h
widths_agree o n m h = cc

-- ---- an answer in place of an application

bits_value : (v : Value) (n c : ℕ) → 1 ≤ n → width v ≡ n → number v ≡ c → v ≡ BitVecValue n c
bits_value (BitVecValue m b) n c l e d = cc
bits_value v n c l e d = absurd (omega arith)

at_one_width : (o : PlainOp) (n a m b k c : ℕ) → n ≡ m → k ≡ n → c < 2 ^ k → ((I : Interpretation) → apply I o (BitVecType n) (BitVecValue n a ∷ BitVecValue m b ∷ []) ≡ BitVecValue n c) → Refines (bits_literal k c) (bits_of_two o (bits_literal n a) (bits_literal m b))
at_one_width o n a m b k c e d l v =
    let P : ℕ → Type 0 = λ x. Refines (bits_literal x c) (bits_of_two o (bits_literal n a) (bits_literal m b)) in
    let Q : ℕ → Type 0 = λ x. Refines (bits_literal n c) (bits_of_two o (bits_literal n a) (bits_literal x b)) in
    let V : ℕ → Type 0 = λ x. (I : Interpretation) → apply I o (BitVecType n) (BitVecValue n a ∷ BitVecValue x b ∷ []) ≡ BitVecValue n c in
    subst P (sym d) (subst Q e (bits_answered o n a b c (subst (λ (x : ℕ). c < 2 ^ x) d l) (subst V (sym e) v)))

value_stands : (o : PlainOp) (a b c : BitVec) → (width_of a ≡ width_of b → IsValue o a b c) → Refines (literal_of c) (bits_of_two o (literal_of a) (literal_of b))
value_stands o a b c v = by (width_of a == width_of b) refl
  where
    u : PlainTerm
    u = bits_of_two o (literal_of a) (literal_of b)

    never : (width_of a == width_of b) ≡ false → typed (bits_of_two o (literal_of a) (literal_of b)) ≡ true → ⊥
    never e h =
        let w : width_of a ≡ width_of b = widths_agree o (width_of a) (width_of b) (second_so true (is_type (result_type o (BitVecType (width_of a) ∷ BitVecType (width_of b) ∷ [])) (BitVecType (width_of a))) h) in
        false≢true (sym e ∙ eq-eqb (width_of a) (width_of b) w)

    by : (x : Bool) → (width_of a == width_of b) ≡ x → Refines (literal_of c) (bits_of_two o (literal_of a) (literal_of b))
    by true e = let w = eqb-true (width_of a) (width_of b) e in at_one_width o (width_of a) (number_of a) (width_of b) (number_of b) (width_of c) (number_of c) w (v w).same_width c.below_width (λ I. bits_value (value_at I o a b) (width_of a) (number_of c) a.width.at_least_one ((v w).value_width I) ((v w).value_number I))
    by false e =
        literal_standing (BitVecLiteral (width_of c) (number_of c)) u (λ f. bits_formed (width_of c) (number_of c) c.below_width ((c.width.at_least_one, c.width.at_most_128), tt))
        (λ h. absurd (never e h)) (λ enums I h f g. absurd (never e h))

pub stands_by : (answers : BitVec → BitVec → Result BitVec BitVecError → Type 0) (o : PlainOp) (t u r : PlainTerm) → AnswersValues answers o → IsFoldedBy answers o t u r → Refines r (bits_of_two o t u)
stands_by answers o t u r v (inl (c, a, e)) =
    let P : PlainTerm → Type 0 = λ x. Refines x (bits_of_two o t u) in
    let Q : PlainTerm → Type 0 = λ x. Refines (literal_of c) (bits_of_two o x u) in
    let R : PlainTerm → Type 0 = λ x. Refines (literal_of c) (bits_of_two o (literal_of a.left) x) in
    subst P (sym e) (subst Q (sym a.first) (subst R (sym a.second) (value_stands o a.left a.right c (λ w. v a.left a.right c w a.gives))))
stands_by answers o t u r v (inr (w, e)) = let P : PlainTerm → Type 0 = λ x. Refines x (bits_of_two o t u) in subst P (sym e) (itself (bits_of_two o t u))

-- what tells an overflow stands for the test
pub stands_by_overflow : (answers : ℤ → ℤ → Option ℤ → Type 0) (o : PlainOp) (t u r : PlainTerm) → TellsOverflow answers o → IsOverflowBy answers o t u r → Refines r (test_of_two o t u)
stands_by_overflow answers o t u r v (inl (b, a, e)) =
    let P : PlainTerm → Type 0 = λ x. Refines x (test_of_two o t u) in
    let Q : PlainTerm → Type 0 = λ x. Refines (truth_literal b) (test_of_two o x u) in
    let R : PlainTerm → Type 0 = λ x. Refines (truth_literal b) (test_of_two o (literal_of a.left) x) in
    let S : ℕ → Type 0 = λ n. Refines (truth_literal b) (test_of_two o (literal_of a.left) (bits_literal n (number_of a.right))) in
    let B : Bool → Type 0 = λ x. Refines (truth_literal x) (test_of_two o (literal_of a.left) (bits_literal (width_of a.left) (number_of a.right))) in
    let h = test_answered o (width_of a.left) (number_of a.left) (width_of a.left) (number_of a.right) (leaves (width_of a.left) a.answer) (v a.left a.right a.answer a.widths a.gives) in
    subst P (sym e) (subst Q (sym a.first) (subst R (sym a.second) (subst S a.widths (subst B (sym a.tells) h))))
stands_by_overflow answers o t u r v (inr (w, e)) = let P : PlainTerm → Type 0 = λ x. Refines x (test_of_two o t u) in subst P (sym e) (itself (test_of_two o t u))

-- ---- a test at what is no two literals

pub no_test : (o : PlainOp) (f : ℕ → ℕ → ℕ → Bool) (t u : PlainTerm) → NotTwoLiterals t u → folded_test_by o f t u ≡ test_of_two o t u
no_test o f (LiteralTerm (BitVecLiteral n a)) (LiteralTerm (BitVecLiteral m b)) (inl e) = cc
no_test o f (LiteralTerm (BitVecLiteral n a)) (LiteralTerm (BitVecLiteral m b)) (inr e) = cc
no_test o f (LiteralTerm (BitVecLiteral n a)) u e = refl
no_test o f t u e = refl
