-- The foldings of the operators on bits stand for the operators.
use Rattle.std.proofs.Common.{◌≡◌, ℕ, zero, suc, ◌+◌, ◌-◌, ◌%◌, ◌^◌, ◌<◌, Bool, true, false, ◌&&◌, cond, [], ◌∷◌, refl, ap, ◌∙◌, sym, subst, arith}
use Rattle.std.specs.Prelude.{◌==◌}
use Rattle.std.specs.Bool.{then_some}
use Rattle.std.specs.Cmp.{first_so, second_so}
use Rattle.std.specs.List.{AllByRecursion}
use Rattle.std.proofs.Math.Nat.{mod_self, mod-eq_of_lt}
use Rattle.std.proofs.lemmas.Bool.{eqb-true}
use Rattle.law_numbers.specs.BitOperators.{BitsOperator, TestOperator, OverflowOperator, bits_entry, test_entry, overflow_entry}
use Rattle.law_numbers.specs.BitVectors as bits
use Rattle.law_numbers.proofs.BitOperators.{bits_entry-below}
use Rattle.law_numbers.proofs.BitRanges as ranges
use Rattle.law_folding.specs.Applications.{truth_literal, bits_literal, bvneg_of, bits_of_two, test_of_two, bvnego_of, wider_type, zero_extend_of}
use Rattle.law_folding.specs.FoldBits.{folded_bits, folded_bvneg, folded_bvnego, folded_overflow, folded_test, folded_test_by, folded_zero_extend, takes_right}
use Rattle.law_folding.specs.Refinement.{Refines}
use Rattle.law_folding.proofs.ConnectivesStand.{chosen_type, argument, first_argument, second_argument}
use Rattle.law_folding.proofs.Least.{overflow_is}
use Rattle.law_folding.proofs.Standing.{SameMeaning, SameType, itself, one_of, standing, standing_within}
use Rattle.law_terms.specs.Formed.{IsFormedType, IsFormedNode, IsFormed}
use Rattle.law_terms.specs.Interpretations.{IsGiven}
use Rattle.law_terms.specs.Meaning.{meaning}
use Rattle.law_terms.specs.Operators.{width, number, to_truth, apply}
use Rattle.law_terms.specs.Reached.{subterms, subterms_of_all}
use Rattle.law_terms.specs.Shapes.{IsShaped}
use Rattle.law_terms.specs.Tables.{Interpretation}
use Rattle.law_terms.specs.Types.{type_of, is_bits, extended_type, is_type}
use Rattle.law_terms.specs.Typing.{typed}
use Rattle.law_terms.proofs.Shapes.{term_shaped}
use Rattle.law_terms.proofs.Soundness.{all-last}
use Rattle.law_terms.specs.Plain.{PlainType, BitVecType, BoolType, PlainOp, BitsOp, BvnegOp, BvnegoOp, OverflowOp, TestOp, ZeroExtendOp, PlainLiteral, BitVecLiteral, PlainTerm, Application, LiteralTerm, no_terms, one_term, terms}
use Rattle.law_terms.specs.Values.{Value, BoolValue, BitVecValue}

-- ---- a literal in place of an application

-- a literal stands for an application of its type and value
pub literal_standing : (l : PlainLiteral) (u : PlainTerm) → (IsFormed u → IsFormed (LiteralTerm l)) → SameType (LiteralTerm l) u → SameMeaning (LiteralTerm l) u → Refines (LiteralTerm l) u
literal_standing l u f y v = standing (LiteralTerm l) u (λ P q h. (q (LiteralTerm l) (refl, refl, refl, refl), tt)) f y v

pub bits_formed : (n a : ℕ) → a < 2 ^ n → IsFormedType (BitVecType n) → IsFormed (bits_literal n a)
bits_formed n a l f = record { literals = (l, tt); types = (f, tt) }

-- the number of a formed literal is one of its width
in_width : (n a : ℕ) → AllByRecursion IsFormedNode (subterms (bits_literal n a)) → a < 2 ^ n
in_width n a h = h.0

-- ---- two literals

answered : (o : PlainOp) (n a m b c : ℕ) → (IsFormed (bits_of_two o (bits_literal n a) (bits_literal m b)) → c < 2 ^ n) → ((I : Interpretation) → apply I o (BitVecType n) (BitVecValue n a ∷ BitVecValue m b ∷ []) ≡ BitVecValue n c) → Refines (bits_literal n c) (bits_of_two o (bits_literal n a) (bits_literal m b))
answered o n a m b c l e =
    literal_standing (BitVecLiteral n c) u
    (λ g. bits_formed n c (l g) (all-last (λ x. IsFormedType (type_of x)) (subterms_of_all (terms (bits_literal n a ∷ bits_literal m b ∷ []))) u g.types))
    (λ h. (refl, refl)) (λ enums I h g i. sym (e I))
  where
    u : PlainTerm
    u = bits_of_two o (bits_literal n a) (bits_literal m b)

pub bits_answered : (o : PlainOp) (n a b c : ℕ) → c < 2 ^ n → ((I : Interpretation) → apply I o (BitVecType n) (BitVecValue n a ∷ BitVecValue n b ∷ []) ≡ BitVecValue n c) → Refines (bits_literal n c) (bits_of_two o (bits_literal n a) (bits_literal n b))
bits_answered o n a b c l e = answered o n a n b c (λ f. l) e

pub test_answered : (o : PlainOp) (n a m b : ℕ) (c : Bool) → ((I : Interpretation) → apply I o BoolType (BitVecValue n a ∷ BitVecValue m b ∷ []) ≡ BoolValue c) → Refines (truth_literal c) (test_of_two o (bits_literal n a) (bits_literal m b))
test_answered o n a m b c e =
    standing_within (truth_literal c) (test_of_two o (bits_literal n a) (bits_literal m b)) (λ P q h. (q (truth_literal c) tt, tt)) (λ h. (refl, refl)) (λ enums I h g i. sym (e I))

two_literals : (o : BitsOperator) (n a m b : ℕ) → n ≡ m → Refines (bits_literal n ((bits_entry o).function n a b)) (bits_of_two (BitsOp o) (bits_literal n a) (bits_literal m b))
two_literals o n a m b e =
    answered (BitsOp o) n a m b ((bits_entry o).function n a b)
    (λ g. bits_entry-below o n a b (in_width n a (first_argument IsFormedNode (BitsOp o) (bits_literal n a) (bits_literal m b) (BitVecType n) g.literals)) (subst (λ k. b < 2 ^ k) (sym e) (in_width m b (second_argument IsFormedNode (BitsOp o) (bits_literal n a) (bits_literal m b) (BitVecType n) g.literals))))
    (λ I. refl)

pub stands_bits : (o : BitsOperator) (t u : PlainTerm) → Refines (folded_bits o t u) (bits_of_two (BitsOp o) t u)
stands_bits o (LiteralTerm (BitVecLiteral n a)) (LiteralTerm (BitVecLiteral m b)) =
    one_of (n == m && takes_right o b) (bits_literal n ((bits_entry o).function n a b)) (bits_of_two (BitsOp o) (bits_literal n a) (bits_literal m b)) (bits_of_two (BitsOp o) (bits_literal n a) (bits_literal m b))
    (λ h. two_literals o n a m b (eqb-true n m (first_so (n == m) (takes_right o b) h))) (itself (bits_of_two (BitsOp o) (bits_literal n a) (bits_literal m b)))
stands_bits o (LiteralTerm (BitVecLiteral n a)) u = itself (bits_of_two (BitsOp o) (bits_literal n a) u)
stands_bits o t u = itself (bits_of_two (BitsOp o) t u)

module _ (o : PlainOp) (f : ℕ → ℕ → ℕ → Bool) (computed : (I : Interpretation) (v w : Value) → apply I o BoolType (v ∷ w ∷ []) ≡ to_truth f v w) where
  stands_test_by : (t u : PlainTerm) → Refines (folded_test_by o f t u) (test_of_two o t u)
  stands_test_by (LiteralTerm (BitVecLiteral n a)) (LiteralTerm (BitVecLiteral m b)) =
      one_of (n == m) (truth_literal (f n a b)) (test_of_two o (bits_literal n a) (bits_literal m b)) (test_of_two o (bits_literal n a) (bits_literal m b))
      (λ h. test_answered o n a m b (f n a b) (λ I. computed I (BitVecValue n a) (BitVecValue m b)))
      (itself (test_of_two o (bits_literal n a) (bits_literal m b)))
  stands_test_by (LiteralTerm (BitVecLiteral n a)) u = itself (test_of_two o (bits_literal n a) u)
  stands_test_by t u = itself (test_of_two o t u)

pub stands_test : (o : TestOperator) (t u : PlainTerm) → Refines (folded_test o t u) (test_of_two (TestOp o) t u)
stands_test o = stands_test_by (TestOp o) (test_entry o).function (λ I v w. refl)

pub stands_overflow : (o : OverflowOperator) (t u : PlainTerm) → Refines (folded_overflow o t u) (test_of_two (OverflowOp o) t u)
stands_overflow o = stands_test_by (OverflowOp o) (overflow_entry o).function (λ I v w. refl)

-- ---- negation

-- p is the width's power
negated_twice_at : (p a : ℕ) → a < p → a ≡ (p - (p - a) % p) % p
negated_twice_at p zero h =
    let d : p - 0 ≡ p = omega arith in
    let e : (p - 0) % p ≡ 0 = ap (λ k. k % p) d ∙ mod_self p in
    sym (ap (λ k. (p - k) % p) e ∙ e)
negated_twice_at p (suc a) h =
    let e : (p - suc a) % p ≡ p - suc a = mod-eq_of_lt (omega arith) in
    let d : p - (p - suc a) ≡ suc a = omega arith in
    sym (ap (λ k. (p - k) % p) e ∙ (ap (λ k. k % p) d ∙ mod-eq_of_lt h))

bits_twice : (ty : PlainType) (v : Value) → is_bits ty ≡ true → IsShaped ty v → v ≡ BitVecValue (width v) (bits.bvneg (width v) (bits.bvneg (width v) (number v)))
bits_twice (BitVecType n) (BitVecValue m a) e h = ap (BitVecValue m) (negated_twice_at (2 ^ m) a (subst (λ k. a < 2 ^ k) (sym h.0) h.1))
bits_twice (BitVecType n) v e h = elim h [ ]
bits_twice ty v e h = cc

one_parts : (o : PlainOp) (t : PlainTerm) (b : Bool) (a ty : PlainType) → ((typed t && true) && is_type (then_some b a) ty) ≡ true → (typed t ≡ true) × (b ≡ true) × (a ≡ ty)
one_parts o t b a ty h =
    let p : (b ≡ true) × (a ≡ ty) = chosen_type b a ty (second_so (typed t && true) (is_type (then_some b a) ty) h) in
    (first_so (typed t) true (first_so (typed t && true) (is_type (then_some b a) ty) h), p.0, p.1)

bits_back : (t : PlainTerm) (ty : PlainType) → Refines t (bvneg_of (Application BvnegOp (one_term t no_terms) ty))
bits_back t ty =
    standing t u (λ P q h. inner P h) (λ f. record { literals = inner IsFormedNode f.literals; types = inner (λ w. IsFormedType (type_of w)) f.types }) (λ h. ((parts h).0, (parts h).2))
    (λ enums I h f g. bits_twice (type_of t) (meaning I t) (parts h).1 (term_shaped enums I t (parts h).0 (inner IsFormedNode f.literals) (inner (IsGiven enums I) g)))
  where
    x : PlainTerm
    x = Application BvnegOp (one_term t no_terms) ty

    u : PlainTerm
    u = bvneg_of x

    inner : (P : PlainTerm → Type 0) → AllByRecursion P (subterms (bvneg_of (Application BvnegOp (one_term t no_terms) ty))) → AllByRecursion P (subterms t)
    inner P h = argument P BvnegOp t ty (argument P BvnegOp x ty h)

    parts : typed (bvneg_of (Application BvnegOp (one_term t no_terms) ty)) ≡ true → (typed t ≡ true) × (is_bits (type_of t) ≡ true) × (type_of t ≡ ty)
    parts h = one_parts BvnegOp t (is_bits (type_of t)) (type_of t) ty (one_parts BvnegOp x (is_bits ty) ty ty h).0

pub stands_bvneg : (t : PlainTerm) → Refines (folded_bvneg t) (bvneg_of t)
stands_bvneg (LiteralTerm (BitVecLiteral n a)) =
    literal_standing (BitVecLiteral n (bits.bvneg n a)) (bvneg_of (bits_literal n a))
    (λ f. bits_formed n (bits.bvneg n a) (ranges.below n (2 ^ n - a)) (all-last (λ x. IsFormedType (type_of x)) (subterms_of_all (terms (bits_literal n a ∷ []))) (bvneg_of (bits_literal n a)) f.types))
    (λ h. (refl, refl)) (λ enums I h f g. refl)
stands_bvneg (Application BvnegOp (one_term t no_terms) ty) = bits_back t ty
stands_bvneg t = itself (bvneg_of t)

-- ---- the overflow of a negation

pub stands_bvnego : (t : PlainTerm) → Refines (folded_bvnego t) (bvnego_of t)
stands_bvnego (LiteralTerm (BitVecLiteral n a)) =
    standing_within (truth_literal (a == 2 ^ (n - 1))) (bvnego_of (bits_literal n a)) (λ P q h. (q (truth_literal (a == 2 ^ (n - 1))) tt, tt)) (λ h. (refl, refl))
    (λ enums I h f g. (
    let k : IsFormedType (BitVecType n) = (argument (λ x. IsFormedType (type_of x)) BvnegoOp (bits_literal n a) BoolType f.types).0 in
    sym (ap BoolValue (overflow_is n a k.0.0 (in_width n a (argument IsFormedNode BvnegoOp (bits_literal n a) BoolType f.literals))))))
stands_bvnego t = itself (bvnego_of t)

-- ---- more places

not_wider : (k : ℕ) (ty x : PlainType) → is_bits ty ≡ false → is_type (extended_type k ty) x ≡ true → ⊥
not_wider k (BitVecType n) x e h = cc
not_wider k ty x e h = cc

no_bits : (k : ℕ) (t : PlainTerm) → is_bits (type_of t) ≡ false → Refines t (zero_extend_of k t)
no_bits k t e =
    standing t (zero_extend_of k t) (λ P q h. inner P h) (λ f. record { literals = inner IsFormedNode f.literals; types = inner (λ w. IsFormedType (type_of w)) f.types }) (λ h. absurd (never h)) (λ enums I h f g. absurd (never h))
  where
    inner : (P : PlainTerm → Type 0) → AllByRecursion P (subterms (zero_extend_of k t)) → AllByRecursion P (subterms t)
    inner P h = argument P (ZeroExtendOp k) t (wider_type k (type_of t)) h

    never : typed (zero_extend_of k t) ≡ true → ⊥
    never h = not_wider k (type_of t) (wider_type k (type_of t)) e (second_so (typed t && true) (is_type (extended_type k (type_of t)) (wider_type k (type_of t))) h)

no_literal : (k : ℕ) (t : PlainTerm) → Refines (cond (is_bits (type_of t)) (zero_extend_of k t) t) (zero_extend_of k t)
no_literal k t = by (is_bits (type_of t)) refl
  where
    by : (b : Bool) → is_bits (type_of t) ≡ b → Refines (cond b (zero_extend_of k t) t) (zero_extend_of k t)
    by true e = itself (zero_extend_of k t)
    by false e = no_bits k t e

pub stands_zero_extend : (k : ℕ) (t : PlainTerm) → Refines (folded_zero_extend k t) (zero_extend_of k t)
stands_zero_extend k (LiteralTerm (BitVecLiteral n a)) =
    literal_standing (BitVecLiteral (n + k) a) (zero_extend_of k (bits_literal n a))
    (λ f. bits_formed (n + k) a (ranges.wider n k a (in_width n a (argument IsFormedNode (ZeroExtendOp k) (bits_literal n a) (BitVecType (n + k)) f.literals))) (all-last (λ x. IsFormedType (type_of x)) (subterms_of_all (terms (bits_literal n a ∷ []))) (zero_extend_of k (bits_literal n a)) f.types))
    (λ h. (refl, refl)) (λ enums I h f g. refl)
stands_zero_extend k t = no_literal k t
