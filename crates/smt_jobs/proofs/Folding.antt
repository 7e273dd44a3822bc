-- Where nothing is folded: each operator at terms of which no folding knows enough.
use Rattle.std.proofs.Common.{◌≡◌, Bool, true, false, [], ◌∷◌, None, refl, sym, ap, ◌∙◌}
use Rattle.std.specs.Prelude.{◌&&◌, ◌||◌}
use Rattle.std.proofs.lemmas.Bool.{false≢true}
use Rattle.law_folding.specs.Applications.{bits_of_two, bvneg_of, bvnego_of, eq_of, ite_of, not_of, test_of_two, truth_literal}
use Rattle.law_folding.specs.FoldBits.{folded_bits, folded_bvneg, folded_bvnego, folded_test_by}
use Rattle.law_folding.specs.FoldConnectives.{are_opposites, folded_not}
use Rattle.law_folding.specs.FoldEquality.{folded_eq, folded_eq_inside, folded_ite, folded_ite_inside}
use Rattle.law_folding.specs.Parts.{negated, negated_bits}
use Rattle.law_numbers.specs.BitOperators.{BitsOperator, overflow_entry, test_entry}
use Rattle.law_terms.specs.Literals.{is_literal}
use Rattle.law_terms.specs.Plain.{PlainOp, AndOp, BvnegOp, BvnegoOp, EqOp, IteOp, NotOp, OrOp, BitsOp, OverflowOp, TestOp, BitVecLiteral, BoolLiteral, PlainTerm, Application, LiteralTerm, NoneTerm, SomeTerm, VariableTerm, terms}
use Rattle.law_terms.specs.TermOrder.{term_eq}
use Rattle.law_terms.proofs.Places.{test_back}
use Rattle.law_terms.proofs.TermTotal.{terms_decided}
use Rattle.smt_jobs.specs.Applied.{AreApart, Stays}
use Rattle.smt_jobs.specs.Labels.{is_bits_negation, is_bits_operator, is_bits_test, is_choice, is_connective, is_equality, is_negation, is_open, is_truth}

-- ---- what is open is no literal, and what is no truth value is neither true nor false

is_one : (t : PlainTerm) (b : Bool) → t ≡ truth_literal b → is_truth t ≡ true
is_one t b e = ap is_truth e

by_eq : (t : PlainTerm) (b c : Bool) → term_eq t (truth_literal b) ≡ c → is_truth t ≡ false → c ≡ false
by_eq t b false e h = refl
by_eq t b true e h = absurd (false≢true (sym h ∙ is_one t b ((terms_decided t (truth_literal b)).0 e)))

no_truth : (t : PlainTerm) (b : Bool) → is_truth t ≡ false → term_eq t (truth_literal b) ≡ false
no_truth t b h = by_eq t b (term_eq t (truth_literal b)) refl h

open_no_literal : (t : PlainTerm) → is_open t ≡ true → is_literal t ≡ false
open_no_literal (Application o ts ty) h = refl
open_no_literal (VariableTerm id ty) h = refl
open_no_literal t h = absurd (false≢true h)

either_open : (a b : Bool) → (a || b) ≡ true → (t u : PlainTerm) → is_open t ≡ a → is_open u ≡ b → (is_literal t && is_literal u) ≡ false
either_open true b h t u e f = ap (λ x. x && is_literal u) (open_no_literal t e)
either_open false b h t u e f = ap (λ x. is_literal t && x) (open_no_literal u (f ∙ h)) ∙ none (is_literal t)
  where
    none : (x : Bool) → (x && false) ≡ false
    none true = refl
    none false = refl

not_both_literals : (t u : PlainTerm) → (is_open t || is_open u) ≡ true → (is_literal t && is_literal u) ≡ false
not_both_literals t u h = either_open (is_open t) (is_open u) h t u refl refl

-- ---- one operand

not_stands : (t : PlainTerm) → is_truth t ≡ false → negated t ≡ None → folded_not t ≡ not_of t
not_stands (LiteralTerm (BoolLiteral b)) h n = absurd (false≢true (sym h))
not_stands (LiteralTerm l) h n = refl
not_stands (Application o ts ty) h n = rw (n) refl
not_stands t h n = refl

unnegated : (t : PlainTerm) → is_negation t ≡ false → negated t ≡ None
unnegated (Application NotOp ts ty) h = absurd (false≢true (sym h))
unnegated t h = refl

pub stays_not : (t : PlainTerm) → is_truth t ≡ false → is_negation t ≡ false → Stays NotOp (t ∷ [])
stays_not t h n ty r = not_stands t h (unnegated t n) ∙ ap (Application NotOp (terms (t ∷ []))) (test_back _ _ _ r).1

bvneg_stands : (t : PlainTerm) → is_open t ≡ true → negated_bits t ≡ None → folded_bvneg t ≡ bvneg_of t
bvneg_stands (Application o ts ty) h n = rw (n) refl
bvneg_stands (VariableTerm id ty) h n = refl
bvneg_stands t h n = absurd (false≢true h)

unnegated_bits : (t : PlainTerm) → is_bits_negation t ≡ false → negated_bits t ≡ None
unnegated_bits (Application BvnegOp ts ty) h = absurd (false≢true (sym h))
unnegated_bits t h = refl

pub stays_bvneg : (t : PlainTerm) → is_open t ≡ true → is_bits_negation t ≡ false → Stays BvnegOp (t ∷ [])
stays_bvneg t h n ty r = bvneg_stands t h (unnegated_bits t n) ∙ ap (Application BvnegOp (terms (t ∷ []))) (test_back _ _ _ r).1

bvnego_stands : (t : PlainTerm) → is_open t ≡ true → folded_bvnego t ≡ bvnego_of t
bvnego_stands (Application o ts ty) h = refl
bvnego_stands (VariableTerm id ty) h = refl
bvnego_stands t h = absurd (false≢true h)

pub stays_bvnego : (t : PlainTerm) → is_open t ≡ true → Stays BvnegoOp (t ∷ [])
stays_bvnego t h ty r = bvnego_stands t h ∙ ap (Application BvnegoOp (terms (t ∷ []))) (test_back _ _ _ r).1

-- ---- two operands

module _ (t u : PlainTerm) (a : AreApart t u) where
  stays_and : are_opposites t u ≡ false → Stays AndOp (t ∷ u ∷ [])
  stays_and o ty r =
      rw (a.differ, no_truth u true a.second, no_truth t true a.first, no_truth t false a.first, no_truth u false a.second, o) (ap (Application AndOp (terms (t ∷ u ∷ []))) (test_back _ _ _ r).1)

  stays_or : are_opposites t u ≡ false → Stays OrOp (t ∷ u ∷ [])
  stays_or o ty r =
      rw (a.differ, no_truth u false a.second, no_truth t false a.first, no_truth t true a.first, no_truth u true a.second, o) (ap (Application OrOp (terms (t ∷ u ∷ []))) (test_back _ _ _ r).1)

  pub stays_connective : (o : PlainOp) → is_connective o ≡ true → are_opposites t u ≡ false → Stays o (t ∷ u ∷ [])
  stays_connective AndOp k o = stays_and o
  stays_connective OrOp k o = stays_or o
  stays_connective p k o = absurd (false≢true k)

  eq_stands : (is_literal t && is_literal u) ≡ false → folded_eq_inside t u ≡ eq_of t u
  eq_stands l = rw (a.differ, l, no_truth t true a.first, no_truth u true a.second, no_truth t false a.first, no_truth u false a.second) refl

  ite_stands : (g : PlainTerm) → is_truth g ≡ false → folded_ite_inside g t u ≡ ite_of g t u
  ite_stands g h = rw (no_truth g true h, a.differ, no_truth g false h, no_truth t true a.first, no_truth t false a.first, no_truth u false a.second) refl

eq_inside : (t u : PlainTerm) → (is_open t || is_open u) ≡ true → folded_eq t u ≡ folded_eq_inside t u
eq_inside (SomeTerm t) (SomeTerm u) h = absurd (false≢true h)
eq_inside (SomeTerm t) (NoneTerm ty) h = absurd (false≢true h)
eq_inside (NoneTerm ty) (SomeTerm u) h = absurd (false≢true h)
eq_inside (SomeTerm t) u h = refl
eq_inside (NoneTerm ty) u h = refl
eq_inside t u h = refl

pub stays_equality : (o : PlainOp) → is_equality o ≡ true → (t u : PlainTerm) → AreApart t u → (is_open t || is_open u) ≡ true → Stays o (t ∷ u ∷ [])
stays_equality EqOp k t u a h ty r = eq_inside t u h ∙ eq_stands t u a (not_both_literals t u h) ∙ ap (Application EqOp (terms (t ∷ u ∷ []))) (test_back _ _ _ r).1
stays_equality o k t u a h ty r = absurd (false≢true k)

bits_stand : (o : BitsOperator) (t u : PlainTerm) → (is_open t || is_open u) ≡ true → folded_bits o t u ≡ bits_of_two (BitsOp o) t u
bits_stand o (LiteralTerm (BitVecLiteral n a)) (LiteralTerm (BitVecLiteral m b)) h = absurd (false≢true h)
bits_stand o (LiteralTerm (BitVecLiteral n a)) u h = refl
bits_stand o t u h = refl

stays_bits : (o : PlainOp) → is_bits_operator o ≡ true → (t u : PlainTerm) → (is_open t || is_open u) ≡ true → Stays o (t ∷ u ∷ [])
stays_bits (BitsOp o) k t u h ty r = bits_stand o t u h ∙ ap (Application (BitsOp o) (terms (t ∷ u ∷ []))) (test_back _ _ _ r).1
stays_bits o k t u h ty r = absurd (false≢true k)

tests_stand : (o : PlainOp) (f : _) (t u : PlainTerm) → (is_open t || is_open u) ≡ true → folded_test_by o f t u ≡ test_of_two o t u
tests_stand o f (LiteralTerm (BitVecLiteral n a)) (LiteralTerm (BitVecLiteral m b)) h = absurd (false≢true h)
tests_stand o f (LiteralTerm (BitVecLiteral n a)) u h = refl
tests_stand o f t u h = refl

stays_test : (o : PlainOp) → is_bits_test o ≡ true → (t u : PlainTerm) → (is_open t || is_open u) ≡ true → Stays o (t ∷ u ∷ [])
stays_test (TestOp o) k t u h ty r = tests_stand (TestOp o) (test_entry o).function t u h ∙ ap (Application (TestOp o) (terms (t ∷ u ∷ []))) (test_back _ _ _ r).1
stays_test (OverflowOp o) k t u h ty r = tests_stand (OverflowOp o) (overflow_entry o).function t u h ∙ ap (Application (OverflowOp o) (terms (t ∷ u ∷ []))) (test_back _ _ _ r).1
stays_test o k t u h ty r = absurd (false≢true k)

-- ---- three operands

ite_inside : (g t u : PlainTerm) → (is_open t || is_open u) ≡ true → folded_ite g t u ≡ folded_ite_inside g t u
ite_inside g (SomeTerm t) (SomeTerm u) h = absurd (false≢true h)
ite_inside g (SomeTerm t) u h = refl
ite_inside g t u h = refl

pub stays_choice : (o : PlainOp) → is_choice o ≡ true → (g t u : PlainTerm) → is_truth g ≡ false → AreApart t u → (is_open t || is_open u) ≡ true → Stays o (g ∷ t ∷ u ∷ [])
stays_choice IteOp k g t u n a h ty r = ite_inside g t u h ∙ ite_stands t u a g n ∙ ap (Application IteOp (terms (g ∷ t ∷ u ∷ []))) (test_back _ _ _ r).1
stays_choice o k g t u n a h ty r = absurd (false≢true k)

on_bits : (o : PlainOp) (b : Bool) → is_bits_operator o ≡ b → (b || is_bits_test o) ≡ true → (t u : PlainTerm) → (is_open t || is_open u) ≡ true → Stays o (t ∷ u ∷ [])
on_bits o true e h t u k = stays_bits o e t u k
on_bits o false e h t u k = stays_test o h t u k

pub stays_on_bits : (o : PlainOp) → (is_bits_operator o || is_bits_test o) ≡ true → (t u : PlainTerm) → (is_open t || is_open u) ≡ true → Stays o (t ∷ u ∷ [])
stays_on_bits o h t u k = on_bits o (is_bits_operator o) refl h t u k
