-- What is answered for operators where nothing is found.
use Rattle.std.proofs.Common.{◌≡◌, ◌<◌, ◌≤◌, List, [], ◌∷◌, Option, None, get_or, length, map, refl, subst, arith}
use Rattle.law_assignments.specs.Assignments.{PlainAssignment}
use Rattle.law_terms.specs.Plain.{AndOp, BitsOp, BvnegOp, BvnegoOp, EqOp, ExtOp, IteOp, NotOp, OptionGetOp, OrOp, OverflowOp, PlainOp, RecordGetOp, SetInterOp, SetMemberOp, SetSubsetOp, StringLikeOp, TestOp, UufOp, ZeroExtendOp, PlainTerm, Application, NoneTerm, LiteralTerm, RecordTerm, SetTerm, SomeTerm, VariableTerm}
use Rattle.smt_term.specs.View.{plain_term}
use Rattle.smt_term.specs.declared.term.Term.{Term}
use Rattle.smt_eval.specs.Evaluable.{Answers, IsNoNone}

-- ---- `option.get`

module _ (a : PlainAssignment) where
  pub no_none : (t : PlainTerm) → IsNoNone t → Answers a OptionGetOp (t ∷ []) None
  no_none (NoneTerm u) other ty typed = absurd other
  no_none (Application o ts u) other ty typed = refl
  no_none (LiteralTerm l) other ty typed = refl
  no_none (RecordTerm fs) other ty typed = refl
  no_none (SetTerm u ts) other ty typed = refl
  no_none (SomeTerm t) other ty typed = refl
  no_none (VariableTerm id u) other ty typed = refl

-- ---- neither one argument nor two

module _ (a : PlainAssignment) where
  pub at_none_of : (o : PlainOp) → Answers a o [] None
  at_none_of AndOp ty typed = refl
  at_none_of BvnegOp ty typed = refl
  at_none_of BvnegoOp ty typed = refl
  at_none_of EqOp ty typed = refl
  at_none_of (ExtOp p) ty typed = refl
  at_none_of IteOp ty typed = refl
  at_none_of NotOp ty typed = refl
  at_none_of OptionGetOp ty typed = refl
  at_none_of OrOp ty typed = refl
  at_none_of (RecordGetOp x) ty typed = refl
  at_none_of SetInterOp ty typed = refl
  at_none_of SetMemberOp ty typed = refl
  at_none_of SetSubsetOp ty typed = refl
  at_none_of (StringLikeOp p) ty typed = refl
  at_none_of (UufOp f) ty typed = refl
  at_none_of (ZeroExtendOp n) ty typed = refl
  at_none_of (BitsOp p) ty typed = refl
  at_none_of (TestOp p) ty typed = refl
  at_none_of (OverflowOp p) ty typed = refl

  pub at_many : (o : PlainOp) (t u v : PlainTerm) (ts : List PlainTerm) → Answers a o (t ∷ u ∷ v ∷ ts) None
  at_many AndOp t u v ts ty typed = refl
  at_many BvnegOp t u v ts ty typed = refl
  at_many BvnegoOp t u v ts ty typed = refl
  at_many EqOp t u v ts ty typed = refl
  at_many (ExtOp p) t u v ts ty typed = refl
  at_many IteOp t u v ts ty typed = refl
  at_many NotOp t u v ts ty typed = refl
  at_many OptionGetOp t u v ts ty typed = refl
  at_many OrOp t u v ts ty typed = refl
  at_many (RecordGetOp x) t u v ts ty typed = refl
  at_many SetInterOp t u v ts ty typed = refl
  at_many SetMemberOp t u v ts ty typed = refl
  at_many SetSubsetOp t u v ts ty typed = refl
  at_many (StringLikeOp p) t u v ts ty typed = refl
  at_many (UufOp f) t u v ts ty typed = refl
  at_many (ZeroExtendOp n) t u v ts ty typed = refl
  at_many (BitsOp p) t u v ts ty typed = refl
  at_many (TestOp p) t u v ts ty typed = refl
  at_many (OverflowOp p) t u v ts ty typed = refl

  pub few_answers : (o : PlainOp) (xs : List Term) → length xs < 1 → Answers a o (map plain_term xs) None
  few_answers o [] l = at_none_of o
  few_answers o (x ∷ xs) l = absurd (omega (arith, l))

  pub many_answers : (o : PlainOp) (xs : List Term) → 3 ≤ length xs → Answers a o (map plain_term xs) None
  many_answers o (x ∷ y ∷ z ∷ xs) l = at_many o (plain_term x) (plain_term y) (plain_term z) (map plain_term xs)
  many_answers o [] l = absurd (omega (arith, l))
  many_answers o (x ∷ []) l = absurd (omega (arith, l))
  many_answers o (x ∷ y ∷ []) l = absurd (omega (arith, l))

  pub two_answers : (o : PlainOp) (xs : List Term) (x y : Term) (found : Option PlainTerm) → 2 ≤ length xs → length xs < 3 → x ≡ get_or xs 0 x → y ≡ get_or xs 1 y → Answers a o (plain_term x ∷ plain_term y ∷ []) found → Answers a o (map plain_term xs) found
  two_answers o (v ∷ w ∷ []) x y found l m p q h = subst (λ (ts : List PlainTerm). Answers a o ts found) (λ i. plain_term (p i) ∷ plain_term (q i) ∷ []) h
  two_answers o [] x y found l m p q h = absurd (omega (arith, l))
  two_answers o (v ∷ []) x y found l m p q h = absurd (omega (arith, l))
  two_answers o (v ∷ w ∷ z ∷ xs) x y found l m p q h = absurd (omega (arith, m))
