-- What the code's tests decide, in the words of the foldings of equality and choice, and that these stand for what was asked for.
use Rattle.std.proofs.Common.{◌≡◌, true, false, None, refl, ap, ◌∙◌, sym, subst}
use Rattle.law_folding.specs.Applications.{false_term, eq_of, ite_of}
use Rattle.law_folding.specs.FoldEquality.{folded_eq, folded_eq_inside, folded_ite, folded_ite_inside}
use Rattle.law_folding.specs.Parts.{are_some, are_some_and_none, held, is_none_term}
use Rattle.law_folding.specs.Refinement.{Refines}
use Rattle.law_folding.proofs.EqualityStands.{stands_eq, stands_ite}
use Rattle.law_terms.specs.Plain.{PlainTerm, NoneTerm, SomeTerm}

-- two `some`, some and none, and all else
pub are_some-first : (t u : PlainTerm) → held t ≡ None → are_some t u ≡ false
are_some-first (SomeTerm t) u e = cc
are_some-first t u e = refl

pub are_some-second : (t u : PlainTerm) → held u ≡ None → are_some t u ≡ false
are_some-second (SomeTerm t) (SomeTerm u) e = cc
are_some-second (SomeTerm t) u e = refl
are_some-second t u e = refl

pub some_and_none-some : (t u v : PlainTerm) → t ≡ SomeTerm v → are_some_and_none t u ≡ is_none_term u
some_and_none-some t u v e = ap (λ x. are_some_and_none x u) e ∙ of_some u
  where
    of_some : (x : PlainTerm) → are_some_and_none (SomeTerm v) x ≡ is_none_term x
    of_some (NoneTerm ty) = refl
    of_some x = refl

pub some_and_none-other : (t u : PlainTerm) → held t ≡ None → are_some_and_none t u ≡ false
some_and_none-other (SomeTerm t) u e = cc
some_and_none-other t u e = refl

pub folded_eq-held : (t u a b : PlainTerm) → t ≡ SomeTerm a → u ≡ SomeTerm b → folded_eq t u ≡ folded_eq_inside a b
folded_eq-held t u a b e d = λ i. folded_eq (e i) (d i)

pub folded_eq-apart : (t u : PlainTerm) → are_some_and_none t u ≡ true → folded_eq t u ≡ false_term
folded_eq-apart (SomeTerm t) (NoneTerm ty) e = refl
folded_eq-apart (SomeTerm t) u e = cc
folded_eq-apart t u e = cc

pub folded_eq-turned : (t u : PlainTerm) → are_some_and_none u t ≡ true → folded_eq t u ≡ false_term
folded_eq-turned (NoneTerm ty) (SomeTerm u) e = refl
folded_eq-turned t (SomeTerm u) e = cc
folded_eq-turned t u e = cc

pub folded_eq-inside : (t u : PlainTerm) → are_some t u ≡ false → are_some_and_none t u ≡ false → are_some_and_none u t ≡ false → folded_eq t u ≡ folded_eq_inside t u
folded_eq-inside (SomeTerm t) (SomeTerm u) e d f = cc
folded_eq-inside (SomeTerm t) (NoneTerm ty) e d f = cc
folded_eq-inside (NoneTerm ty) (SomeTerm u) e d f = cc
folded_eq-inside (SomeTerm t) u e d f = refl
folded_eq-inside (NoneTerm ty) u e d f = refl
folded_eq-inside t u e d f = refl

pub folded_ite-held : (g t u a b : PlainTerm) → t ≡ SomeTerm a → u ≡ SomeTerm b → folded_ite g t u ≡ SomeTerm (folded_ite_inside g a b)
folded_ite-held g t u a b e d = λ i. folded_ite g (e i) (d i)

pub folded_ite-inside : (g t u : PlainTerm) → are_some t u ≡ false → folded_ite g t u ≡ folded_ite_inside g t u
folded_ite-inside g (SomeTerm t) (SomeTerm u) e = cc
folded_ite-inside g (SomeTerm t) u e = refl
folded_ite-inside g t u e = refl

-- ---- what is folded stands for what was asked for

pub stands_for_eq : (r t u : PlainTerm) → r ≡ folded_eq t u → Refines r (eq_of t u)
stands_for_eq r t u e = subst (λ (x : PlainTerm). Refines x (eq_of t u)) (sym e) (stands_eq t u)

pub stands_for_ite : (r g t u : PlainTerm) → r ≡ folded_ite g t u → Refines r (ite_of g t u)
stands_for_ite r g t u e = subst (λ (x : PlainTerm). Refines x (ite_of g t u)) (sym e) (stands_ite g t u)

-- for equality
pub ruleset comparing = (folded_eq-held, folded_eq-apart, folded_eq-turned, folded_eq-inside, stands_for_eq)

-- for choice
pub ruleset choosing = (folded_ite-held, folded_ite-inside, stands_for_ite)

-- for what two options hold
pub ruleset holding = (are_some-first, are_some-second, some_and_none-some, some_and_none-other)
