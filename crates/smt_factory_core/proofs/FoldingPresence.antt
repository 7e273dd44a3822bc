-- What the code's tests of options decide, in the words of the foldings.
use Rattle.std.proofs.Common.{◌≡◌, true, false, List, refl, ap}
use Rattle.std.specs.Prelude.{Option, Some, None}
use Rattle.law_folding.specs.Applications.{false_term}
use Rattle.law_folding.specs.Builder.{folding}
use Rattle.law_folding.specs.Composites.{is_none, none_by_type}
use Rattle.law_folding.specs.FoldConnectives.{folded_not}
use Rattle.law_folding.specs.FoldEquality.{folded_eq}
use Rattle.law_folding.specs.FoldOptions.{none_by_branches, none_by_arguments, none_by_form}
use Rattle.law_folding.specs.Parts.{held, is_none_term}
use Rattle.law_folding.proofs.CompositesStand.{stands_is_some}
use Rattle.law_folding.proofs.OptionsStand.{stands_is_none}
use Rattle.law_terms.proofs.Listed.{listed}
use Rattle.law_terms.specs.Plain.{PlainType, IteOp, PlainTerm, Application, NoneTerm, SomeTerm, terms}
use Rattle.law_terms.specs.Types.{inner_type, type_of}

pub by_branches-some : (g t u a b : PlainTerm) → t ≡ SomeTerm a → u ≡ SomeTerm b → none_by_branches g t u ≡ Some false_term
by_branches-some g t u a b e d = λ i. none_by_branches g (e i) (d i)

pub by_branches-negated : (g t u a : PlainTerm) → t ≡ SomeTerm a → is_none_term u ≡ true → none_by_branches g t u ≡ Some (folded_not g)
by_branches-negated g t (NoneTerm ty) a e d = ap (λ x. none_by_branches g x (NoneTerm ty)) e
by_branches-negated g t u a e d = cc

pub by_branches-guard : (g t u b : PlainTerm) → is_none_term t ≡ true → u ≡ SomeTerm b → none_by_branches g t u ≡ Some g
by_branches-guard g (NoneTerm ty) u b e d = ap (none_by_branches g (NoneTerm ty)) d
by_branches-guard g t u b e d = cc

pub by_branches-first : (g t u : PlainTerm) → held u ≡ None → is_none_term u ≡ false → none_by_branches g t u ≡ None
by_branches-first g t (SomeTerm u) e d = cc
by_branches-first g t (NoneTerm ty) e d = cc
by_branches-first g (SomeTerm t) u e d = refl
by_branches-first g (NoneTerm ty) u e d = refl
by_branches-first g t u e d = refl

pub by_branches-second : (g t u : PlainTerm) → held t ≡ None → is_none_term t ≡ false → none_by_branches g t u ≡ None
by_branches-second g (SomeTerm t) u e d = cc
by_branches-second g (NoneTerm ty) u e d = cc
by_branches-second g t u e d = refl

pub by_branches-neither : (g t u : PlainTerm) → held t ≡ None → held u ≡ None → none_by_branches g t u ≡ None
by_branches-neither g (SomeTerm t) u e d = cc
by_branches-neither g t (SomeTerm u) e d = cc
by_branches-neither g (NoneTerm ty) u e d = refl
by_branches-neither g t u e d = refl

pub by_form-choice : (ts : List PlainTerm) (ty : PlainType) → none_by_form (Application IteOp (terms ts) ty) ≡ none_by_arguments ts
by_form-choice ts ty = ap none_by_arguments (listed ts)

pub by_type-option : (t : PlainTerm) (x : PlainType) → inner_type (type_of t) ≡ Some x → none_by_type folding t ≡ folded_eq t (NoneTerm x)
by_type-option t x e = ap (λ (o : Option PlainType). elim o as (λ _. PlainTerm) [ Some ty ↦ folded_eq t (NoneTerm ty) | None ↦ false_term ]) e

pub by_type-other : (t : PlainTerm) → inner_type (type_of t) ≡ None → none_by_type folding t ≡ false_term
by_type-other t e = ap (λ (o : Option PlainType). elim o as (λ _. PlainTerm) [ Some ty ↦ folded_eq t (NoneTerm ty) | None ↦ false_term ]) e

pub is_none-known : (t r : PlainTerm) → none_by_form t ≡ Some r → is_none folding t ≡ r
is_none-known t r e = ap (λ (o : Option PlainTerm). elim o as (λ _. PlainTerm) [ Some x ↦ x | None ↦ none_by_type folding t ]) e

pub is_none-unknown : (t : PlainTerm) → none_by_form t ≡ None → is_none folding t ≡ none_by_type folding t
is_none-unknown t e = ap (λ (o : Option PlainTerm). elim o as (λ _. PlainTerm) [ Some x ↦ x | None ↦ none_by_type folding t ]) e

pub ruleset presence = (by_branches-some, by_branches-negated, by_branches-guard, by_branches-first, by_branches-second, by_branches-neither, by_form-choice, by_type-option, by_type-other, is_none-known, is_none-unknown, stands_is_none, stands_is_some)
