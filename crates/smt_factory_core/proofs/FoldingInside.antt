-- What an option holds, in the words of the folding, and that this stands for what was asked for.
use Rattle.std.proofs.Common.{◌≡◌, [], ◌∷◌, ap, ◌∙◌, sym, subst}
use Rattle.std.specs.Prelude.{Option, Some, None}
use Rattle.law_folding.specs.Applications.{option_get_of, type_inside}
use Rattle.law_folding.specs.FoldOptions.{folded_option_get}
use Rattle.law_folding.specs.Parts.{held}
use Rattle.law_folding.specs.Refinement.{Refines}
use Rattle.law_folding.proofs.OptionsStand.{stands_option_get}
use Rattle.law_terms.specs.Plain.{PlainType, OptionType, OptionGetOp, PlainTerm, Application, SomeTerm, terms}
use Rattle.law_terms.specs.Types.{inner_type, type_of}

pub folded_option_get-held : (t u : PlainTerm) → t ≡ SomeTerm u → folded_option_get t ≡ u
folded_option_get-held t u e = ap folded_option_get e

inside_of : (ty x : PlainType) → inner_type ty ≡ Some x → type_inside ty ≡ x
inside_of (OptionType t) x e = cc
inside_of ty x e = cc

by_type : (t : PlainTerm) (x : PlainType) → inner_type (type_of t) ≡ Some x → (elim (inner_type (type_of t)) [ Some ty ↦ option_get_of t | None ↦ t ]) ≡ Application OptionGetOp (terms (t ∷ [])) x
by_type t x e = ap (λ (o : Option PlainType). elim o as (λ _. PlainTerm) [ Some ty ↦ option_get_of t | None ↦ t ]) e ∙ ap (Application OptionGetOp (terms (t ∷ []))) (inside_of (type_of t) x e)

pub folded_option_get-option : (t : PlainTerm) (x : PlainType) → held t ≡ None → inner_type (type_of t) ≡ Some x → folded_option_get t ≡ Application OptionGetOp (terms (t ∷ [])) x
folded_option_get-option (SomeTerm t) x h e = cc
folded_option_get-option t x h e = by_type t x e

pub folded_option_get-other : (t : PlainTerm) → inner_type (type_of t) ≡ None → folded_option_get t ≡ t
folded_option_get-other (SomeTerm t) e = cc
folded_option_get-other t e = ap (λ (o : Option PlainType). elim o as (λ _. PlainTerm) [ Some ty ↦ option_get_of t | None ↦ t ]) e

pub stands_for_option_get : (r t : PlainTerm) → r ≡ folded_option_get t → Refines r (option_get_of t)
stands_for_option_get r t e = subst (λ (x : PlainTerm). Refines x (option_get_of t)) (sym e) (stands_option_get t)

pub ruleset holding = (folded_option_get-held, folded_option_get-option, folded_option_get-other, stands_for_option_get)
