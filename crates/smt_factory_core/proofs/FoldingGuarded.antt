-- Options by a guard, in the words of the composites, and that what is given stands for what was asked for.
use Rattle.std.proofs.Common.{◌≡◌, ap}
use Rattle.std.specs.Prelude.{Option, Some, None}
use Rattle.law_folding.specs.Builder.{folding}
use Rattle.law_folding.specs.Composites.{if_false, unless}
use Rattle.law_folding.specs.FoldEquality.{folded_ite}
use Rattle.law_folding.proofs.CompositesStand.{stands_if_all_some, stands_if_false, stands_if_some, stands_if_true}
use Rattle.law_terms.specs.Plain.{PlainType, PlainTerm, NoneTerm}
use Rattle.law_terms.specs.Types.{inner_type, type_of}

pub unless-option : (g t : PlainTerm) (x : PlainType) → inner_type (type_of t) ≡ Some x → unless folding g t ≡ folded_ite g (NoneTerm x) t
unless-option g t x e = ap (λ (o : Option PlainType). elim o as (λ _. PlainTerm) [ Some ty ↦ folded_ite g (NoneTerm ty) t | None ↦ if_false folding g t ]) e

pub unless-other : (g t : PlainTerm) → inner_type (type_of t) ≡ None → unless folding g t ≡ if_false folding g t
unless-other g t e = ap (λ (o : Option PlainType). elim o as (λ _. PlainTerm) [ Some ty ↦ folded_ite g (NoneTerm ty) t | None ↦ if_false folding g t ]) e

pub ruleset guarding = (unless-option, unless-other, stands_if_false, stands_if_true, stands_if_some, stands_if_all_some)
