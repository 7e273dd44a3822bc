-- What the code's tests decide, in the words of the foldings of connectives, and that these stand for what was asked for.
use Rattle.std.proofs.Common.{◌≡◌, Some, refl, sym, subst}
use Rattle.law_folding.specs.Applications.{not_of, and_of, or_of}
use Rattle.law_folding.specs.FoldConnectives.{folded_not, is_negation, folded_and, folded_or}
use Rattle.law_folding.specs.Parts.{negated}
use Rattle.law_folding.specs.Refinement.{Refines}
use Rattle.law_folding.proofs.CompositesStand.{stands_implies}
use Rattle.law_folding.proofs.ConnectivesStand.{stands_not, stands_and, stands_or}
use Rattle.law_terms.specs.Plain.{NotOp, PlainTerm, Application, no_terms, one_term}
use Rattle.law_terms.specs.TermOrder.{term_eq}

pub is_negation-some : (t u v : PlainTerm) → negated u ≡ Some v → is_negation t u ≡ term_eq t v
is_negation-some t (Application NotOp (one_term w no_terms) ty) v e = let same : w ≡ v = cc in let P : PlainTerm → Type 0 = λ x. term_eq t w ≡ term_eq t x in subst P same refl
is_negation-some t u v e = cc

pub stands_for_not : (r t : PlainTerm) → r ≡ folded_not t → Refines r (not_of t)
stands_for_not r t e = subst (λ (x : PlainTerm). Refines x (not_of t)) (sym e) (stands_not t)

pub stands_for_and : (r t u : PlainTerm) → r ≡ folded_and t u → Refines r (and_of t u)
stands_for_and r t u e = subst (λ (x : PlainTerm). Refines x (and_of t u)) (sym e) (stands_and t u)

pub stands_for_or : (r t u : PlainTerm) → r ≡ folded_or t u → Refines r (or_of t u)
stands_for_or r t u e = subst (λ (x : PlainTerm). Refines x (or_of t u)) (sym e) (stands_or t u)

pub ruleset folding = (is_negation-some, stands_for_not, stands_for_and, stands_for_or, stands_implies)
