-- Clauses of gates are valid.
use Rattle.std.proofs.Common.{◌≡◌, Bool, true, false, ◌&&◌, ◌||◌, refl, sym, ◌∙◌}
use Rattle.std.specs.Prelude.{cond, not}
use Rattle.std.specs.Bool.{beq}
use Rattle.law_clauses.specs.GateClauses.{GatesAreValid}
use Rattle.law_clauses.specs.Statements.{atom_truth}
use Rattle.law_clauses.proofs.Sequents.{or_one}

no_both : (o a : Bool) → o ≡ not a → o ≡ true → a ≡ true → false ≡ true
no_both o true e h k = sym e ∙ h
no_both o false e h k = k

not_one : (o a : Bool) → o ≡ not a → (o || (a || false)) ≡ true
not_one true a e = refl
not_one false true e = refl
not_one false false e = e

and_left : (o a b : Bool) → o ≡ (a && b) → o ≡ true → a ≡ true
and_left o true b e h = refl
and_left o false b e h = sym e ∙ h

and_right : (o a b : Bool) → o ≡ (a && b) → o ≡ true → b ≡ true
and_right o true b e h = sym e ∙ h
and_right o false b e h = absurd (let f : false ≡ true = sym e ∙ h in cc)

and_all : (o a b : Bool) → o ≡ (a && b) → a ≡ true → b ≡ true → o ≡ true
and_all o true b e h k = e ∙ k
and_all o false b e h k = cc

or_left : (o a b : Bool) → o ≡ (a || b) → a ≡ true → o ≡ true
or_left o true b e h = e
or_left o false b e h = cc

or_right : (o a b : Bool) → o ≡ (a || b) → b ≡ true → o ≡ true
or_right o true b e h = e
or_right o false b e h = e ∙ h

or_some : (o a b : Bool) → o ≡ (a || b) → o ≡ true → (a || (b || false)) ≡ true
or_some o true b e h = refl
or_some o false b e h = or_one b (sym e ∙ h)

eq_left : (o a b : Bool) → o ≡ beq a b → o ≡ true → a ≡ true → b ≡ true
eq_left o true true e h k = refl
eq_left o true false e h k = sym e ∙ h
eq_left o false b e h k = cc

eq_right : (o a b : Bool) → o ≡ beq a b → o ≡ true → b ≡ true → a ≡ true
eq_right o true b e h k = refl
eq_right o false true e h k = sym e ∙ h
eq_right o false false e h k = k

eq_all : (o a b : Bool) → o ≡ beq a b → a ≡ true → b ≡ true → o ≡ true
eq_all o true true e h k = e
eq_all o true false e h k = cc
eq_all o false b e h k = cc

eq_none : (o a b : Bool) → o ≡ beq a b → (o || (a || (b || false))) ≡ true
eq_none true a b e = refl
eq_none false true b e = refl
eq_none false false true e = refl
eq_none false false false e = e

ite_yes : (o c a b : Bool) → o ≡ cond c a b → o ≡ true → c ≡ true → a ≡ true
ite_yes o true a b e h k = sym e ∙ h
ite_yes o false a b e h k = cc

ite_no : (o c a b : Bool) → o ≡ cond c a b → o ≡ true → (c || (b || false)) ≡ true
ite_no o true a b e h = refl
ite_no o false a b e h = or_one b (sym e ∙ h)

ite_then : (o c a b : Bool) → o ≡ cond c a b → c ≡ true → a ≡ true → o ≡ true
ite_then o true a b e h k = e ∙ k
ite_then o false a b e h k = cc

ite_else : (o c a b : Bool) → o ≡ cond c a b → b ≡ true → (o || (c || false)) ≡ true
ite_else true c a b e h = refl
ite_else false true a b e h = refl
ite_else false false a b e h = e ∙ h

pub gates_are_valid : GatesAreValid
gates_are_valid = record {
  constant = (λ I h. refl, λ I h. h.0);
  negation = λ o a e. (λ I h. no_both (atom_truth I o) (atom_truth I a) (e I) h.0 h.1.0, (λ I h. not_one (atom_truth I o) (atom_truth I a) (e I), tt));
  conjunction = λ o a b e. (λ I h. or_one _ (and_left (atom_truth I o) (atom_truth I a) (atom_truth I b) (e I) h.0), (λ I h. or_one _ (and_right (atom_truth I o) (atom_truth I a) (atom_truth I b) (e I) h.0), (λ I h. or_one _ (and_all (atom_truth I o) (atom_truth I a) (atom_truth I b) (e I) h.0 h.1.0), tt)));
  disjunction = λ o a b e. (λ I h. or_one _ (or_left (atom_truth I o) (atom_truth I a) (atom_truth I b) (e I) h.0), (λ I h. or_one _ (or_right (atom_truth I o) (atom_truth I a) (atom_truth I b) (e I) h.0), (λ I h. or_some (atom_truth I o) (atom_truth I a) (atom_truth I b) (e I) h.0, tt)));
  equality = λ o a b e. (λ I h. or_one _ (eq_left (atom_truth I o) (atom_truth I a) (atom_truth I b) (e I) h.0 h.1.0), (λ I h. or_one _ (eq_right (atom_truth I o) (atom_truth I a) (atom_truth I b) (e I) h.0 h.1.0), (λ I h. or_one _ (eq_all (atom_truth I o) (atom_truth I a) (atom_truth I b) (e I) h.0 h.1.0), (λ I h. eq_none (atom_truth I o) (atom_truth I a) (atom_truth I b) (e I), tt))));
  choice = λ o c a b e. (λ I h. or_one _ (ite_yes (atom_truth I o) (atom_truth I c) (atom_truth I a) (atom_truth I b) (e I) h.0 h.1.0), (λ I h. ite_no (atom_truth I o) (atom_truth I c) (atom_truth I a) (atom_truth I b) (e I) h.0, (λ I h. or_one _ (ite_then (atom_truth I o) (atom_truth I c) (atom_truth I a) (atom_truth I b) (e I) h.0 h.1.0), (λ I h. ite_else (atom_truth I o) (atom_truth I c) (atom_truth I a) (atom_truth I b) (e I) h.0, tt))));
}
