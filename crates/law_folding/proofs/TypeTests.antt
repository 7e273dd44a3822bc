-- Tests that a term equals the one of its type that is made of a part of the type, as none or the empty set: false where the
-- type has no such part.
use Rattle.std.proofs.Common.{◌≡◌, Bool, true, false, not, [], ◌∷◌, refl, ap, ◌∙◌, sym, subst}
use Rattle.std.specs.Prelude.{Option, Some, None}
use Rattle.std.specs.List.{AllByRecursion}
use Rattle.law_folding.specs.Applications.{false_term, eq_of, never_of}
use Rattle.law_folding.specs.FoldEquality.{folded_eq}
use Rattle.law_folding.specs.Refinement.{Refines}
use Rattle.law_folding.proofs.ConnectivesStand.{argument, first_argument, negated_parts}
use Rattle.law_folding.proofs.EqualityStands.{equal_values, eq_parts, stands_eq}
use Rattle.law_folding.proofs.Reaching.{AsksNothing, Reaches, among}
use Rattle.law_folding.proofs.Records.{HasFormedType}
use Rattle.law_folding.proofs.Standing.{application, itself, last_type, same_type, truth_standing}
use Rattle.law_terms.specs.Formed.{IsFormedNode, IsFormedType, IsFormed}
use Rattle.law_terms.specs.Meaning.{meaning}
use Rattle.law_terms.specs.Reached.{subterms, subterms_of_all, reached_variable, reached_function, opened_of, selector_of}
use Rattle.law_terms.specs.Types.{type_of}
use Rattle.law_terms.specs.Typing.{typed}
use Rattle.law_terms.proofs.Defaults.{all-join}
use Rattle.law_terms.specs.Plain.{PlainType, BoolType, EqOp, NotOp, PlainTerm, terms}
use Rattle.law_terms.specs.Values.{BoolValue}

-- a term is itself
pub stands_never : (t : PlainTerm) → Refines false_term (never_of t)
stands_never t = truth_standing false (never_of t) refl (λ enums I h f g. ap (λ b. BoolValue (not b)) (sym (equal_values (meaning I t) (meaning I t) refl)))

-- what is made of a part of a type: a term by itself that asks for nothing
pub record IsMade (part : PlainType → Option PlainType) (made : PlainType → PlainTerm) : Type 1 where
  pub single : (P : PlainTerm → Type 0) (x : PlainType) → P (made x) → AllByRecursion P (subterms (made x))
  pub asks : (x : PlainType) → AsksNothing (made x)
  pub node : (x : PlainType) → IsFormedNode (made x)
  pub type : (ty x : PlainType) → part ty ≡ Some x → IsFormedType ty → IsFormedType (type_of (made x))

module _ (part : PlainType → Option PlainType) (made : PlainType → PlainTerm) (is : IsMade part made) where
  abbrev pub test_at : Option PlainType → PlainTerm → PlainTerm
  test_at o t = elim o [ Some x ↦ eq_of t (made x) | None ↦ never_of t ]

  abbrev pub test : PlainTerm → PlainTerm
  test t = test_at (part (type_of t)) t

  pub test_is_truth : (o : Option PlainType) (t : PlainTerm) → type_of (test_at o t) ≡ BoolType
  test_is_truth (Some x) t = refl
  test_is_truth None t = refl

  pub test_typed : (o : Option PlainType) (t : PlainTerm) → typed (test_at o t) ≡ true → typed t ≡ true
  test_typed (Some x) t h = (eq_parts t (made x) h).first
  test_typed None t h = (eq_parts t t (negated_parts (eq_of t t) h).0).first

  pub test_folded : (o : Option PlainType) (t : PlainTerm) → Refines (elim o [ Some x ↦ folded_eq t (made x) | None ↦ false_term ]) (test_at o t)
  test_folded (Some x) t = stands_eq t (made x)
  test_folded None t = stands_never t

  -- ---- subterms

  module _ (P : PlainTerm → Type 0) where
    pub inside_test : (o : Option PlainType) (t : PlainTerm) → AllByRecursion P (subterms (test_at o t)) → AllByRecursion P (subterms t)
    inside_test (Some x) t h = first_argument P EqOp t (made x) BoolType h
    inside_test None t h = first_argument P EqOp t t BoolType (argument P NotOp (eq_of t t) BoolType h)

    over_equal : (t u : PlainTerm) → AllByRecursion P (subterms t) → AllByRecursion P (subterms u) → P (eq_of t u) → AllByRecursion P (subterms (eq_of t u))
    over_equal t u h g p =
        all-join P (subterms_of_all (terms (t ∷ u ∷ []))) (eq_of t u ∷ []) (all-join P (subterms t) (subterms_of_all (terms (u ∷ []))) h (all-join P (subterms u) [] g tt)) (p, tt)

    over_test : (o : Option PlainType) (t : PlainTerm) → AllByRecursion P (subterms t) → ((x : PlainType) → o ≡ Some x → P (made x)) → ((u : PlainTerm) → P (eq_of t u)) → P (never_of t) → AllByRecursion P (subterms (test_at o t))
    over_test (Some x) t h m p q = over_equal t (made x) h (is.single P x (m x refl)) (p (made x))
    over_test None t h m p q = all-join P (subterms_of_all (terms (eq_of t t ∷ []))) (never_of t ∷ []) (all-join P (subterms (eq_of t t)) [] (over_equal t t h h (p t)) tt) (q, tt)

  test_reaches : (o : Option PlainType) (t : PlainTerm) → Reaches (test_at o t) t
  test_reaches o t P q h = over_test P o t h (λ x e. q (made x) (is.asks x)) (λ u. q (eq_of t u) (refl, refl, refl, refl)) (q (never_of t) (refl, refl, refl, refl))

  test_formed : (t : PlainTerm) → IsFormed t → IsFormed (test t)
  test_formed t f =
      record { literals = over_test IsFormedNode (part (type_of t)) t f.literals (λ x e. is.node x) (λ u. tt) tt; types = over_test HasFormedType (part (type_of t)) t f.types (λ x e. is.type (type_of t) x e (last_type t f)) (λ u. (tt, tt)) (tt, tt) }

  -- ---- terms that stand for others

  kept_at : (o : Option PlainType) (t u : PlainTerm) → Refines t u → Refines (test_at o t) (test_at o u)
  kept_at (Some x) t u s = application EqOp (t ∷ made x ∷ []) (u ∷ made x ∷ []) BoolType (s, (itself (made x), tt))
  kept_at None t u s = application NotOp (eq_of t t ∷ []) (eq_of u u ∷ []) BoolType (application EqOp (t ∷ t ∷ []) (u ∷ u ∷ []) BoolType (s, (s, tt)), tt)

  test_of_untyped : (t u : PlainTerm) → typed u ≡ false → Refines t u → Refines (test t) (test u)
  test_of_untyped t u e s = record {
    formed = λ f. test_formed t (s.formed (record { literals = inside_test IsFormedNode (part (type_of u)) u f.literals; types = inside_test HasFormedType (part (type_of u)) u f.types }));
    type = λ ty h. absurd (never h.parts);
    variables = λ y m. among reached_variable (λ w a. a.0) u (test u) back y (s.variables y (among reached_variable (λ w a. a.0) (test t) t (test_reaches (part (type_of t)) t) y m));
    functions = λ y m. among reached_function (λ w a. a.1) u (test u) back y (s.functions y (among reached_function (λ w a. a.1) (test t) t (test_reaches (part (type_of t)) t) y m));
    options = λ y m. among opened_of (λ w a. a.2) u (test u) back y (s.options y (among opened_of (λ w a. a.2) (test t) t (test_reaches (part (type_of t)) t) y m));
    selectors = λ y m. among selector_of (λ w a. a.3) u (test u) back y (s.selectors y (among selector_of (λ w a. a.3) (test t) t (test_reaches (part (type_of t)) t) y m));
    value = λ ty enums I f h i. absurd (never h.parts);
  }
    where
      never : typed (test_at (part (type_of u)) u) ≡ true → ⊥
      never h = let k : true ≡ false = sym (test_typed (part (type_of u)) u h) ∙ e in cc

      back : Reaches u (test_at (part (type_of u)) u)
      back P q h = inside_test P (part (type_of u)) u h

  -- the test of a term that stands for another stands for the other's
  pub test_kept : (t u : PlainTerm) → Refines t u → Refines (test t) (test u)
  test_kept t u s = by (typed u) refl
    where
      by : (b : Bool) → typed u ≡ b → Refines (test_at (part (type_of t)) t) (test_at (part (type_of u)) u)
      by true e =
          subst (λ (o : Option PlainType). Refines (test_at o t) (test_at (part (type_of u)) u)) (sym (ap part (same_type t u s e).1)) (kept_at (part (type_of u)) t u s)
      by false e = test_of_untyped t u e s
