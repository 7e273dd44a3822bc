-- The foldings of the connectives stand for the connectives.
use Rattle.std.proofs.Common.{◌≡◌, Bool, true, false, not, ◌&&◌, ◌||◌, cond, List, [], ◌∷◌, refl, ap, ◌∙◌, sym, subst, ⊎_elim}
use Rattle.std.specs.Bool.{then_some}
use Rattle.std.specs.Cmp.{first_so, second_so}
use Rattle.std.specs.Cmp.Derive.{both_true}
use Rattle.std.specs.List.{AllByRecursion, list_any}
use Rattle.std.proofs.lemmas.Bool.{or_cases}
use Rattle.law_folding.specs.Applications.{true_term, false_term, truth_literal, not_of, and_of, or_of}
use Rattle.law_folding.specs.Builder.{applied}
use Rattle.law_folding.specs.Composites.{any_of, any_of_from}
use Rattle.law_folding.specs.FoldConnectives.{folded_not, is_negation, are_opposites, folded_and, folded_or}
use Rattle.law_folding.specs.Refinement.{Refines}
use Rattle.law_folding.proofs.Standing.{valued, Given, itself, one_of, standing_within}
use Rattle.law_terms.specs.Formed.{IsFormedNode}
use Rattle.law_terms.specs.Interpretations.{IsGiven}
use Rattle.law_terms.specs.Meaning.{meaning, term_value}
use Rattle.law_terms.specs.Operators.{truth, apply}
use Rattle.law_terms.specs.Reached.{subterms, subterms_of_all}
use Rattle.law_terms.specs.Shapes.{IsShaped}
use Rattle.law_terms.specs.Tables.{Interpretation}
use Rattle.law_terms.specs.TermOrder.{term_eq}
use Rattle.law_terms.specs.Types.{type_eq, type_of, is_type}
use Rattle.law_terms.specs.Typing.{typed, AreBoolean}
use Rattle.law_terms.specs.TypeValues.{Enums}
use Rattle.law_terms.proofs.Shapes.{term_shaped}
use Rattle.law_terms.proofs.Soundness.{all-front, all-back}
use Rattle.law_terms.proofs.TermTotal.{terms_decided, types_decided}
use Rattle.law_terms.proofs.TypeOrder.{eq_same}
use Rattle.law_terms.specs.Plain.{PlainType, BoolType, PlainOp, AndOp, NotOp, OrOp, BoolLiteral, PlainTerm, Application, LiteralTerm, no_terms, one_term, terms}
use Rattle.law_terms.specs.Values.{Value, BoolValue}

-- ---- truth values

and_same : (x y : Bool) → y ≡ x → x ≡ (x && y)
and_same true y e = sym e
and_same false y e = refl

and_true : (x y : Bool) → y ≡ true → x ≡ (x && y)
and_true true y e = sym e
and_true false y e = refl

true_and : (x y : Bool) → x ≡ true → y ≡ (x && y)
true_and x y e = sym (ap (λ b. b && y) e)

false_and : (x y : Bool) → x ≡ false → false ≡ (x && y)
false_and x y e = sym (ap (λ b. b && y) e)

and_false : (x y : Bool) → y ≡ false → false ≡ (x && y)
and_false true y e = sym e
and_false false y e = refl

and_opposite : (x y : Bool) → y ≡ not x → false ≡ (x && y)
and_opposite true y e = sym e
and_opposite false y e = refl

or_same : (x y : Bool) → y ≡ x → x ≡ (x || y)
or_same true y e = refl
or_same false y e = sym e

or_false : (x y : Bool) → y ≡ false → x ≡ (x || y)
or_false true y e = refl
or_false false y e = sym e

false_or : (x y : Bool) → x ≡ false → y ≡ (x || y)
false_or x y e = sym (ap (λ b. b || y) e)

true_or : (x y : Bool) → x ≡ true → true ≡ (x || y)
true_or x y e = sym (ap (λ b. b || y) e)

or_true : (x y : Bool) → y ≡ true → true ≡ (x || y)
or_true true y e = refl
or_true false y e = sym e

or_opposite : (x y : Bool) → y ≡ not x → true ≡ (x || y)
or_opposite true y e = refl
or_opposite false y e = sym e

not_turned : (x y : Bool) → x ≡ not y → y ≡ not x
not_turned true true e = cc
not_turned true false e = refl
not_turned false true e = refl
not_turned false false e = cc

not_twice : (x : Bool) → x ≡ not (not x)
not_twice true = refl
not_twice false = refl

pub whole : (v : Value) → IsShaped BoolType v → v ≡ BoolValue (truth v)
whole (BoolValue b) h = refl
whole v h = elim h [ ]

pub same_term : (t u : PlainTerm) → term_eq t u ≡ true → t ≡ u
same_term t u h = (terms_decided t u).0 h

-- ---- negation

-- a formed Boolean term has a truth value
pub boolean : (enums : Enums) (I : Interpretation) (t : PlainTerm) → typed t ≡ true → type_of t ≡ BoolType → AllByRecursion IsFormedNode (subterms t) → Given enums I t → meaning I t ≡ BoolValue (truth (meaning I t))
boolean enums I t h e f g = whole (meaning I t) (subst (λ y. IsShaped y (meaning I t)) e (term_shaped enums I t h f g))

pub chosen_type : (b : Bool) (t ty : PlainType) → is_type (then_some b t) ty ≡ true → (b ≡ true) × (t ≡ ty)
chosen_type true t ty h = (refl, eq_same t ty h)
chosen_type false t ty h = cc

pub negated_parts : (t : PlainTerm) → typed (not_of t) ≡ true → (typed t ≡ true) × (type_of t ≡ BoolType)
negated_parts t h =
    let a : (typed t && true) ≡ true = first_so (typed t && true) (is_type (then_some (type_eq (type_of t) BoolType) BoolType) BoolType) h in
    let b : type_eq (type_of t) BoolType ≡ true = (chosen_type (type_eq (type_of t) BoolType) BoolType BoolType (second_so (typed t && true) (is_type (then_some (type_eq (type_of t) BoolType) BoolType) BoolType) h)).0 in
    (first_so (typed t) true a, eq_same (type_of t) BoolType b)

-- the one argument of an application
pub argument : (P : PlainTerm → Type 0) (o : PlainOp) (t : PlainTerm) (ty : PlainType) → AllByRecursion P (subterms (Application o (terms (t ∷ [])) ty)) → AllByRecursion P (subterms t)
argument P o t ty h = all-front P (subterms t) [] (all-front P (subterms_of_all (terms (t ∷ []))) (Application o (terms (t ∷ [])) ty ∷ []) h)

twice : (t : PlainTerm) (ty : PlainType) → Refines t (not_of (Application NotOp (one_term t no_terms) ty))
twice t ty =
    standing_within t (not_of (Application NotOp (one_term t no_terms) ty)) (λ P n h. argument P NotOp t ty (argument P NotOp (Application NotOp (one_term t no_terms) ty) BoolType h)) parts
    (λ enums I h f g. boolean enums I t (parts h).0 (parts h).1 (argument IsFormedNode NotOp t ty (argument IsFormedNode NotOp (Application NotOp (one_term t no_terms) ty) BoolType f.literals)) (argument (IsGiven enums I) NotOp t ty (argument (IsGiven enums I) NotOp (Application NotOp (one_term t no_terms) ty) BoolType g)) ∙ ap BoolValue (not_twice (truth (meaning I t))))
  where
    parts : typed (not_of (Application NotOp (one_term t no_terms) ty)) ≡ true → (typed t ≡ true) × (type_of t ≡ BoolType)
    parts h = let a : (typed (Application NotOp (one_term t no_terms) ty) ≡ true) × (ty ≡ BoolType) = negated_parts (Application NotOp (one_term t no_terms) ty) h in negated_parts t (subst (λ y. typed (Application NotOp (one_term t no_terms) y) ≡ true) a.1 a.0)

pub stands_not : (t : PlainTerm) → Refines (folded_not t) (not_of t)
stands_not (LiteralTerm (BoolLiteral b)) = standing_within (truth_literal (not b)) (not_of (truth_literal b)) (λ P n h. (n (truth_literal (not b)) tt, tt)) (λ h. (refl, refl)) (λ enums I h f g. refl)
stands_not (Application NotOp (one_term t no_terms) ty) = twice t ty
stands_not t = itself (not_of t)

negates : (I : Interpretation) (t u : PlainTerm) → is_negation t u ≡ true → truth (meaning I u) ≡ not (truth (meaning I t))
negates I t (Application NotOp (one_term u no_terms) ty) h = ap (λ w. not (truth (meaning I w))) (sym (same_term t u h))
negates I t u h = cc

opposite : (I : Interpretation) (t u : PlainTerm) → are_opposites t u ≡ true → truth (meaning I u) ≡ not (truth (meaning I t))
opposite I t u h = ⊎_elim (negates I t u) (λ e. not_turned (truth (meaning I t)) (truth (meaning I u)) (negates I u t e)) (or_cases (is_negation t u) (is_negation u t) h)

-- ---- conjunction and disjunction

pub record BothBoolean (t u : PlainTerm) : Type 0 where
  pub first : typed t ≡ true
  pub second : typed u ≡ true
  pub first_type : type_of t ≡ BoolType
  pub second_type : type_of u ≡ BoolType

both_parts : (t u : PlainTerm) → typed (and_of t u) ≡ true → BothBoolean t u
both_parts t u h =
    let k : Bool = type_eq (type_of t) BoolType && type_eq (type_of u) BoolType in
    let a : (typed t && (typed u && true)) ≡ true = first_so (typed t && (typed u && true)) (is_type (then_some k BoolType) BoolType) h in
    let b : k ≡ true = (chosen_type k BoolType BoolType (second_so (typed t && (typed u && true)) (is_type (then_some k BoolType) BoolType) h)).0 in
    record { first = first_so (typed t) (typed u && true) a; second = first_so (typed u) true (second_so (typed t) (typed u && true) a); first_type = eq_same (type_of t) BoolType (first_so (type_eq (type_of t) BoolType) (type_eq (type_of u) BoolType) b); second_type = eq_same (type_of u) BoolType (second_so (type_eq (type_of t) BoolType) (type_eq (type_of u) BoolType) b) }

-- the two arguments of an application
module _ (P : PlainTerm → Type 0) (o : PlainOp) (t u : PlainTerm) (ty : PlainType) (h : AllByRecursion P (subterms (Application o (terms (t ∷ u ∷ [])) ty))) where
  pub first_argument : AllByRecursion P (subterms t)
  first_argument = all-front P (subterms t) (subterms_of_all (terms (u ∷ []))) (all-front P (subterms_of_all (terms (t ∷ u ∷ []))) (Application o (terms (t ∷ u ∷ [])) ty ∷ []) h)

  pub second_argument : AllByRecursion P (subterms u)
  second_argument = all-front P (subterms u) [] (all-back P (subterms t) (subterms_of_all (terms (u ∷ []))) (all-front P (subterms_of_all (terms (t ∷ u ∷ []))) (Application o (terms (t ∷ u ∷ [])) ty ∷ []) h))

-- an operator of two truth values
module _ (o : PlainOp) (f : Bool → Bool → Bool) (checked : (t u : PlainTerm) → typed (Application o (terms (t ∷ u ∷ [])) BoolType) ≡ typed (and_of t u)) (computed : (I : Interpretation) (v w : Value) → apply I o BoolType (v ∷ w ∷ []) ≡ BoolValue (f (truth v) (truth w))) where
  abbrev Two : PlainTerm → PlainTerm → PlainTerm
  Two t u = Application o (terms (t ∷ u ∷ [])) BoolType

  two_parts : (t u : PlainTerm) → typed (Two t u) ≡ true → BothBoolean t u
  two_parts t u h = both_parts t u (sym (checked t u) ∙ h)

  first_for_two : (t u : PlainTerm) → ((I : Interpretation) → truth (meaning I t) ≡ f (truth (meaning I t)) (truth (meaning I u))) → Refines t (Two t u)
  first_for_two t u e =
      standing_within t (Two t u) (λ P n h. first_argument P o t u BoolType h) (λ h. ((two_parts t u h).first, (two_parts t u h).first_type))
      (λ enums I h g i. boolean enums I t (two_parts t u h).first (two_parts t u h).first_type (first_argument IsFormedNode o t u BoolType g.literals) (first_argument (IsGiven enums I) o t u BoolType i) ∙ (ap BoolValue (e I) ∙ sym (computed I (meaning I t) (meaning I u))))

  second_for_two : (t u : PlainTerm) → ((I : Interpretation) → truth (meaning I u) ≡ f (truth (meaning I t)) (truth (meaning I u))) → Refines u (Two t u)
  second_for_two t u e =
      standing_within u (Two t u) (λ P n h. second_argument P o t u BoolType h) (λ h. ((two_parts t u h).second, (two_parts t u h).second_type))
      (λ enums I h g i. boolean enums I u (two_parts t u h).second (two_parts t u h).second_type (second_argument IsFormedNode o t u BoolType g.literals) (second_argument (IsGiven enums I) o t u BoolType i) ∙ (ap BoolValue (e I) ∙ sym (computed I (meaning I t) (meaning I u))))

  literal_for_two : (b : Bool) (t u : PlainTerm) → ((I : Interpretation) → b ≡ f (truth (meaning I t)) (truth (meaning I u))) → Refines (truth_literal b) (Two t u)
  literal_for_two b t u e = standing_within (truth_literal b) (Two t u) (λ P n h. (n (truth_literal b) tt, tt)) (λ h. (refl, refl)) (λ enums I h g i. ap BoolValue (e I) ∙ sym (computed I (meaning I t) (meaning I u)))

truth_at : (I : Interpretation) (t u : PlainTerm) → t ≡ u → truth (meaning I t) ≡ truth (meaning I u)
truth_at I t u e = ap (λ w. truth (meaning I w)) e

pub stands_and : (t u : PlainTerm) → Refines (folded_and t u) (and_of t u)
stands_and t u =
    one_of (term_eq t u || term_eq u true_term) t rest (and_of t u)
    (λ h. ⊎_elim (λ e. first (λ I. and_same (at I t) (at I u) (truth_at I u t (sym (same_term t u e))))) (λ e. first (λ I. and_true (at I t) (at I u) (truth_at I u true_term (same_term u true_term e)))) (or_cases (term_eq t u) (term_eq u true_term) h))
    (one_of (term_eq t true_term) u last (and_of t u) (λ e. second (λ I. true_and (at I t) (at I u) (truth_at I t true_term (same_term t true_term e))))
    (one_of (term_eq t false_term || (term_eq u false_term || are_opposites t u)) false_term (and_of t u) (and_of t u)
    (λ h. ⊎_elim (λ e. no (λ I. false_and (at I t) (at I u) (truth_at I t false_term (same_term t false_term e)))) (λ k. ⊎_elim (λ e. no (λ I. and_false (at I t) (at I u) (truth_at I u false_term (same_term u false_term e)))) (λ e. no (λ I. and_opposite (at I t) (at I u) (opposite I t u e))) (or_cases (term_eq u false_term) (are_opposites t u) k)) (or_cases (term_eq t false_term) (term_eq u false_term || are_opposites t u) h))
    (itself (and_of t u))))
  where
    last : PlainTerm
    last = cond (term_eq t false_term || (term_eq u false_term || are_opposites t u)) false_term (and_of t u)

    rest : PlainTerm
    rest = cond (term_eq t true_term) u last

    at : Interpretation → PlainTerm → Bool
    at I w = truth (meaning I w)

    first : ((I : Interpretation) → truth (meaning I t) ≡ (truth (meaning I t) && truth (meaning I u))) → Refines t (and_of t u)
    first e = first_for_two AndOp (λ x y. x && y) (λ v w. refl) (λ I v w. refl) t u e

    second : ((I : Interpretation) → truth (meaning I u) ≡ (truth (meaning I t) && truth (meaning I u))) → Refines u (and_of t u)
    second e = second_for_two AndOp (λ x y. x && y) (λ v w. refl) (λ I v w. refl) t u e

    no : ((I : Interpretation) → false ≡ (truth (meaning I t) && truth (meaning I u))) → Refines false_term (and_of t u)
    no e = literal_for_two AndOp (λ x y. x && y) (λ v w. refl) (λ I v w. refl) false t u e

pub stands_or : (t u : PlainTerm) → Refines (folded_or t u) (or_of t u)
stands_or t u =
    one_of (term_eq t u || term_eq u false_term) t rest (or_of t u)
    (λ h. ⊎_elim (λ e. first (λ I. or_same (at I t) (at I u) (truth_at I u t (sym (same_term t u e))))) (λ e. first (λ I. or_false (at I t) (at I u) (truth_at I u false_term (same_term u false_term e)))) (or_cases (term_eq t u) (term_eq u false_term) h))
    (one_of (term_eq t false_term) u last (or_of t u) (λ e. second (λ I. false_or (at I t) (at I u) (truth_at I t false_term (same_term t false_term e))))
    (one_of (term_eq t true_term || (term_eq u true_term || are_opposites t u)) true_term (or_of t u) (or_of t u)
    (λ h. ⊎_elim (λ e. no (λ I. true_or (at I t) (at I u) (truth_at I t true_term (same_term t true_term e)))) (λ k. ⊎_elim (λ e. no (λ I. or_true (at I t) (at I u) (truth_at I u true_term (same_term u true_term e)))) (λ e. no (λ I. or_opposite (at I t) (at I u) (opposite I t u e))) (or_cases (term_eq u true_term) (are_opposites t u) k)) (or_cases (term_eq t true_term) (term_eq u true_term || are_opposites t u) h))
    (itself (or_of t u))))
  where
    last : PlainTerm
    last = cond (term_eq t true_term || (term_eq u true_term || are_opposites t u)) true_term (or_of t u)

    rest : PlainTerm
    rest = cond (term_eq t false_term) u last

    at : Interpretation → PlainTerm → Bool
    at I w = truth (meaning I w)

    first : ((I : Interpretation) → truth (meaning I t) ≡ (truth (meaning I t) || truth (meaning I u))) → Refines t (or_of t u)
    first e = first_for_two OrOp (λ x y. x || y) (λ v w. refl) (λ I v w. refl) t u e

    second : ((I : Interpretation) → truth (meaning I u) ≡ (truth (meaning I t) || truth (meaning I u))) → Refines u (or_of t u)
    second e = second_for_two OrOp (λ x y. x || y) (λ v w. refl) (λ I v w. refl) t u e

    no : ((I : Interpretation) → true ≡ (truth (meaning I t) || truth (meaning I u))) → Refines true_term (or_of t u)
    no e = literal_for_two OrOp (λ x y. x || y) (λ v w. refl) (λ I v w. refl) true t u e

-- ---- the value of the disjunction of many

either_turned : (x y z : Bool) → (y || (x || z)) ≡ ((x || y) || z)
either_turned true true z = refl
either_turned true false z = refl
either_turned false y z = refl

pub is_both_boolean : (t u : PlainTerm) → typed t ≡ true → type_of t ≡ BoolType → typed u ≡ true → type_of u ≡ BoolType → typed (or_of t u) ≡ true
is_both_boolean t u h e k d = both_true (both_true h (both_true k refl)) (ap (λ b. is_type (then_some b BoolType) BoolType) (both_true ((types_decided (type_of t) BoolType).1 e) ((types_decided (type_of u) BoolType).1 d)))

any_value : (I : Interpretation) (x : PlainTerm) (b : Bool) (ts : List PlainTerm) → typed x ≡ true → type_of x ≡ BoolType → meaning I x ≡ BoolValue b → AreBoolean ts → term_value I (any_of_from applied x ts) ≡ BoolValue (list_any (λ t. truth (term_value I t)) ts || b)
any_value I x b [] h e v a = valued I x h ∙ v
any_value I x b (t ∷ ts) h e v a =
    let p : truth (meaning I t) ≡ truth (term_value I t) = ap truth (sym (valued I t a.0.parts)) in
    let q : truth (meaning I x) ≡ b = ap truth v in
    any_value I (or_of t x) (truth (term_value I t) || b) ts (is_both_boolean t x a.0.parts a.0.type h e) refl (λ i. BoolValue (p i || q i)) a.1
    ∙ ap BoolValue (either_turned (truth (term_value I t)) (list_any (λ u. truth (term_value I u)) ts) b)

or_nothing : (x : Bool) → (x || false) ≡ x
or_nothing true = refl
or_nothing false = refl

pub any_is_true : (I : Interpretation) (ts : List PlainTerm) → AreBoolean ts → term_value I (any_of applied ts) ≡ BoolValue (list_any (λ t. truth (term_value I t)) ts)
any_is_true I ts a = any_value I false_term false ts refl refl refl a ∙ ap BoolValue (or_nothing (list_any (λ t. truth (term_value I t)) ts))
