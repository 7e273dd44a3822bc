-- The foldings of the calls on options stand for them.
use Rattle.std.proofs.Common.{◌≡◌, Bool, true, false, not, ◌&&◌, [], ◌∷◌, refl, ap, ◌∙◌, sym, subst}
use Rattle.std.specs.Prelude.{cond, Option, Some, None}
use Rattle.std.specs.Bool.{then_some}
use Rattle.std.specs.Cmp.{first_so, second_so}
use Rattle.std.specs.List.{AllByRecursion}
use Rattle.law_folding.specs.Applications.{false_term, not_of, option_get_of, type_inside}
use Rattle.law_folding.specs.Builder.{applied, folding}
use Rattle.law_folding.specs.Composites.{is_none, none_by_type}
use Rattle.law_folding.specs.FoldConnectives.{folded_not}
use Rattle.law_folding.specs.FoldOptions.{folded_option_get}
use Rattle.law_folding.specs.Refinement.{Refines}
use Rattle.law_folding.proofs.ConnectivesStand.{argument, boolean, chosen_type, stands_not}
use Rattle.law_folding.proofs.EqualityStands.{IteParts, equal_for_eq, ite_parts, literal_for_eq, not_typed, of_guard}
use Rattle.law_folding.proofs.Records.{HasFormedType}
use Rattle.law_folding.proofs.Standing.{itself, onward, standing, standing_within}
use Rattle.law_folding.proofs.TypeTests.{IsMade, inside_test, stands_never, test_at, test_folded, test_is_truth, test_kept, test_typed}
use Rattle.law_terms.specs.Formed.{IsFormedNode, IsFormedType}
use Rattle.law_terms.specs.Interpretations.{IsGiven}
use Rattle.law_terms.specs.Meaning.{meaning}
use Rattle.law_terms.specs.Operators.{truth}
use Rattle.law_terms.specs.Reached.{subterms, subterms_of_all}
use Rattle.law_terms.specs.Tables.{Interpretation}
use Rattle.law_terms.specs.Types.{inner_type, is_type, type_eq, type_of}
use Rattle.law_terms.specs.Typing.{typed}
use Rattle.law_terms.specs.ValueOrder.{value_eq}
use Rattle.law_terms.proofs.Defaults.{all-join}
use Rattle.law_terms.proofs.Soundness.{all-front, inside}
use Rattle.law_terms.specs.Plain.{PlainType, OptionType, BoolType, IteOp, OptionGetOp, PlainTerm, Application, NoneTerm, SomeTerm, no_terms, one_term, terms}
use Rattle.law_terms.specs.Values.{Value, BoolValue, NoneValue, SomeValue}

-- ---- what an option holds

some_inside : (t : PlainTerm) → Refines t (option_get_of (SomeTerm t))
some_inside t =
    standing t (option_get_of (SomeTerm t)) (λ P q h. within P h) (λ f. record { literals = within IsFormedNode f.literals; types = within HasFormedType f.types })
    (λ h. (first_so (typed t) true (first_so (typed t && true) (type_eq (type_of t) (type_of t)) h), refl)) (λ enums I h f g. refl)
  where
    within : (P : PlainTerm → Type 0) → AllByRecursion P (subterms (option_get_of (SomeTerm t))) → AllByRecursion P (subterms t)
    within P h = all-front P (subterms t) (SomeTerm t ∷ []) (argument P OptionGetOp (SomeTerm t) (type_of t) h)

no_option : (t : PlainTerm) → inner_type (type_of t) ≡ None → Refines t (option_get_of t)
no_option t e =
    standing t (option_get_of t) (λ P q h. argument P OptionGetOp t (type_inside (type_of t)) h)
    (λ f. record { literals = argument IsFormedNode OptionGetOp t (type_inside (type_of t)) f.literals; types = argument HasFormedType OptionGetOp t (type_inside (type_of t)) f.types }) (λ h. absurd (never h)) (λ enums I h f g. absurd (never h))
  where
    never : typed (option_get_of t) ≡ true → ⊥
    never h = let k : false ≡ true = sym (ap (λ o. is_type o (type_inside (type_of t))) e) ∙ second_so (typed t && true) (is_type (inner_type (type_of t)) (type_inside (type_of t))) h in cc

by_inner_type : (t : PlainTerm) → Refines (elim (inner_type (type_of t)) [ Some ty ↦ option_get_of t | None ↦ t ]) (option_get_of t)
by_inner_type t = by (inner_type (type_of t)) refl
  where
    by : (o : Option PlainType) → inner_type (type_of t) ≡ o → Refines (elim o [ Some ty ↦ option_get_of t | None ↦ t ]) (option_get_of t)
    by (Some ty) e = itself (option_get_of t)
    by None e = no_option t e

pub stands_option_get : (t : PlainTerm) → Refines (folded_option_get t) (option_get_of t)
stands_option_get (SomeTerm t) = some_inside t
stands_option_get t = by_inner_type t

-- ---- whether an option is none

none_type : (ty x : PlainType) → inner_type ty ≡ Some x → IsFormedType ty → IsFormedType (OptionType x)
none_type (OptionType t) x e f = subst (λ (y : PlainType). IsFormedType (OptionType y)) (inside t x e) f
none_type ty x e f = cc

none_is_made : IsMade inner_type NoneTerm
none_is_made = record { single = λ P x p. (p, tt); asks = λ x. (refl, refl, refl, refl); node = λ x. tt; type = none_type }

two_some : (b : Bool) (v w : Value) → false ≡ value_eq (cond b (SomeValue v) (SomeValue w)) NoneValue
two_some true v w = refl
two_some false v w = refl

some_else_none : (b : Bool) (v : Value) → BoolValue (not b) ≡ BoolValue (value_eq (cond b (SomeValue v) NoneValue) NoneValue)
some_else_none true v = refl
some_else_none false v = refl

none_else_some : (b : Bool) (v : Value) → BoolValue b ≡ BoolValue (value_eq (cond b NoneValue (SomeValue v)) NoneValue)
none_else_some true v = refl
none_else_some false v = refl

-- a choice between two terms, with a type
module _ (g t u : PlainTerm) (ty : PlainType) where
  abbrev Choice : PlainTerm
  Choice = Application IteOp (terms (g ∷ t ∷ u ∷ [])) ty

  abbrev IsNone : Option PlainType → PlainTerm
  IsNone o = test_at inner_type NoneTerm none_is_made o Choice

  choice_typed : typed (IsNone (inner_type ty)) ≡ true → typed Choice ≡ true
  choice_typed h = test_typed inner_type NoneTerm none_is_made (inner_type ty) Choice h

  choice_parts : typed (IsNone (inner_type ty)) ≡ true → IteParts g t u
  choice_parts h = ite_parts g t u ty (choice_typed h)

  choice_type : typed (IsNone (inner_type ty)) ≡ true → type_of t ≡ ty
  choice_type h =
      let k : Bool = type_eq (type_of g) BoolType && type_eq (type_of t) (type_of u) in
      (chosen_type k (type_of t) ty (second_so (typed g && (typed t && (typed u && true))) (is_type (then_some k (type_of t)) ty) (choice_typed h))).1

  in_guard : (P : PlainTerm → Type 0) → AllByRecursion P (subterms (IsNone (inner_type ty))) → AllByRecursion P (subterms g)
  in_guard P h = of_guard P g t u ty (inside_test inner_type NoneTerm none_is_made P (inner_type ty) Choice h)

  -- the value, where the first branch is of an option type
  none_value : (x : PlainType) (v : Value) (I : Interpretation) → type_of t ≡ OptionType x → typed (IsNone (inner_type ty)) ≡ true → v ≡ BoolValue (value_eq (cond (truth (meaning I g)) (meaning I t) (meaning I u)) NoneValue) → v ≡ meaning I (IsNone (inner_type ty))
  none_value x v I e h k = k ∙ ap (λ o. meaning I (IsNone o)) (ap inner_type (sym e ∙ choice_type h))

  two_some_stand : (o : Option PlainType) → ((I : Interpretation) → false ≡ value_eq (meaning I Choice) NoneValue) → Refines false_term (IsNone o)
  two_some_stand (Some x) e = literal_for_eq false Choice (NoneTerm x) (λ enums I p f. e I)
  two_some_stand None e = stands_never Choice

  negated_guard_stands : (x : PlainType) → type_of t ≡ OptionType x → ((I : Interpretation) → BoolValue (not (truth (meaning I g))) ≡ BoolValue (value_eq (meaning I Choice) NoneValue)) → Refines (folded_not g) (IsNone (inner_type ty))
  negated_guard_stands x e v =
      onward (folded_not g) (not_of g) (IsNone (inner_type ty)) (stands_not g)
      (standing_within (not_of g) (IsNone (inner_type ty)) (λ P n h. all-join P (subterms_of_all (terms (g ∷ []))) (not_of g ∷ []) (all-join P (subterms g) [] (in_guard P h) tt) (n (not_of g) tt, tt))
      (λ h. (not_typed g (choice_parts h).guard (choice_parts h).guard_type, sym (test_is_truth inner_type NoneTerm none_is_made (inner_type ty) Choice)))
      (λ enums I h f i. none_value x (BoolValue (not (truth (meaning I g)))) I e h (v I)))

  guard_stands : (x : PlainType) → type_of t ≡ OptionType x → ((I : Interpretation) → BoolValue (truth (meaning I g)) ≡ BoolValue (value_eq (meaning I Choice) NoneValue)) → Refines g (IsNone (inner_type ty))
  guard_stands x e v =
      standing_within g (IsNone (inner_type ty)) (λ P n h. in_guard P h)
      (λ h. ((choice_parts h).guard, (choice_parts h).guard_type ∙ sym (test_is_truth inner_type NoneTerm none_is_made (inner_type ty) Choice)))
      (λ enums I h f i. boolean enums I g (choice_parts h).guard (choice_parts h).guard_type (in_guard IsFormedNode f.literals) (in_guard (IsGiven enums I) i) ∙ none_value x (BoolValue (truth (meaning I g))) I e h (v I))

  by_type_stands : Refines (none_by_type folding Choice) (is_none applied Choice)
  by_type_stands = test_folded inner_type NoneTerm none_is_made (inner_type ty) Choice

none_of_choice : (g t u : PlainTerm) (ty : PlainType) → Refines (is_none folding (Application IteOp (terms (g ∷ t ∷ u ∷ [])) ty)) (is_none applied (Application IteOp (terms (g ∷ t ∷ u ∷ [])) ty))
none_of_choice g (SomeTerm t) (SomeTerm u) ty = two_some_stand g (SomeTerm t) (SomeTerm u) ty (inner_type ty) (λ I. two_some (truth (meaning I g)) (meaning I t) (meaning I u))
none_of_choice g (SomeTerm t) (NoneTerm x) ty = negated_guard_stands g (SomeTerm t) (NoneTerm x) ty (type_of t) refl (λ I. some_else_none (truth (meaning I g)) (meaning I t))
none_of_choice g (NoneTerm x) (SomeTerm u) ty = guard_stands g (NoneTerm x) (SomeTerm u) ty x refl (λ I. none_else_some (truth (meaning I g)) (meaning I u))
none_of_choice g (SomeTerm t) u ty = by_type_stands g (SomeTerm t) u ty
none_of_choice g (NoneTerm x) u ty = by_type_stands g (NoneTerm x) u ty
none_of_choice g t u ty = by_type_stands g t u ty

pub stands_is_none : (t : PlainTerm) → Refines (is_none folding t) (is_none applied t)
stands_is_none (NoneTerm ty) = equal_for_eq (NoneTerm ty) (NoneTerm ty) refl
stands_is_none (SomeTerm t) = literal_for_eq false (SomeTerm t) (NoneTerm (type_of t)) (λ enums I p f. refl)
stands_is_none (Application IteOp (one_term g (one_term t (one_term u no_terms))) ty) = none_of_choice g t u ty
stands_is_none t = test_folded inner_type NoneTerm none_is_made (inner_type (type_of t)) t

-- the test of a term that stands for another
pub none_kept : (t u : PlainTerm) → Refines t u → Refines (is_none applied t) (is_none applied u)
none_kept = test_kept inner_type NoneTerm none_is_made
