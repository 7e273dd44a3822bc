-- What the literals of terms tell of them.
use Rattle.std.proofs.Common.{◌≡◌, true, List, [], ◌∷◌, map, refl, ap, ◌∙◌, sym}
use Rattle.std.specs.List.{AllByRecursion}
use Rattle.law_assignments.specs.Assignments.{PlainAssignment, interpretation}
use Rattle.law_assignments.specs.Covered.{Covers, gives}
use Rattle.law_assignments.specs.Evaluated.{evaluated}
use Rattle.law_assignments.specs.Laws.{EachIsCovered, OneLiteralHasTheValue, TrueInAllIsEvaluated, TruthIsEvaluated, TruthOfTheBuiltIsOfTheWritten}
use Rattle.law_assignments.specs.Sound.{IsSound}
use Rattle.law_assignments.proofs.Evaluating.{evaluated_is_the_value}
use Rattle.law_assignments.proofs.Literals.{of_boolean}
use Rattle.law_folding.specs.Applications.{true_term, truth_literal}
use Rattle.law_folding.specs.Built.{built}
use Rattle.law_folding.proofs.BuiltTerms.{built_stands}
use Rattle.law_folding.proofs.Standing.{valued}
use Rattle.law_terms.specs.Formed.{IsFormed}
use Rattle.law_terms.specs.Interpretations.{IsGiven}
use Rattle.law_terms.specs.Meaning.{term_value}
use Rattle.law_terms.specs.Operators.{truth}
use Rattle.law_terms.specs.Plain.{BoolType, PlainTerm}
use Rattle.law_terms.specs.Reached.{reached_terms, subterms}
use Rattle.law_terms.specs.Types.{type_of}
use Rattle.law_terms.specs.TypeValues.{Enums}
use Rattle.law_terms.specs.Typing.{AreBoolean, AreTyped}
use Rattle.law_terms.specs.Values.{BoolValue}
use Rattle.law_terms.proofs.Agreement.{same_values}
use Rattle.law_terms.proofs.Defaults.{all-join}
use Rattle.law_terms.proofs.LiteralValues.{same}
use Rattle.law_terms.proofs.Soundness.{all-front, all-back}

pub one_literal_has_the_value : OneLiteralHasTheValue
one_literal_has_the_value I t ty q r x y =
    same I q r (x.literal, x.type.parts, x.formed.literals) (y.literal, y.type.parts, y.formed.literals) (x.type.type ∙ sym y.type.type)
    (sym (valued I q x.type.parts) ∙ (x.value I ∙ (sym (y.value I) ∙ valued I r y.type.parts)))

pub each_is_covered : EachIsCovered
each_is_covered a [] c = tt
each_is_covered a (t ∷ ts) c =
    (all-join (λ w. gives a w ≡ true) (subterms t) [] (all-front (λ w. gives a w ≡ true) (subterms t) (reached_terms ts) c) tt, each_is_covered a ts (all-back (λ w. gives a w ≡ true) (subterms t) (reached_terms ts) c))

-- a Boolean literal is that of its truth
pub truth_is_evaluated : TruthIsEvaluated
truth_is_evaluated enums a t s c y f =
    let x = evaluated_is_the_value enums a t BoolType s c y f in
    of_boolean (λ r. term_value (interpretation a) r ≡ term_value (interpretation a) t → r ≡ truth_literal (truth (term_value (interpretation a) t))) (λ b e. ap (λ v. truth_literal (truth v)) e) (evaluated a t) x.literal x.type.type (x.value (interpretation a))

true_one : (enums : Enums) (a : PlainAssignment) (t : PlainTerm) → IsSound enums a → Covers a (t ∷ []) → AreBoolean (t ∷ []) → IsFormed t → evaluated a t ≡ true_term → term_value (interpretation a) t ≡ BoolValue true
true_one enums a t s c y f e =
    let x = evaluated_is_the_value enums a t BoolType s c y.0 f in
    sym (x.value (interpretation a)) ∙ ap (term_value (interpretation a)) e

pub true_in_all_is_evaluated : TrueInAllIsEvaluated
true_in_all_is_evaluated enums a ts s c y f = (λ h. onto ts (each_is_covered a ts c) y f h, λ h. back ts (each_is_covered a ts c) y f h)
  where
    onto : (ts : List PlainTerm) → AllByRecursion (λ t. Covers a (t ∷ [])) ts → AreBoolean ts → AllByRecursion IsFormed ts → AllByRecursion (λ t. evaluated a t ≡ true_term) ts → AllByRecursion (λ t. term_value (interpretation a) t ≡ BoolValue true) ts
    onto [] c y f h = tt
    onto (t ∷ ts) c y f h = (true_one enums a t s c.0 (y.0, tt) f.0 h.0, onto ts c.1 y.1 f.1 h.1)

    back : (ts : List PlainTerm) → AllByRecursion (λ t. Covers a (t ∷ [])) ts → AreBoolean ts → AllByRecursion IsFormed ts → AllByRecursion (λ t. term_value (interpretation a) t ≡ BoolValue true) ts → AllByRecursion (λ t. evaluated a t ≡ true_term) ts
    back [] c y f h = tt
    back (t ∷ ts) c y f h = (truth_is_evaluated enums a t s c.0 y.0 f.0 ∙ ap (λ v. truth_literal (truth v)) h.0, back ts c.1 y.1 f.1 h.1)

pub truth_of_the_built : TruthOfTheBuiltIsOfTheWritten
truth_of_the_built enums ts I J y f g i h = through ts y f (same_values I J (map built ts) g) i h
  where
    through : (ts : List PlainTerm) → AreTyped ts → AllByRecursion IsFormed ts → AllByRecursion (λ t. term_value I t ≡ term_value J t) (map built ts) → AllByRecursion (IsGiven enums J) (reached_terms ts) → AllByRecursion (λ t. term_value I t ≡ BoolValue true) (map built ts) → AllByRecursion (λ t. term_value J t ≡ BoolValue true) ts
    through [] y f e i h = tt
    through (t ∷ ts) y f e i h =
        let v : term_value J (built t) ≡ term_value J t = (built_stands t y.0).value (type_of t) enums J f.0 (record { parts = y.0; type = refl }) (all-join (IsGiven enums J) (subterms t) [] (all-front (IsGiven enums J) (subterms t) (reached_terms ts) i) tt) in
        (sym v ∙ (sym e.0 ∙ h.0), through ts y.1 f.1 e.1 (all-back (IsGiven enums J) (subterms t) (reached_terms ts) i) h.1)
