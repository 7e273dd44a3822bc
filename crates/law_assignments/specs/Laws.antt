-- What assignments and evaluation are worth.
use Rattle.std.specs.Prelude.{◌≡◌, ◌↔◌, IsTrue, List, [], ◌∷◌, map}
use Rattle.std.specs.List.{AllByRecursion}
use Rattle.law_assignments.specs.Assignments.{PlainAssignment, interpretation}
use Rattle.law_assignments.specs.Covered.{Covers}
use Rattle.law_assignments.specs.Evaluated.{evaluated}
use Rattle.law_assignments.specs.Sound.{IsSound}
use Rattle.law_folding.specs.Applications.{true_term, truth_literal}
use Rattle.law_folding.specs.Built.{built}
use Rattle.law_terms.specs.Formed.{IsFormed}
use Rattle.law_terms.specs.Interpretations.{Agree, IsInterpretation}
use Rattle.law_terms.specs.Literals.{is_literal}
use Rattle.law_terms.specs.Meaning.{AreTrue, term_value}
use Rattle.law_terms.specs.Operators.{truth}
use Rattle.law_terms.specs.Plain.{PlainType, BoolType, PlainTerm}
use Rattle.law_terms.specs.Tables.{Interpretation}
use Rattle.law_terms.specs.TypeValues.{Enums}
use Rattle.law_terms.specs.Typing.{AreBoolean, AreTyped, Typed}

-- r is a literal of this type that has in every interpretation the value of t in I
pub record IsLiteralFor (I : Interpretation) (t : PlainTerm) (ty : PlainType) (r : PlainTerm) : Type 0 where
  pub literal : IsTrue (is_literal r)
  pub type : Typed r ty
  pub formed : IsFormed r
  pub value : (J : Interpretation) → term_value J r ≡ term_value I t

-- To what a sound assignment evaluates a term whose reach it covers, is the term's value in the assignment's interpretation.
abbrev pub EvaluatedIsTheValue : Type 0
EvaluatedIsTheValue =
    (enums : Enums) (a : PlainAssignment) (t : PlainTerm) (ty : PlainType) → IsSound enums a → Covers a (t ∷ []) → Typed t ty → IsFormed t →
    IsLiteralFor (interpretation a) t ty (evaluated a t)

-- A sound assignment that covers what terms reach gives an interpretation of them.
abbrev pub CoveredIsInterpretation : Type 0
CoveredIsInterpretation =
    (enums : Enums) (a : PlainAssignment) (ts : List PlainTerm) → IsSound enums a → Covers a ts →
    IsInterpretation enums ts (interpretation a)

-- There is one such literal: whoever finds a literal with the value has found what the term evaluates to.
abbrev pub OneLiteralHasTheValue : Type 0
OneLiteralHasTheValue =
    (I : Interpretation) (t : PlainTerm) (ty : PlainType) (q r : PlainTerm) → IsLiteralFor I t ty q → IsLiteralFor I t ty r → q ≡ r

-- What is covered together is covered one by one.
abbrev pub EachIsCovered : Type 0
EachIsCovered = (a : PlainAssignment) (ts : List PlainTerm) → Covers a ts → AllByRecursion (λ t. Covers a (t ∷ [])) ts

-- A Boolean term evaluates to the literal of its truth in the assignment's interpretation.
abbrev pub TruthIsEvaluated : Type 0
TruthIsEvaluated =
    (enums : Enums) (a : PlainAssignment) (t : PlainTerm) → IsSound enums a → Covers a (t ∷ []) → Typed t BoolType → IsFormed t →
    evaluated a t ≡ truth_literal (truth (term_value (interpretation a) t))

-- So all terms evaluate to true exactly where the assignment's interpretation makes all of them true.
abbrev pub TrueInAllIsEvaluated : Type 0
TrueInAllIsEvaluated =
    (enums : Enums) (a : PlainAssignment) (ts : List PlainTerm) → IsSound enums a → Covers a ts → AreBoolean ts → AllByRecursion IsFormed ts
    → AllByRecursion (λ t. evaluated a t ≡ true_term) ts ↔ AreTrue (interpretation a) ts

-- Where an interpretation makes true what is built for terms, the terms are true in each interpretation of them that agrees with
-- it on what the built ones reach.
abbrev pub TruthOfTheBuiltIsOfTheWritten : Type 0
TruthOfTheBuiltIsOfTheWritten =
    (enums : Enums) (ts : List PlainTerm) (I J : Interpretation) → AreTyped ts → AllByRecursion IsFormed ts → Agree (map built ts) I J →
    IsInterpretation enums ts J
    → AreTrue I (map built ts) → AreTrue J ts
