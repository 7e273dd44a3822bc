-- What it is worth that all terms evaluate to true.
use Rattle.std.specs.Prelude.{◌≡◌, ◌↔◌, ℕ, List}
use Rattle.std.specs.List.{AllByRecursion}
use Rattle.law_assignments.specs.Assignments.{PlainAssignment, interpretation}
use Rattle.law_assignments.specs.Covered.{Covers}
use Rattle.law_assignments.specs.Evaluated.{evaluated}
use Rattle.law_assignments.specs.Sound.{IsSound}
use Rattle.law_theorem.specs.CarriedInterpretations.{carry_interpretation}
use Rattle.law_folding.specs.Applications.{true_term}
use Rattle.law_theorem.specs.Headline.{Headline}
use Rattle.law_lines.specs.NameTables.{Tables}
use Rattle.law_terms.specs.Formed.{IsFormed}
use Rattle.law_terms.specs.Interpretations.{IsInterpretation, restrict}
use Rattle.law_terms.specs.Plain.{PlainTerm}
use Rattle.law_terms.specs.Tables.{Interpretation}
use Rattle.law_terms.specs.TypeValues.{Enums}
use Rattle.law_terms.specs.Typing.{AreBoolean}
use Rattle.law_scripts.specs.Value.{IsModel}

-- What terms reach of an interpretation of them is one too.
abbrev pub RestrictionsAreInterpretations : Type 0
RestrictionsAreInterpretations =
    (enums : Enums) (ts : List PlainTerm) (I : Interpretation) → IsInterpretation enums ts I → IsInterpretation enums ts (restrict I ts)

-- Where bytes are the script of terms, these all evaluate to true exactly where what they reach of the assignment's
-- interpretation, carried over, is a model of the script.
abbrev pub HoldsMeansModel : Type 0
HoldsMeansModel =
    (enums : Enums) (s : Tables) (a : PlainAssignment) (ts : List PlainTerm) (bytes : List ℕ) (script : Headline enums s ts bytes) →
    IsSound enums a → Covers a ts → AreBoolean ts → AllByRecursion IsFormed ts
    → AllByRecursion (λ t. evaluated a t ≡ true_term) ts
    ↔ IsModel (carry_interpretation enums s (restrict (interpretation a) ts)) script.state
