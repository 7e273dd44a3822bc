-- The value of a function at a term.
use Rattle.std.specs.Prelude.{◌≡◌, ◌∷◌}
use Rattle.law_terms.specs.Functions.{PlainUnary, defining_terms, function_value, output_type}
use Rattle.law_terms.specs.Interpretations.{IsInterpretation}
use Rattle.law_terms.specs.Meaning.{term_value}
use Rattle.law_terms.specs.Plain.{PlainTerm}
use Rattle.law_terms.specs.Tables.{Interpretation}
use Rattle.law_terms.specs.Typing.{Typed}
use Rattle.law_terms.specs.TypeValues.{Enums}

-- r is typed with the function's output type. In each interpretation of the argument and of what defines the function it has the
-- function's value at the argument's value.
pub record IsAppOf (f : PlainUnary) (t r : PlainTerm) : Type 0 where
  pub type : Typed r (output_type f)
  pub value : (enums : Enums) (I : Interpretation) → IsInterpretation enums (t ∷ defining_terms f) I →
      term_value I r ≡ function_value I f (term_value I t)
