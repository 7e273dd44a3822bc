-- What clauses ask of the types of terms.
use Rattle.std.specs.Prelude.{List}
use Rattle.law_terms.specs.Interpretations.{IsInterpretation}
use Rattle.law_terms.specs.Meaning.{meaning}
use Rattle.law_terms.specs.Plain.{PlainType, PlainTerm}
use Rattle.law_terms.specs.Shapes.{IsShaped}
use Rattle.law_terms.specs.Tables.{Interpretation}
use Rattle.law_terms.specs.TypeValues.{Enums, IsValue}

-- in every interpretation of the roots the term has a value of the shape of a type
abbrev pub HasShape : Enums → List PlainTerm → PlainTerm → PlainType → Type 0
HasShape enums roots t ty = (I : Interpretation) → IsInterpretation enums roots I → IsShaped ty (meaning I t)

-- in every interpretation of the roots the term has a value of a type, whose entities of an enum type are its members
abbrev pub HasValue : Enums → List PlainTerm → PlainTerm → PlainType → Type 0
HasValue enums roots t ty = (I : Interpretation) → IsInterpretation enums roots I → IsValue enums ty (meaning I t)
