-- What the terms of Cedar's values mean.
use Rattle.std.specs.Prelude.{◌≡◌, IsTrue, Result, Ok, Err}
use Rattle.law_terms.specs.Literals.{is_literal}
use Rattle.law_terms.specs.Meaning.{term_value}
use Rattle.law_terms.specs.Plain.{PlainType, PlainTerm}
use Rattle.law_terms.specs.Tables.{Interpretation}
use Rattle.law_terms.specs.Typing.{Typed}
use Rattle.law_terms.specs.Values.{Value}
use Rattle.smt_term.specs.View.{plain_term}
use Rattle.smt_term.specs.declared.term.Term.{Term}
use Rattle.smt_values.specs.Cedar.{PlainCedar}
use Rattle.smt_values.specs.TypeOfCedar.{type_of_cedar}
use Rattle.smt_values.specs.TypeView.{plain_cedar}
use Rattle.smt_values.specs.declared.cedar_type.CedarType.{CedarType}
use Rattle.smt_values.specs.PlainValues.{PlainValue}
use Rattle.smt_values.specs.TermOfValue.{term_of_value}
use Rattle.smt_values.specs.declared.error.SymbolizeError.{SymbolizeError}
use Rattle.smt_values.specs.declared.error.SymbolizeError.TheVariants.{Memory}
use Rattle.law_cedar.specs.CedarMeaning.{cedar_value}
use Rattle.law_cedar.specs.CedarTyping.{IsInOrder, IsOfType}

-- u is a well typed literal of this type of terms, and has this value in every interpretation
pub record IsLiteralOf (type : PlainType) (value : Value) (u : PlainTerm) : Type 0 where
  pub typed : Typed u type
  pub literal : IsTrue (is_literal u)
  pub means : (I : Interpretation) → term_value I u ≡ value

-- Every value of a Cedar type in order that a type of terms stands for has a term: a literal of that type, which means in every
-- interpretation what the value means.
abbrev pub TermsHaveMeanings : Type 0
TermsHaveMeanings =
    (type : PlainCedar) (v : PlainValue) (t : PlainType) → IsInOrder type → IsOfType type v → type_of_cedar type ≡ Ok t →
    (u : PlainTerm) × (term_of_value type v ≡ Ok u) × IsLiteralOf t (cedar_value type v) u

-- every Cedar type of the program is in order
abbrev pub ProgramTypesAreInOrder : Type 0
ProgramTypesAreInOrder = (type : CedarType) → IsInOrder (plain_cedar type)

-- an answer is a literal of this type with this value, or there was no memory
abbrev pub IsLiteralOrMemory : PlainType → Value → Result Term SymbolizeError → Type 0
IsLiteralOrMemory t value (Ok u) = IsLiteralOf t value (plain_term u)
IsLiteralOrMemory t value (Err e) = e ≡ Memory

-- What is answered of a value at a type, where the value is of the type and a type of terms stands for that: a literal of the type of
-- terms, which means in every interpretation what the value means, or that there was no memory.
abbrev pub AnswersMeaning : PlainCedar → PlainValue → Result Term SymbolizeError → Type 0
AnswersMeaning type v answer =
    (t : PlainType) → IsOfType type v → type_of_cedar type ≡ Ok t → IsLiteralOrMemory t (cedar_value type v) answer
