-- Literals: terms with no variable and no application in them.
use Rattle.std.specs.Prelude.{◌≡◌, Bool, true, false, ◌&&◌, IsTrue}
use Rattle.law_terms.specs.Formed.{IsFormed}
use Rattle.law_terms.specs.Meaning.{term_value}
use Rattle.law_terms.specs.Tables.{Interpretation}
use Rattle.law_terms.specs.Typing.{Typed}
use Rattle.law_terms.specs.Plain.{PlainType, PlainTerm, Application, NoneTerm, LiteralTerm, RecordTerm, SetTerm, SomeTerm, VariableTerm}
use Rattle.law_terms.specs.Plain.{PlainTerms, no_terms, one_term, PlainFields, no_fields, one_field}

abbrev mutual
  -- a term with no variable and no application in it
  pub is_literal : PlainTerm → Bool
  is_literal (Application o ts t) = false
  is_literal (NoneTerm t) = true
  is_literal (LiteralTerm l) = true
  is_literal (RecordTerm fs) = are_literal_fields fs
  is_literal (SetTerm t ts) = are_literals ts
  is_literal (SomeTerm t) = is_literal t
  is_literal (VariableTerm id t) = false

  -- each of the terms is a literal
  pub are_literals : PlainTerms → Bool
  are_literals no_terms = true
  are_literals (one_term t ts) = is_literal t && are_literals ts

  -- the term of each field is a literal
  pub are_literal_fields : PlainFields → Bool
  are_literal_fields no_fields = true
  are_literal_fields (one_field a t fs) = is_literal t && are_literal_fields fs

-- typed literals of one type with one value are one term
abbrev pub LiteralsAreTheirValues : Type 0
LiteralsAreTheirValues =
    (I : Interpretation) (t u : PlainTerm) (ty : PlainType) → IsTrue (is_literal t) → IsTrue (is_literal u) → Typed t ty → Typed u ty →
    IsFormed t → IsFormed u → term_value I t ≡ term_value I u → t ≡ u
