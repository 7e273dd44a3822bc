-- States in which each term is defined once, from the names and the inline texts of its parts.
use Rattle.std.specs.Prelude.{◌≡◌, ◌⊎◌, ℕ, List, [], ◌∷◌, Some}
use Rattle.std.specs.List.{AllByRecursion}
use Rattle.law_terms.specs.Plain.{PlainLiteral, PlainTerm, Application, LiteralTerm, RecordTerm, SetTerm, SomeTerm, PlainFields, no_fields}
use Rattle.law_terms.specs.Plain.{one_field, list_of_terms}
use Rattle.law_terms.specs.Reached.{reached_terms}
use Rattle.law_terms.specs.TypeValues.{Enums}
use Rattle.law_texts.specs.Reading.{Expression}
use Rattle.law_scripts.specs.Script.{Defined, State, name}
use Rattle.law_scripts.specs.Sorts.{entries}
use Rattle.law_lines.specs.Entries.{term_lines, text_or_nothing}
use Rattle.law_lines.specs.Line.{DefineFun}
use Rattle.law_lines.specs.NameTables.{Tables, name_of_term}
use Rattle.law_lines.specs.TermTexts.{inline_text, text_of}
use Rattle.law_theorem.specs.Open.{IsAmong}
use Rattle.law_theorem.specs.Fits.{Stage, FitsAt}

-- ---- parts

-- the terms of a record's fields
abbrev pub parts_of_fields : PlainFields → List PlainTerm
parts_of_fields no_fields = []
parts_of_fields (one_field a t fields) = t ∷ parts_of_fields fields

-- the terms that a term is made of, but not those inside them
abbrev pub parts_of : PlainTerm → List PlainTerm
parts_of (Application op ts type) = list_of_terms ts
parts_of (RecordTerm fields) = parts_of_fields fields
parts_of (SetTerm element ts) = list_of_terms ts
parts_of (SomeTerm t) = t ∷ []
parts_of t = []

-- What stands for a term is its name, or the inline text of a literal: `true` or `false`, `(_ bvX n)` or a string (SMT-LIB 2.7,
-- theories Core and UnicodeStrings, logic QF_BV).
abbrev pub IsFlatText : Tables → PlainTerm → Expression → Type 0
IsFlatText s t e =
    ((n : List ℕ) × (name_of_term s t ≡ Some n) × (e ≡ name n)) ⊎ ((p : PlainLiteral) × (t ≡ LiteralTerm p) × (inline_text p ≡ Some e))

-- ---- definitions

-- The name n is defined in this state (`define-fun`, SMT-LIB 2.7, chapter 4), as that of a term which is reached: the term has this
-- name, and the definition is the line that is stated for the term. In this line the parts of the term stand by their texts, and
-- each of these is a name or an inline literal.
pub record IsDefinitionOf (enums : Enums) (us : List PlainTerm) (s : Tables) (state : State) (t : PlainTerm) (n : List ℕ) : Type 0 where
  pub sort : Expression
  pub body : Expression
  pub live : entries state n ≡ Some (Defined sort body)
  pub reached : IsAmong t us
  pub named : name_of_term s t ≡ Some n
  pub line : term_lines enums s t n ≡ DefineFun n sort body ∷ []
  pub parts : AllByRecursion (λ u. IsFlatText s u (text_or_nothing (text_of s u))) (parts_of t)

-- Each name that is defined is so as that of a reached term, and a term is defined under one name at most.
pub record IsFlatState (enums : Enums) (ts : List PlainTerm) (s : Tables) (state : State) : Type 0 where
  pub defines : (n : List ℕ) (sort body : Expression) → entries state n ≡ Some (Defined sort body) →
      (t : PlainTerm) × IsDefinitionOf enums (reached_terms ts) s state t n
  pub once : (t : PlainTerm) (n m : List ℕ) → IsDefinitionOf enums (reached_terms ts) s state t n →
      IsDefinitionOf enums (reached_terms ts) s state t m → n ≡ m

-- So it is wherever a stage fits a state.
abbrev pub FittingStatesAreFlat : Type 0
FittingStatesAreFlat = (enums : Enums) (x : Stage) (state : State) → FitsAt enums x state → IsFlatState enums x.terms x.tables state
