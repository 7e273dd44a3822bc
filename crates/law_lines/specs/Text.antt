-- The bytes and the names that calls of an encoder come to.
use Rattle.std.specs.Prelude.{ℕ, List, [], ◌∷◌}
use Rattle.law_terms.specs.Plain.{PlainTerm}
use Rattle.law_terms.specs.TypeValues.{Enums}
use Rattle.law_lines.specs.Line.{spelled_lines}
use Rattle.law_lines.specs.Lines.{Call, EncodeCall, fresh, lines_of_calls, after_calls}
use Rattle.law_lines.specs.NameTables.{Tables}

-- the bytes that a fresh encoder writes for calls
abbrev pub text_of_calls : Enums → List Call → List ℕ
text_of_calls enums cs = spelled_lines (lines_of_calls enums cs fresh)

-- the tables that calls leave of a fresh encoder
abbrev pub names_of_calls : Enums → List Call → Tables
names_of_calls enums cs = (after_calls enums cs fresh).tables

-- the bytes that a fresh encoder writes for terms, which begin with the datatype of options
abbrev pub text : Enums → List PlainTerm → List ℕ
text enums ts = text_of_calls enums (EncodeCall ts ∷ [])

-- the tables that a fresh encoder has after these terms
abbrev pub names : Enums → List PlainTerm → Tables
names enums ts = names_of_calls enums (EncodeCall ts ∷ [])
