-- The expression by which a script has a term: the name of its entry, or the text of a literal that needs none.
use Rattle.std.specs.Prelude.{ℕ, Bool, true, false, codes, chars, List, Option, Some, None}
use Rattle.std.specs.Option.{option_or}
use Rattle.law_terms.specs.Plain.{PlainLiteral, BitVecLiteral, BoolLiteral, StringLiteral, PlainTerm, LiteralTerm}
use Rattle.law_texts.specs.Reading.{Expression, Leaf}
use Rattle.law_texts.specs.Lexicon.{Text}
use Rattle.law_scripts.specs.Script.{name}
use Rattle.law_scripts.specs.CommandLines.{bits}
use Rattle.law_lines.specs.NameTables.{Tables, name_of_term}

-- a truth as scripts spell it (theory Core)
abbrev pub bool_name : Bool → List ℕ
bool_name true = codes "true"
bool_name false = codes "false"

-- a truth value, by its name
abbrev pub bool_text : Bool → Expression
bool_text b = name (bool_name b)

-- a string between quotes, by its bytes
abbrev pub string_text : List ℕ → Expression
string_text text = Leaf (Text (chars text))

-- the text of a literal that needs no entry
abbrev pub inline_text : PlainLiteral → Option Expression
inline_text (BitVecLiteral width number) = Some (bits width number)
inline_text (BoolLiteral b) = Some (bool_text b)
inline_text (StringLiteral text) = Some (string_text text)
inline_text p = None

-- a name as an expression
abbrev pub named_text : Option (List ℕ) → Option Expression
named_text (Some n) = Some (name n)
named_text None = None

-- an entry's name, or the text of a literal that needs none
abbrev pub text_of : Tables → PlainTerm → Option Expression
text_of s (LiteralTerm p) = option_or (inline_text p) (named_text (name_of_term s (LiteralTerm p)))
text_of s t = named_text (name_of_term s t)
