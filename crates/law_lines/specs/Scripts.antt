-- The laws of stated lines.
use Rattle.std.specs.Prelude.{◌≡◌, ℕ, true, List, [], ◌∷◌, Some}
use Rattle.std.specs.List.{list_all}
use Rattle.law_terms.specs.Plain.{PlainType, PlainFunction, PlainTerm, terms}
use Rattle.law_terms.specs.TypeValues.{Enums}
use Rattle.law_terms.specs.Types.{type_of}
use Rattle.law_texts.specs.Reading.{Expression}
use Rattle.law_scripts.specs.Script.{State, HasWholeLines, Holds}
use Rattle.law_scripts.specs.Written.{ReadsAs, IsLine}
use Rattle.law_lines.specs.Spelling.{spelled}
use Rattle.law_lines.specs.Line.{Line, spelled_line, spelled_lines}
use Rattle.law_lines.specs.Lines.{encode_type, encode_term}
use Rattle.law_lines.specs.NameTables.{Tables, name_of_term, name_of_type, name_of_function}
use Rattle.law_lines.specs.Rows.{in_engineering}
use Rattle.law_lines.specs.Entries.{TypeHasEntries, TypePartsHaveEntries, term_lines, type_lines, function_lines}
use Rattle.law_lines.specs.Command.{commands_of, commands, is_written, is_written_line}
use Rattle.law_lines.specs.Encodable.{IsEncodableType, IsEncodable, AreEncodable}
use Rattle.law_lines.specs.Fit.{Fit, IsObeyable, EachLine, LineIsDeclared, PartsHaveEntries}

-- an expression that is spelled is read as it was
abbrev pub ExpressionsWrite : Type 0
ExpressionsWrite = (e : Expression) → is_written e ≡ true → ReadsAs (spelled e) e

-- a line that is spelled is a line of the script, with its commands
abbrev pub LinesAreLines : Type 0
LinesAreLines = (l : Line) → is_written_line l ≡ true → IsLine (spelled_line l) (commands_of l)

-- lines that are spelled are whole lines that hold their commands
abbrev pub LinesHold : Type 0
LinesHold =
    (ls : List Line) → list_all is_written_line ls ≡ true → Holds (spelled_lines ls) (commands ls) × HasWholeLines (spelled_lines ls)

-- the lines of a type can be obeyed wherever tables and state fit, and they fit then
abbrev pub TypesStep : Type 0
TypesStep = (enums : Enums) (t : PlainType) (s : Tables) → IsEncodableType enums t → IsObeyable enums s (encode_type enums t s)

-- the lines of a term can be obeyed wherever tables and state fit, and they fit then
abbrev pub TermsStep : Type 0
TermsStep = (enums : Enums) (t : PlainTerm) (s : Tables) → IsEncodable enums t → IsObeyable enums s (encode_term enums t s)

-- Where tables and a state fit, the state declares what the lines of a term's entry say.
abbrev pub TermsAreDeclared : Type 0
TermsAreDeclared = (enums : Enums) (s : Tables) (state : State) (t : PlainTerm) (n : List ℕ) → Fit enums s state → name_of_term s t ≡ Some n
    → EachLine (LineIsDeclared state) (term_lines enums s t n) × PartsHaveEntries s t × TypeHasEntries s (type_of t)

-- Where tables and a state fit, the state declares what the lines of a type's entry say.
abbrev pub TypesAreDeclared : Type 0
TypesAreDeclared = (enums : Enums) (s : Tables) (state : State) (t : PlainType) (n : List ℕ) → Fit enums s state → name_of_type s t ≡ Some n
    → EachLine (LineIsDeclared state) (type_lines enums s t n) × TypePartsHaveEntries s t

-- Where tables and a state fit, the state declares what the lines of a function's entry say.
abbrev pub FunctionsAreDeclared : Type 0
FunctionsAreDeclared =
    (enums : Enums) (s : Tables) (state : State) (f : PlainFunction) (n : List ℕ) → Fit enums s state → name_of_function s f ≡ Some n
    → EachLine (LineIsDeclared state) (function_lines s f n) × TypeHasEntries s f.argument × TypeHasEntries s f.output

-- The premise is met by a pattern on an attribute of what a function gives for a variable.
abbrev pub ConditionIsEncodable : Type 0
ConditionIsEncodable = AreEncodable [] (terms (in_engineering ∷ []))
