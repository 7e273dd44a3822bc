-- The stated lines and the faults of what nodes stand for.
use Rattle.std.specs.Prelude.{ℕ, Bool, true, false, List, [], ◌∷◌, ◌++◌, Option, None}
use Rattle.std.specs.Option.{option_or}
use Rattle.law_terms.specs.Faults.{Fault, term_fault, type_fault}
use Rattle.law_terms.specs.Plain.{EntityType, ExtensionType, RecordType, PlainLiteral, EntityLiteral, ExtensionLiteral, LiteralTerm}
use Rattle.law_terms.specs.Nodes.{Meaning, TypeMeaning, FunctionMeaning, TermMeaning}
use Rattle.law_texts.specs.Reading.{Expression}
use Rattle.law_lines.specs.Lines.{Enums, Written, encode_function, encode_term, encode_type, made_of, ◌>>=◌}
use Rattle.law_lines.specs.NameTables.{Tables, name_of_function, name_of_term, name_of_type}

-- the name that tables have for a type, a function or a term
abbrev pub name_in : Tables → Meaning → Option (List ℕ)
name_in s (TypeMeaning t) = name_of_type s t
name_in s (FunctionMeaning f) = name_of_function s f
name_in s (TermMeaning t) = name_of_term s t

-- the tables with one name more, behind the others of its kind
abbrev pub with_name : Tables → Meaning → (name : List ℕ) → Tables
with_name s (TypeMeaning t) n = record s { types = s.types ++ (t, n) ∷ [] }
with_name s (FunctionMeaning f) n = record s { functions = s.functions ++ (f, n) ∷ [] }
with_name s (TermMeaning t) n = record s { terms = s.terms ++ (t, n) ∷ [] }

-- the stated lines of a type, a function or a term
abbrev pub encode_meaning : Enums → Meaning → Tables → Written Expression
encode_meaning enums (TypeMeaning t) s = encode_type enums t s
encode_meaning enums (FunctionMeaning f) s = encode_function enums f s
encode_meaning enums (TermMeaning t) s = encode_term enums t s

-- the stated lines of several in order
abbrev pub encode_meanings : Enums → List Meaning → Tables → Written (List Expression)
encode_meanings enums [] s = made_of [] s
encode_meanings enums (m ∷ ms) s = encode_meaning enums m s >>= λ e u. encode_meanings enums ms u >>= λ es v. made_of (e ∷ es) v

-- the first fault of a type, a function or a term
abbrev pub meaning_fault : Enums → Meaning → Option Fault
meaning_fault enums (TypeMeaning t) = type_fault enums t
meaning_fault enums (FunctionMeaning f) = option_or (type_fault enums f.argument) (type_fault enums f.output)
meaning_fault enums (TermMeaning t) = term_fault enums t

-- the first fault of several in order
abbrev pub meanings_fault : Enums → List Meaning → Option Fault
meanings_fault enums [] = None
meanings_fault enums (m ∷ ms) = option_or (meaning_fault enums m) (meanings_fault enums ms)

-- a literal that has an entry in a table of names: entities and values of extension types
abbrev pub is_entered_literal : PlainLiteral → Bool
is_entered_literal (EntityLiteral e i) = true
is_entered_literal (ExtensionLiteral x) = true
is_entered_literal l = false

-- Whether a type, a function or a term has an entry in a table of names. Literals of bitvectors, Booleans and strings have none, nor
-- have types other than entity, record and extension types: their text stands wherever they are used.
abbrev pub has_entry : Meaning → Bool
has_entry (TypeMeaning (EntityType e)) = true
has_entry (TypeMeaning (ExtensionType k)) = true
has_entry (TypeMeaning (RecordType x)) = true
has_entry (TypeMeaning t) = false
has_entry (FunctionMeaning f) = true
has_entry (TermMeaning (LiteralTerm l)) = is_entered_literal l
has_entry (TermMeaning t) = true
