-- How terms and types are entered, and the bytes of their own lines.
use Rattle.std.specs.Prelude.{ℕ, ◌≡◌, List, [], ◌∷◌, ◌++◌, Option, Some, None}
use Rattle.std.specs.Rc.{rc_str_bytes}
use Rattle.std.specs.String.{string_bytes}
use Rattle.std.specs.declared.alloc.Global.{Global}
use Rattle.std.specs.declared.rc.RcStr.{RcStr}
use Rattle.law_texts.specs.LineTexts.{comment_text, declare_const_text, declare_datatype_text, define_fun_text}
use Rattle.law_texts.specs.Quoting.{quoted_id}
use Rattle.law_texts.specs.SharedTexts.{texts}
use Rattle.law_texts.specs.Reading.{Expression}
use Rattle.law_terms.specs.Faults.{Fault, EncodeStringFailed, fault_unless, is_string}
use Rattle.law_terms.specs.Plain.{PlainLiteral, StringLiteral}
use Rattle.law_lines.specs.EntryNames.{enum_member}
use Rattle.law_lines.specs.Line.{Line, DefineFun}
use Rattle.law_lines.specs.LineForms.{entity_body, variable_lines}
use Rattle.law_lines.specs.Spelling.{spelled}
use Rattle.smt_spelling.specs.declared.datatype.Datatype.{Datatype}
use Rattle.smt_spelling.specs.declared.entry.Entry.{Entry}
use Rattle.smt_spelling.specs.declared.entry.Entry.TheVariants.{Body, Constant, Name}

-- how a term is entered: as a constant, for a variable with this id, by a body, or under a name without a line
pub data PlainEntry : Type 0 where
  ByConstant : (id : List ℕ) → PlainEntry
  ByBody : Expression → PlainEntry
  ByName : (name : List ℕ) → PlainEntry

-- a term's own lines, by its name and its sort
abbrev pub entry_lines : PlainEntry → (name : List ℕ) → (sort : Expression) → List Line
entry_lines (ByConstant id) n sort = variable_lines id n sort
entry_lines (ByBody body) n sort = DefineFun n sort body ∷ []
entry_lines (ByName name) n sort = []

-- an entity, by its sort: of an enum type the constructor of the member, of another type the constructor at the id
abbrev pub entity_entry : (members : Option (List (List ℕ))) → (id sort : List ℕ) → PlainEntry
entity_entry (Some members) id sort = ByName (enum_member members sort id)
entity_entry None id sort = ByBody (entity_body sort id)

-- the fault of a literal that has no entry: a string with a character that no string can have
abbrev pub string_fault : PlainLiteral → Option Fault
string_fault (StringLiteral s) = fault_unless (is_string s) (EncodeStringFailed s)
string_fault l = None

-- a text of the program says this one, or there is none
abbrev pub SaysInline : Option Expression → Option (RcStr Global) → Type 0
SaysInline (Some e) (Some text) = rc_str_bytes text ≡ spelled e
SaysInline None None = Unit {0}
SaysInline e text = ⊥

-- an entry of the program says this one
abbrev pub SaysEntry : PlainEntry → Entry → Type 0
SaysEntry (ByConstant id) (Constant comment) = string_bytes comment ≡ quoted_id id
SaysEntry (ByBody body) (Body text) = string_bytes text ≡ spelled body
SaysEntry (ByName name) (Name text) = rc_str_bytes text ≡ name
SaysEntry p entry = ⊥

-- the bytes of an entry's lines, by the name and the sort
abbrev pub entry_bytes : Entry → (name sort : List ℕ) → List ℕ
entry_bytes (Constant comment) n sort = comment_text (string_bytes comment) ++ declare_const_text n sort
entry_bytes (Body text) n sort = define_fun_text n [] sort (string_bytes text)
entry_bytes (Name name) n sort = []

-- the bytes of a datatype's lines, by the name
abbrev pub datatype_bytes : Datatype → (name : List ℕ) → List ℕ
datatype_bytes d name = comment_text (string_bytes d.comment) ++ declare_datatype_text name [] (texts d.constructors.items)
