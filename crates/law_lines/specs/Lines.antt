-- The lines that stand for terms, and the names that they leave.
use Rattle.std.specs.Prelude.{ℕ, Bool, true, false, codes, length, map, List, [], ◌∷◌, ◌++◌, Option, Some, None}
use Rattle.law_terms.specs.Plain.{ExtensionKind, PlainType, OptionType, BitVecType, BoolType, EntityType, ExtensionType, StringType}
use Rattle.law_terms.specs.Plain.{RecordType, SetType, AttributeTypes, no_attributes, attribute, PlainFunction, PlainOp, BvnegoOp}
use Rattle.law_terms.specs.Plain.{RecordGetOp, UufOp, PlainLiteral, BitVecLiteral, BoolLiteral, EntityLiteral, ExtensionLiteral}
use Rattle.law_terms.specs.Plain.{StringLiteral, PlainTerm, Application, NoneTerm, LiteralTerm, RecordTerm, SetTerm, SomeTerm, VariableTerm}
use Rattle.law_terms.specs.Plain.{PlainTerms, no_terms, one_term, PlainFields, no_fields, one_field, terms}
pub use Rattle.law_terms.specs.TypeValues.{Enums, members_of}
use Rattle.law_terms.specs.Types.{type_of, literal_type}
use Rattle.law_terms.specs.Parts.{attribute_names}
use Rattle.law_texts.specs.Reading.{Expression}
use Rattle.law_scripts.specs.Script.{name}
use Rattle.law_scripts.specs.Sorts.{bool_sort, string_sort, bit_sort, option_sort, set_sort}
pub use Rattle.law_scripts.specs.CommandLines.{bits}
use Rattle.law_lines.specs.LineForms.{entity_lines, record_lines, kind_lines, function_heading, function_declaration, variable_lines}
use Rattle.law_lines.specs.LineForms.{some_body, none_body, set_body, record_body, entity_body, extension_body, operator_head}
use Rattle.law_lines.specs.LineForms.{application_body, least_body}
use Rattle.law_lines.specs.EntryNames.{attribute_name, place_of, kind_name, stated_term_name, stated_function_name, stated_entity_name}
use Rattle.law_lines.specs.EntryNames.{stated_record_name, enum_member}
use Rattle.law_lines.specs.TermTexts.{bool_name, bool_text, string_text}
use Rattle.law_lines.specs.NameTables.{Tables, no_names, name_of_term, name_of_type, name_of_function, text_of_name}
use Rattle.law_lines.specs.Line.{Constructor, Bare, Fielded, Line, DeclareDatatype, DefineFun, Assert, Push, Pop}

-- ---- the names that come next

-- the name of the next entry of a term
abbrev pub next_term : Tables → List ℕ
next_term s = stated_term_name (length s.terms)

-- the name of the next entry of a function
abbrev pub next_function : Tables → List ℕ
next_function s = stated_function_name (length s.functions)

-- The name of the next entry, where it is an entity type's. Entity, record and extension types are counted together.
abbrev pub next_entity : Tables → List ℕ
next_entity s = stated_entity_name (length s.types)

-- the name of the next entry, where it is a record type's
abbrev pub next_record : Tables → List ℕ
next_record s = stated_record_name (length s.types)

-- ---- what is written on the way

-- what was made, the lines that were written for it, and the tables then
pub record Written (A : Type 0) : Type 0 where
  pub made : A
  pub lines : List Line
  pub tables : Tables

-- what is made with no line written
abbrev pub made_of : {A : Type 0} → A → Tables → Written A
made_of a s = record { made = a; lines = []; tables = s }

-- what was written, with these lines before its own
abbrev pub behind : {A : Type 0} → List Line → Written A → Written A
behind ls w = record { made = w.made; lines = ls ++ w.lines; tables = w.tables }

infixl 10 ◌>>=◌
-- what is made next from what was made, with the lines of both in order
abbrev pub ◌>>=◌ : {A B : Type 0} → Written A → (A → Tables → Written B) → Written B
w >>= f = behind w.lines (f w.made w.tables)

-- the name that is there; else what is written now
abbrev pub unless_named : Option (List ℕ) → Tables → (Tables → Written Expression) → Written Expression
unless_named (Some n) s f = made_of (name n) s
unless_named None s f = f s

-- a type's new entry under a name, with its lines
abbrev pub enter_type : PlainType → List ℕ → List Line → Tables → Written Expression
enter_type t n ls s = record { made = name n; lines = ls; tables = record s { types = s.types ++ (t, n) ∷ [] } }

-- a function's new entry under a name, with its lines
abbrev pub enter_function : PlainFunction → List ℕ → List Line → Tables → Written Expression
enter_function f n ls s = record { made = name n; lines = ls; tables = record s { functions = s.functions ++ (f, n) ∷ [] } }

-- a term's new entry under a name, with its lines
abbrev pub enter_term : PlainTerm → List ℕ → List Line → Tables → Written Expression
enter_term t n ls s = record { made = name n; lines = ls; tables = record s { terms = s.terms ++ (t, n) ∷ [] } }

-- a definition under the next name
abbrev pub define : PlainTerm → (sort body : Expression) → Tables → Written Expression
define t sort body s = enter_term t (next_term s) (DefineFun (next_term s) sort body ∷ []) s

-- ---- sorts

-- an entity type that has no entry yet, by its lines
abbrev pub declare_entity : Enums → (type : List ℕ) → Tables → Written Expression
declare_entity enums type s =
    enter_type (EntityType type) (next_entity s) (entity_lines (members_of enums type) type (next_entity s)) s

-- an extension type that has no entry yet
abbrev pub declare_kind : ExtensionKind → Tables → Written Expression
declare_kind kind s = enter_type (ExtensionType kind) (kind_name kind) (kind_lines kind (kind_name kind)) s

-- a record type that has no entry yet, by the sorts of its attributes
abbrev pub declare_record : AttributeTypes → List Expression → Tables → Written Expression
declare_record attributes sorts s =
    enter_type (RecordType attributes) (next_record s) (record_lines (attribute_names attributes) (next_record s) sorts) s

abbrev mutual
  -- The sort of a type. An entity, extension or record type that has no entry is declared, its parts first.
  pub encode_type : Enums → PlainType → Tables → Written Expression
  encode_type enums (OptionType t) s = encode_type enums t s >>= λ sort u. made_of (option_sort sort) u
  encode_type enums (BitVecType width) s = made_of (bit_sort width) s
  encode_type enums BoolType s = made_of bool_sort s
  encode_type enums (EntityType type) s =
      unless_named (name_of_type s (EntityType type)) s (λ u. declare_entity enums type u)
  encode_type enums (ExtensionType kind) s =
      unless_named (name_of_type s (ExtensionType kind)) s (λ u. declare_kind kind u)
  encode_type enums StringType s = made_of string_sort s
  encode_type enums (RecordType attributes) s =
      unless_named (name_of_type s (RecordType attributes)) s
      (λ u. encode_attributes enums attributes u >>= λ sorts v. declare_record attributes sorts v)
  encode_type enums (SetType t) s = encode_type enums t s >>= λ sort u. made_of (set_sort sort) u

  -- the sorts of attributes, in order
  pub encode_attributes : Enums → AttributeTypes → Tables → Written (List Expression)
  encode_attributes enums no_attributes s = made_of [] s
  encode_attributes enums (attribute a t attributes) s =
      encode_type enums t s >>= λ sort u. encode_attributes enums attributes u >>= λ sorts v. made_of (sort ∷ sorts) v

-- The name of a function. One that has no entry is declared: its id in a comment, the lines of its types, and `declare-fun`.
-- The name is drawn first, but neither type has an entry among the functions.
abbrev pub encode_function : Enums → PlainFunction → Tables → Written Expression
encode_function enums f s =
    unless_named (name_of_function s f) s
    (λ u. behind (function_heading f.id)
    (encode_type enums f.argument u >>= λ argument v.
    encode_type enums f.output v >>= λ output w.
    enter_function f (next_function w) (function_declaration (next_function w) argument output) w))

-- ---- literals

-- an entity of an enum type is a constructor, which has no line
abbrev pub define_entity : (members : Option (List (List ℕ))) → (type id sort : List ℕ) → Tables → Written Expression
define_entity (Some members) type id sort s =
    enter_term (LiteralTerm (EntityLiteral type id)) (enum_member members sort id) [] s
define_entity None type id sort s =
    define (LiteralTerm (EntityLiteral type id)) (name sort) (entity_body sort id) s

-- The text of a literal: bits, truth values and strings are written where they stand, others have an entry.
abbrev pub encode_literal : Enums → PlainLiteral → Tables → Written Expression
encode_literal enums (BitVecLiteral width number) s = made_of (bits width number) s
encode_literal enums (BoolLiteral b) s = made_of (bool_text b) s
encode_literal enums (EntityLiteral type id) s =
    unless_named (name_of_term s (LiteralTerm (EntityLiteral type id))) s
    (λ u. encode_type enums (EntityType type) u >>= λ sort v.
    define_entity (members_of enums type) type id (text_of_name (name_of_type v (EntityType type))) v)
encode_literal enums (ExtensionLiteral x) s =
    unless_named (name_of_term s (LiteralTerm (ExtensionLiteral x))) s
    (λ u. encode_type enums (literal_type (ExtensionLiteral x)) u >>= λ sort v.
    define (LiteralTerm (ExtensionLiteral x)) sort (extension_body x) v)
encode_literal enums (StringLiteral text) s = made_of (string_text text) s

-- ---- operators

-- the type of the first term, and Bool where there is none
abbrev pub first_type : PlainTerms → PlainType
first_type no_terms = BoolType
first_type (one_term t ts) = type_of t

-- the place of an attribute in a record type; 0 where the type is none
abbrev pub attribute_place : List ℕ → PlainType → ℕ
attribute_place a (RecordType attributes) = place_of a (attribute_names attributes)
attribute_place a t = 0

-- what an application begins with; a function may have to be declared for it
abbrev pub encode_head : Enums → PlainOp → PlainTerms → Tables → Written Expression
encode_head enums (RecordGetOp a) ts s =
    made_of (name (attribute_name (text_of_name (name_of_type s (first_type ts))) (attribute_place a (first_type ts)))) s
encode_head enums (UufOp f) ts s = encode_function enums f s
encode_head enums op ts s = made_of (operator_head op) s

-- How an application is written: as it stands, as an equality with the least number of its width, or as `false`.
pub data Rendering : Type 0 where
  AsApplication : Rendering
  AsEqualsIntMin : (width : ℕ) → Rendering
  AsFalse : Rendering

-- `bvnego` of a bitvector is an equality with the least number of its width; of another type no typed term has it
abbrev pub least_rendering : PlainType → Rendering
least_rendering (BitVecType width) = AsEqualsIntMin width
least_rendering t = AsFalse

-- `bvnego` of one argument that claims the type Bool, and else an application as it stands
abbrev pub negation_rendering : PlainTerms → PlainType → Rendering
negation_rendering (one_term t no_terms) BoolType = least_rendering (type_of t)
negation_rendering ts type = AsApplication

-- how the application of an operator is written: only `bvnego` is not written as it stands
abbrev pub application_rendering : PlainOp → PlainTerms → PlainType → Rendering
application_rendering BvnegoOp ts type = negation_rendering ts type
application_rendering op ts type = AsApplication

-- The application's own line, once its sort is written; `arguments` writes what stands for its arguments.
abbrev pub define_application : Enums → Rendering → PlainOp → PlainTerms → PlainType → (arguments : Tables → Written (List Expression)) →
    (sort : Expression) → Tables → Written Expression
define_application enums AsApplication op ts type arguments sort s =
    arguments s >>= λ es u. encode_head enums op ts u >>= λ head v.
    define (Application op ts type) sort (application_body head op es) v
define_application enums (AsEqualsIntMin width) op ts type arguments sort s =
    arguments s >>= λ es u.
    define (Application op ts type) sort (least_body width es) u
define_application enums AsFalse op ts type arguments sort s = enter_term (Application op ts type) (bool_name false) [] s

-- ---- terms

abbrev mutual
  -- The text of a term. What has an entry is not written again. What has none gets first its sort, then its parts in order, then its
  -- own line, at which its name is drawn.
  pub encode_term : Enums → PlainTerm → Tables → Written Expression
  encode_term enums (Application op ts type) s =
      unless_named (name_of_term s (Application op ts type)) s
      (λ u. encode_type enums type u >>= λ sort v.
      define_application enums (application_rendering op ts type) op ts type (λ w. encode_terms enums ts w) sort v)
  encode_term enums (NoneTerm type) s =
      unless_named (name_of_term s (NoneTerm type)) s
      (λ u. encode_type enums (OptionType type) u >>= λ sort v. define (NoneTerm type) sort (none_body sort) v)
  encode_term enums (LiteralTerm p) s = encode_literal enums p s
  encode_term enums (RecordTerm fields) s =
      unless_named (name_of_term s (RecordTerm fields)) s
      (λ u. encode_type enums (type_of (RecordTerm fields)) u >>= λ sort v.
      encode_fields enums fields v >>= λ es w. define (RecordTerm fields) sort (record_body sort es) w)
  encode_term enums (SetTerm element ts) s =
      unless_named (name_of_term s (SetTerm element ts)) s
      (λ u. encode_type enums (SetType element) u >>= λ sort v.
      encode_terms enums ts v >>= λ es w. define (SetTerm element ts) sort (set_body sort es) w)
  encode_term enums (SomeTerm t) s =
      unless_named (name_of_term s (SomeTerm t)) s
      (λ u. encode_type enums (type_of (SomeTerm t)) u >>= λ sort v.
      encode_term enums t v >>= λ e w. define (SomeTerm t) sort (some_body e) w)
  encode_term enums (VariableTerm id type) s =
      unless_named (name_of_term s (VariableTerm id type)) s
      (λ u. encode_type enums type u >>= λ sort v.
      enter_term (VariableTerm id type) (next_term v) (variable_lines id (next_term v) sort) v)

  -- the texts of arguments or elements, in order
  pub encode_terms : Enums → PlainTerms → Tables → Written (List Expression)
  encode_terms enums no_terms s = made_of [] s
  encode_terms enums (one_term t ts) s =
      encode_term enums t s >>= λ e u. encode_terms enums ts u >>= λ es v. made_of (e ∷ es) v

  -- the texts of the terms of a record's fields, in order
  pub encode_fields : Enums → PlainFields → Tables → Written (List Expression)
  encode_fields enums no_fields s = made_of [] s
  encode_fields enums (one_field a t fields) s =
      encode_term enums t s >>= λ e u. encode_fields enums fields u >>= λ es v. made_of (e ∷ es) v

-- the lines of terms, and one assertion for each
abbrev pub encode : Enums → List PlainTerm → Tables → Written (List Expression)
encode enums ts s = encode_terms enums (terms ts) s >>= λ es u. record { made = es; lines = map Assert es; tables = u }

-- ---- calls

-- a call of an encoder: a push, a pop, or terms to be asserted
pub data Call : Type 0 where
  PushCall : Call
  PopCall : Call
  EncodeCall : List PlainTerm → Call

-- An encoder between calls: its tables, those of the moments of the open pushes, the last first, and whether anything is written.
pub record Encoding : Type 0 where
  pub tables : Tables
  pub below : List Tables
  pub begun : Bool

-- an encoder before its first call
abbrev pub fresh : Encoding
fresh = record { tables = no_names; below = []; begun = false }

-- the constructors of options: `none`, and `some` with the selector `val`
abbrev pub option_constructors : List Constructor
option_constructors = Bare (codes "none") ∷ Fielded (codes "some") ((codes "val", name (codes "X")) ∷ []) ∷ []

-- `Option`, with its constructors
abbrev pub option_line : Line
option_line = DeclareDatatype (codes "Option") (codes "X" ∷ []) option_constructors

-- the lines before the first ones: the datatype of options
abbrev pub beginning : Bool → List Line
beginning true = []
beginning false = option_line ∷ []

-- the lines that a call writes
abbrev pub lines_of_call : Enums → Call → Encoding → List Line
lines_of_call enums PushCall s = beginning s.begun ++ Push ∷ []
lines_of_call enums PopCall s = Pop ∷ []
lines_of_call enums (EncodeCall ts) s = beginning s.begun ++ (encode enums ts s.tables).lines

-- an encoder with the tables of the moment of the last open push; with no open push it is as it was
abbrev pub popped : List Tables → Encoding → Encoding
popped [] s = s
popped (t ∷ below) s = record { tables = t; below = below; begun = s.begun }

-- an encoder after a call
abbrev pub after_call : Enums → Call → Encoding → Encoding
after_call enums PushCall s = record { tables = s.tables; below = s.tables ∷ s.below; begun = true }
after_call enums PopCall s = popped s.below s
after_call enums (EncodeCall ts) s = record { tables = (encode enums ts s.tables).tables; below = s.below; begun = true }

-- an encoder after calls, one after the other
abbrev pub after_calls : Enums → List Call → Encoding → Encoding
after_calls enums [] s = s
after_calls enums (c ∷ cs) s = after_calls enums cs (after_call enums c s)

-- the lines that calls write, one after the other
abbrev pub lines_of_calls : Enums → List Call → Encoding → List Line
lines_of_calls enums [] s = []
lines_of_calls enums (c ∷ cs) s = lines_of_call enums c s ++ lines_of_calls enums cs (after_call enums c s)
