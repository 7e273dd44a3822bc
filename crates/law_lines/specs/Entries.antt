-- What stands for terms and types that have entries, the entries' own lines and their names.
use Rattle.std.specs.Prelude.{◌≡◌, ℕ, suc, false, IsSome, List, [], ◌∷◌, ◌++◌, Option, Some, None}
use Rattle.law_terms.specs.Plain.{PlainType, OptionType, EntityType, ExtensionType, RecordType, SetType, AttributeTypes, no_attributes}
use Rattle.law_terms.specs.Plain.{attribute, PlainFunction, PlainOp, UufOp, PlainLiteral, EntityLiteral, ExtensionLiteral, PlainTerm}
use Rattle.law_terms.specs.Plain.{Application, NoneTerm, LiteralTerm, RecordTerm, SetTerm, SomeTerm, VariableTerm, PlainTerms, no_terms}
use Rattle.law_terms.specs.Plain.{one_term, PlainFields, no_fields, one_field}
use Rattle.law_terms.specs.TypeValues.{Enums, members_of}
use Rattle.law_terms.specs.Types.{type_of}
use Rattle.law_terms.specs.Parts.{attribute_names}
use Rattle.law_texts.specs.Reading.{Expression}
use Rattle.law_scripts.specs.Script.{name}
use Rattle.law_lines.specs.Line.{Line, DefineFun}
use Rattle.law_lines.specs.LineForms.{entity_lines, record_lines, kind_lines, function_heading, function_declaration, variable_lines}
use Rattle.law_lines.specs.LineForms.{some_body, none_body, set_body, record_body, entity_body, extension_body, application_body}
use Rattle.law_lines.specs.LineForms.{least_body}
use Rattle.law_lines.specs.TermTexts.{bool_name, text_of}
use Rattle.law_lines.specs.EntryNames.{enum_member}
use Rattle.law_lines.specs.Lines.{encode_head, Rendering, AsApplication, AsEqualsIntMin, AsFalse, application_rendering}
use Rattle.law_lines.specs.NameTables.{Tables, name_of_type, name_of_function, text_of_name}
use Rattle.law_lines.specs.Naming.{type_sort, type_name}

-- ---- what stands for a term, and what an entry's own lines are

-- the text of a term, and an empty name where it has none
abbrev pub text_or_nothing : Option Expression → Expression
text_or_nothing (Some e) = e
text_or_nothing None = name []

-- the texts of arguments or elements, in order
abbrev pub texts_of : Tables → PlainTerms → List Expression
texts_of s no_terms = []
texts_of s (one_term t ts) = text_or_nothing (text_of s t) ∷ texts_of s ts

-- the texts of the terms of a record's fields, in order
abbrev pub texts_of_fields : Tables → PlainFields → List Expression
texts_of_fields s no_fields = []
texts_of_fields s (one_field a t fields) = text_or_nothing (text_of s t) ∷ texts_of_fields s fields

-- the sorts of a record type's attributes, in order
abbrev pub attribute_sorts : Tables → AttributeTypes → List Expression
attribute_sorts s no_attributes = []
attribute_sorts s (attribute a t attributes) = type_sort s t ∷ attribute_sorts s attributes

-- the own lines of a type's entry, from the names of its parts; only entity, extension and record types have entries
abbrev pub type_lines : Enums → Tables → PlainType → (sort : List ℕ) → List Line
type_lines enums s (EntityType type) sort = entity_lines (members_of enums type) type sort
type_lines enums s (ExtensionType kind) sort = kind_lines kind sort
type_lines enums s (RecordType attributes) sort = record_lines (attribute_names attributes) sort (attribute_sorts s attributes)
type_lines enums s t sort = []

-- the own lines of a function's entry: its id in a comment, and its declaration
abbrev pub function_lines : Tables → PlainFunction → (name : List ℕ) → List Line
function_lines s f n = function_heading f.id ++ function_declaration n (type_sort s f.argument) (type_sort s f.output)

-- what an application begins with: of a function the name of its entry
abbrev pub application_head : Enums → Tables → PlainOp → PlainTerms → Expression
application_head enums s (UufOp f) ts = name (text_of_name (name_of_function s f))
application_head enums s op ts = (encode_head enums op ts s).made

-- the own lines of an application's entry, by the way in which it is written; what is written as `false` has none
abbrev pub application_lines : Enums → Tables → Rendering → PlainOp → PlainTerms → PlainType → (name : List ℕ) → List Line
application_lines enums s AsApplication op ts type n =
    DefineFun n (type_sort s type) (application_body (application_head enums s op ts) op (texts_of s ts)) ∷ []
application_lines enums s (AsEqualsIntMin width) op ts type n =
    DefineFun n (type_sort s type) (least_body width (texts_of s ts)) ∷ []
application_lines enums s AsFalse op ts type n = []

-- the own lines of an entity's entry; a member of an enum type is a constructor, and has none
abbrev pub entity_literal_lines : (members : Option (List (List ℕ))) → (sort id name : List ℕ) → List Line
entity_literal_lines (Some members) sort id n = []
entity_literal_lines None sort id n = DefineFun n (name sort) (entity_body sort id) ∷ []

-- the own lines of a literal's entry; only entities and values of extension types have entries
abbrev pub literal_lines : Enums → Tables → PlainLiteral → (name : List ℕ) → List Line
literal_lines enums s (EntityLiteral type id) n = entity_literal_lines (members_of enums type) (type_name s (EntityType type)) id n
literal_lines enums s (ExtensionLiteral x) n =
    DefineFun n (type_sort s (type_of (LiteralTerm (ExtensionLiteral x)))) (extension_body x) ∷ []
literal_lines enums s p n = []

-- the own lines of a term's entry, from the names of its parts
abbrev pub term_lines : Enums → Tables → PlainTerm → (name : List ℕ) → List Line
term_lines enums s (Application op ts type) n = application_lines enums s (application_rendering op ts type) op ts type n
term_lines enums s (NoneTerm type) n = DefineFun n (type_sort s (OptionType type)) (none_body (type_sort s (OptionType type))) ∷ []
term_lines enums s (LiteralTerm p) n = literal_lines enums s p n
term_lines enums s (RecordTerm fields) n =
    DefineFun n (type_sort s (type_of (RecordTerm fields)))
    (record_body (type_sort s (type_of (RecordTerm fields))) (texts_of_fields s fields)) ∷ []
term_lines enums s (SetTerm element ts) n =
    DefineFun n (type_sort s (SetType element)) (set_body (type_sort s (SetType element)) (texts_of s ts)) ∷ []
term_lines enums s (SomeTerm t) n =
    DefineFun n (type_sort s (type_of (SomeTerm t))) (some_body (text_or_nothing (text_of s t))) ∷ []
term_lines enums s (VariableTerm id type) n = variable_lines id n (type_sort s type)

-- ---- parts that have names

-- each type inside that has an entry where it needs one
abbrev pub TypeHasEntries : Tables → PlainType → Type 0
TypeHasEntries s (OptionType t) = TypeHasEntries s t
TypeHasEntries s (EntityType type) = IsSome (name_of_type s (EntityType type))
TypeHasEntries s (ExtensionType kind) = IsSome (name_of_type s (ExtensionType kind))
TypeHasEntries s (RecordType attributes) = IsSome (name_of_type s (RecordType attributes))
TypeHasEntries s (SetType t) = TypeHasEntries s t
TypeHasEntries s t = Unit {0}

-- the type of each attribute has the entries that it needs
abbrev pub AttributesHaveEntries : Tables → AttributeTypes → Type 0
AttributesHaveEntries s no_attributes = Unit {0}
AttributesHaveEntries s (attribute a t attributes) = TypeHasEntries s t × AttributesHaveEntries s attributes

-- each of the terms has a text
abbrev pub HaveTexts : Tables → PlainTerms → Type 0
HaveTexts s no_terms = Unit {0}
HaveTexts s (one_term t ts) = IsSome (text_of s t) × HaveTexts s ts

-- the term of each field has a text
abbrev pub HaveFieldTexts : Tables → PlainFields → Type 0
HaveFieldTexts s no_fields = Unit {0}
HaveFieldTexts s (one_field a t fields) = IsSome (text_of s t) × HaveFieldTexts s fields

-- a function that is applied has an entry
abbrev pub HasFunction : Tables → PlainOp → Type 0
HasFunction s (UufOp f) = IsSome (name_of_function s f)
HasFunction s op = Unit {0}

-- the attributes of a record type have the entries that they need
abbrev pub TypePartsHaveEntries : Tables → PlainType → Type 0
TypePartsHaveEntries s (RecordType attributes) = AttributesHaveEntries s attributes
TypePartsHaveEntries s t = Unit {0}

-- the parts of a term have texts, and a function that it applies has an entry
abbrev pub TermPartsHaveEntries : Tables → PlainTerm → Type 0
TermPartsHaveEntries s (Application op ts type) = HaveTexts s ts × HasFunction s op
TermPartsHaveEntries s (RecordTerm fields) = HaveFieldTexts s fields
TermPartsHaveEntries s (SetTerm element ts) = HaveTexts s ts
TermPartsHaveEntries s (SomeTerm t) = IsSome (text_of s t)
TermPartsHaveEntries s t = Unit {0}

-- ---- numbers

-- the name of an entity's entry, where it is not drawn: a member of an enum type has the name of its constructor
abbrev pub undrawn_entity : (members : Option (List (List ℕ))) → (type id : List ℕ) → Tables → Option (List ℕ)
undrawn_entity (Some members) type id s = Some (enum_member members (type_name s (EntityType type)) id)
undrawn_entity None type id s = None

-- the name of an application's entry, where it is not drawn: what is written as `false` has this name
abbrev pub undrawn_rendering : Rendering → Option (List ℕ)
undrawn_rendering AsFalse = Some (bool_name false)
undrawn_rendering m = None

-- the name of a term's entry, where it is not drawn from the entry's place
abbrev pub undrawn_name : Enums → Tables → PlainTerm → Option (List ℕ)
undrawn_name enums s (Application op ts type) = undrawn_rendering (application_rendering op ts type)
undrawn_name enums s (LiteralTerm (EntityLiteral type id)) = undrawn_entity (members_of enums type) type id s
undrawn_name enums s t = None

-- each entry has the name of its place in its table, from a place on
abbrev pub AreNumbered : {K : Type 0} → (K → ℕ → List ℕ) → ℕ → List (K × List ℕ) → Type 0
AreNumbered {K} names_of place [] = Unit {0}
AreNumbered {K} names_of place (e ∷ es) = (e.1 ≡ names_of e.0 place) × AreNumbered names_of (suc place) es

-- P holds of the key and the name of each entry.
abbrev pub EachEntry : {K : Type 0} → (K → List ℕ → Type 0) → List (K × List ℕ) → Type 0
EachEntry {K} P [] = Unit {0}
EachEntry {K} P (e ∷ es) = P e.0 e.1 × EachEntry P es
