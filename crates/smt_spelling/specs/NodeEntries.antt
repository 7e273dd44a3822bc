-- How nodes are entered: what is known of a node's own lines, by the texts of its parts.
use Rattle.std.specs.Prelude.{ℕ, ◌-◌, Bool, true, false, codes, List, [], ◌∷◌, ◌++◌, Option, Some, None, is_some, drop, length, nat_eq}
use Rattle.std.specs.Prelude.{take}
use Rattle.std.specs.Option.{option_or}
use Rattle.law_terms.specs.Faults.{Fault, entity_fault, entity_type_fault, record_get_fault}
use Rattle.law_terms.specs.Types.{types_of}
use Rattle.law_terms.specs.Plain.{PlainLiteral, EntityLiteral, ExtensionLiteral, PlainType, BitVecType, BoolType, PlainOp, BvnegoOp}
use Rattle.law_terms.specs.Plain.{PlainFunction, RecordGetOp, UufOp, PlainTerm, PlainTerms, Application}
use Rattle.law_terms.specs.Nodes.{PlainLabel, OptionLabel, BitVecLabel, BoolLabel, EntityLabel, ExtensionLabel, StringLabel, RecordLabel}
use Rattle.law_terms.specs.Nodes.{SetLabel, FunctionLabel, ApplicationLabel, CallLabel, NoneLabel, LiteralLabel, RecordOfLabel, SetOfLabel}
use Rattle.law_terms.specs.Nodes.{SomeLabel, VariableLabel, Meaning, FunctionMeaning, TermMeaning, TypeMeaning}
use Rattle.law_terms.specs.Parts.{label_in}
use Rattle.law_texts.specs.Reading.{Expression}
use Rattle.law_scripts.specs.Script.{group, name}
use Rattle.law_scripts.specs.Sorts.{bit_sort, bool_sort, option_sort, set_sort, string_sort}
use Rattle.law_lines.specs.Line.{Line}
use Rattle.law_lines.specs.EntryNames.{attribute_name, kind_name}
use Rattle.law_lines.specs.LineForms.{application_body, entity_lines, extension_body, function_declaration, function_heading, kind_lines}
use Rattle.law_lines.specs.LineForms.{least_body, none_body, operator_head, record_body, record_lines, set_body}
use Rattle.law_lines.specs.Lines.{Enums, Written, Rendering, AsApplication, AsEqualsIntMin, AsFalse, application_rendering, attribute_place}
use Rattle.law_lines.specs.Lines.{enter_function, enter_term, enter_type, first_type, made_of, members_of, next_entity, next_function}
use Rattle.law_lines.specs.Lines.{next_record, next_term}
use Rattle.law_lines.specs.NameTables.{Tables, name_of_type, text_of_name}
use Rattle.law_lines.specs.Spelling.{spelled}
use Rattle.law_lines.specs.TermTexts.{bool_name, inline_text}
use Rattle.smt_spelling.specs.Entries.{PlainEntry, ByBody, ByConstant, ByName, entity_entry, entry_lines, string_fault}
use Rattle.smt_spelling.specs.TextFaults.{pattern_fault}
use Rattle.smt_spelling.specs.NodeLines.{is_entered_literal}

-- How a node is written: by the line of an application so rendered, or as a call, whose function stands behind its arguments.
pub data NodeRendering : Type 0 where
  AsCall : NodeRendering
  Rendered : Rendering → NodeRendering

-- the name under which a term is entered
abbrev pub entry_name : PlainEntry → Tables → List ℕ
entry_name (ByConstant id) s = next_term s
entry_name (ByBody body) s = next_term s
entry_name (ByName name) s = name

-- a term's own lines, and its name among the names
abbrev pub enter_by : PlainEntry → PlainTerm → (sort : Expression) → Tables → Written Expression
enter_by p t sort s = enter_term t (entry_name p s) (entry_lines p (entry_name p s) sort) s

-- the selector of an attribute at a type, by the name that this has
abbrev pub selector : (attribute : List ℕ) → PlainType → Tables → Expression
selector a t s = name (attribute_name (text_of_name (name_of_type s t)) (attribute_place a t))

-- what an application begins with: of `record.get` the selector at the type of its operand, and of any other operator its spelling
abbrev pub head_at : PlainOp → PlainTerms → Tables → Expression
head_at (RecordGetOp a) ts s = selector a (first_type ts) s
head_at op ts s = operator_head op

-- the same of a term, where it is an application
abbrev pub head_in : PlainTerm → Tables → Expression
head_in (Application op ts type) s = head_at op ts s
head_in t s = name []

-- how an application is entered, by what it begins with and the texts of its arguments
abbrev pub application_entry : NodeRendering → PlainOp → (head : Expression) → List Expression → PlainEntry
application_entry (Rendered (AsEqualsIntMin width)) op head es = ByBody (least_body width es)
application_entry (Rendered AsFalse) op head es = ByName (bool_name false)
application_entry how op head es = ByBody (application_body head op es)

-- a list with its last item before the others
abbrev pub last_first : {A : Type 0} → List A → List A
last_first xs = drop (length xs - 1) xs ++ take (length xs - 1) xs

-- the body of a call, by the texts of its arguments and then of its function
abbrev pub call_body : List Expression → Expression
call_body es = group (last_first es)

-- how a literal is entered that has no text of its own
abbrev pub literal_entry : Enums → PlainLiteral → (sort : Expression) → PlainEntry
literal_entry enums (EntityLiteral e i) sort = entity_entry (members_of enums e) i (spelled sort)
literal_entry enums (ExtensionLiteral x) sort = ByBody (extension_body x)
literal_entry enums l sort = ByName []

-- how a term is entered, by what it begins with, its sort and the texts of its other parts
abbrev pub entry_by : Enums → PlainLabel → NodeRendering → (head sort : Expression) → List Expression → PlainEntry
entry_by enums (ApplicationLabel op) how head sort es = application_entry how op head es
entry_by enums CallLabel how head sort es = ByBody (call_body es)
entry_by enums (LiteralLabel l) how head sort es = literal_entry enums l sort
entry_by enums NoneLabel how head sort es = ByBody (none_body sort)
entry_by enums (RecordOfLabel names) how head sort es = ByBody (record_body sort es)
entry_by enums SetOfLabel how head sort es = ByBody (set_body sort es)
entry_by enums SomeLabel how head sort es = ByBody (group (name (codes "some") ∷ es))
entry_by enums (VariableLabel id) how head sort es = ByConstant id
entry_by enums l how head sort es = ByName []

-- a type's own lines, by the texts of its parts, and its name among the names
abbrev pub declare_by : Enums → PlainLabel → PlainType → List Expression → Tables → Written Expression
declare_by enums (EntityLabel e) t es s = enter_type t (next_entity s) (entity_lines (members_of enums e) e (next_entity s)) s
declare_by enums (ExtensionLabel k) t es s = enter_type t (kind_name k) (kind_lines k (kind_name k)) s
declare_by enums (RecordLabel names) t es s = enter_type t (next_record s) (record_lines names (next_record s) es) s
declare_by enums l t es s = made_of (name []) s

-- a function's own line, behind those of its types, and its name among the names
abbrev pub declare_function : PlainFunction → List Expression → Tables → Written Expression
declare_function f (argument ∷ output ∷ []) s =
    enter_function f (next_function s) (function_declaration (next_function s) argument output) s
declare_function f es s = made_of (name []) s

-- what stands before the lines of the parts: of a function its id
abbrev pub heading : PlainLabel → List Line
heading (FunctionLabel id) = function_heading id
heading l = []

-- the text of a type or a literal that has no entry, by the texts of its parts
abbrev pub inline_by : PlainLabel → List Expression → Option Expression
inline_by OptionLabel (sort ∷ []) = Some (option_sort sort)
inline_by (BitVecLabel width) es = Some (bit_sort width)
inline_by BoolLabel es = Some bool_sort
inline_by StringLabel es = Some string_sort
inline_by SetLabel (sort ∷ []) = Some (set_sort sort)
inline_by (LiteralLabel l) es = inline_text l
inline_by l es = None

-- how the own line of an application is written, by its operator, its arguments and the type that is claimed
abbrev pub op_rendering : PlainOp → PlainTerms → PlainType → NodeRendering
op_rendering (UufOp f) ts type = AsCall
op_rendering op ts type = Rendered (application_rendering op ts type)

-- the same of what a node stands for
abbrev pub rendering_in : Meaning → NodeRendering
rendering_in (TermMeaning (Application op ts type)) = op_rendering op ts type
rendering_in m = Rendered AsApplication

-- whether a label has a text of its own at so many parts
abbrev pub has_inline : PlainLabel → ℕ → Bool
has_inline OptionLabel n = nat_eq n 1
has_inline (BitVecLabel width) n = true
has_inline BoolLabel n = true
has_inline StringLabel n = true
has_inline SetLabel n = nat_eq n 1
has_inline (LiteralLabel l) n = is_some (inline_text l)
has_inline l n = false

-- the label of `bvnego`, the overflow test of a negation
abbrev pub is_negation_label : PlainLabel → Bool
is_negation_label (ApplicationLabel BvnegoOp) = true
is_negation_label l = false

-- the label of a call of a function
abbrev pub is_call_label : PlainLabel → Bool
is_call_label CallLabel = true
is_call_label l = false

-- the type is Bool
abbrev pub is_truth_type : PlainType → Bool
is_truth_type BoolType = true
is_truth_type t = false

-- the width of a type of bitvectors
abbrev pub width_of_type : PlainType → Option ℕ
width_of_type (BitVecType width) = Some width
width_of_type t = None

-- a list with its second item behind the others
abbrev pub second_last : {A : Type 0} → List A → List A
second_last (x ∷ y ∷ xs) = x ∷ (xs ++ y ∷ [])
second_last xs = xs

-- What is written before the node itself, in order: all parts, of a call with the function behind the arguments; of what is written as
-- `false` the type alone.
abbrev pub written_parts : {A : Type 0} → NodeRendering → List A → List A
written_parts AsCall ms = second_last ms
written_parts (Rendered AsFalse) ms = take 1 ms
written_parts how ms = ms

-- what is written of a node that has no text of its own, by the texts of its parts
abbrev pub entered_by : Enums → PlainLabel → NodeRendering → Meaning → List Expression → Tables → Written Expression
entered_by enums l how (TermMeaning t) (sort ∷ es) s = enter_by (entry_by enums l how (head_in t s) sort es) t sort s
entered_by enums l how (TypeMeaning t) es s = declare_by enums l t es s
entered_by enums l how (FunctionMeaning f) es s = declare_function f es s
entered_by enums l how m es s = made_of (name []) s

-- what is written of the node itself, by the texts of its parts: nothing where it has a text of its own, and else its own lines
abbrev pub own_by : Enums → PlainLabel → NodeRendering → Meaning → List Expression → Tables → Written Expression
own_by enums l how m es s = elim (inline_by l es) [ Some e ↦ made_of e s | None ↦ entered_by enums l how m es s ]

-- the same of what a node stands for
abbrev pub own_lines : Enums → Meaning → List Expression → Tables → Written Expression
own_lines enums m es s = own_by enums (label_in m) (rendering_in m) m es s

-- the fault of a literal that has a text of its own
abbrev pub inline_fault : PlainLabel → Option Fault
inline_fault (LiteralLabel l) = string_fault l
inline_fault l = None

-- the fault of an entity literal: it is no member of its enum type, or its id has a character that no string has
abbrev pub literal_entry_fault : Enums → PlainLiteral → Option Fault
literal_entry_fault enums (EntityLiteral e i) = entity_fault e i (members_of enums e)
literal_entry_fault enums l = None

-- the fault of a pattern with a character that no string has, where the application is written by its head
abbrev pub application_fault : NodeRendering → PlainOp → Option Fault
application_fault (Rendered (AsEqualsIntMin width)) op = None
application_fault (Rendered AsFalse) op = None
application_fault how op = pattern_fault op

-- the fault of a label's own lines, apart from those of the parts
abbrev pub entry_fault : Enums → PlainLabel → NodeRendering → Option Fault
entry_fault enums (EntityLabel e) how = entity_type_fault e (members_of enums e)
entry_fault enums (ApplicationLabel op) how = application_fault how op
entry_fault enums (LiteralLabel l) how = literal_entry_fault enums l
entry_fault enums l how = None

-- the fault of what an application begins with: of `record.get`, by the types of its operands
abbrev pub head_fault : PlainOp → PlainTerms → Option Fault
head_fault (RecordGetOp a) ts = record_get_fault a (types_of ts)
head_fault op ts = None

-- the same of what a node stands for
abbrev pub selection_fault : Meaning → Option Fault
selection_fault (TermMeaning (Application op ts type)) = head_fault op ts
selection_fault m = None

-- the fault of a node, apart from those of its parts: of its text, then of what it begins with, then of its own lines
abbrev pub own_fault : Enums → PlainLabel → NodeRendering → (head : Option Fault) → Option Fault
own_fault enums l how head = option_or (inline_fault l) (option_or head (entry_fault enums l how))

-- an operator that the program has in applications: all but a function, since a function at arguments is a call
abbrev pub is_built_op : PlainOp → Bool
is_built_op (UufOp f) = false
is_built_op o = true

-- a label that the program has nodes for
abbrev pub is_built : PlainLabel → Bool
is_built (ApplicationLabel o) = is_built_op o
is_built l = true

-- a label of terms that have entries
abbrev pub is_entered : PlainLabel → Bool
is_entered (ApplicationLabel o) = true
is_entered CallLabel = true
is_entered NoneLabel = true
is_entered (LiteralLabel l) = is_entered_literal l
is_entered (RecordOfLabel names) = true
is_entered SetOfLabel = true
is_entered SomeLabel = true
is_entered (VariableLabel id) = true
is_entered l = false

-- a label of types that have entries, or of functions
abbrev pub is_declared : PlainLabel → Bool
is_declared (EntityLabel e) = true
is_declared (ExtensionLabel k) = true
is_declared (RecordLabel names) = true
is_declared (FunctionLabel id) = true
is_declared l = false
