-- The label of what a node stands for, and what its parts stand for.
use Rattle.std.specs.Prelude.{ℕ, List, [], ◌∷◌, map}
use Rattle.law_terms.specs.Plain.{PlainType, OptionType, BitVecType, BoolType, EntityType, ExtensionType, StringType, RecordType, SetType}
use Rattle.law_terms.specs.Plain.{AttributeTypes, no_attributes, attribute, UufOp, PlainTerm, Application, NoneTerm, LiteralTerm}
use Rattle.law_terms.specs.Plain.{RecordTerm, SetTerm, SomeTerm, VariableTerm, PlainFields, no_fields, one_field, list_of_terms}
use Rattle.law_terms.specs.Types.{type_of}
use Rattle.law_terms.specs.Nodes.{PlainLabel, OptionLabel, BitVecLabel, BoolLabel, EntityLabel, ExtensionLabel, StringLabel, RecordLabel}
use Rattle.law_terms.specs.Nodes.{SetLabel, FunctionLabel, ApplicationLabel, CallLabel, NoneLabel, LiteralLabel, RecordOfLabel, SetOfLabel}
use Rattle.law_terms.specs.Nodes.{SomeLabel, VariableLabel, Meaning, TypeMeaning, FunctionMeaning, TermMeaning}

-- the names of a record type's attributes, in order
abbrev pub attribute_names : AttributeTypes → List (List ℕ)
attribute_names no_attributes = []
attribute_names (attribute a t x) = a ∷ attribute_names x

-- the types of a record type's attributes, in order
abbrev pub types_in : AttributeTypes → List Meaning
types_in no_attributes = []
types_in (attribute a t x) = TypeMeaning t ∷ types_in x

-- the attributes of a record's fields, in order
abbrev pub field_names : PlainFields → List (List ℕ)
field_names no_fields = []
field_names (one_field a t x) = a ∷ field_names x

-- the terms of a record's fields, in order
abbrev pub field_terms : PlainFields → List Meaning
field_terms no_fields = []
field_terms (one_field a t x) = TermMeaning t ∷ field_terms x

-- the label of a type
abbrev pub type_label : PlainType → PlainLabel
type_label (OptionType t) = OptionLabel
type_label (BitVecType n) = BitVecLabel n
type_label BoolType = BoolLabel
type_label (EntityType e) = EntityLabel e
type_label (ExtensionType k) = ExtensionLabel k
type_label StringType = StringLabel
type_label (RecordType x) = RecordLabel (attribute_names x)
type_label (SetType t) = SetLabel

-- what the parts of a type stand for
abbrev pub type_parts : PlainType → List Meaning
type_parts (OptionType t) = TypeMeaning t ∷ []
type_parts (RecordType x) = types_in x
type_parts (SetType t) = TypeMeaning t ∷ []
type_parts t = []

-- the label of a term; an application of a function is a call
abbrev pub term_label : PlainTerm → PlainLabel
term_label (Application (UufOp f) ts t) = CallLabel
term_label (Application o ts t) = ApplicationLabel o
term_label (NoneTerm t) = NoneLabel
term_label (LiteralTerm l) = LiteralLabel l
term_label (RecordTerm x) = RecordOfLabel (field_names x)
term_label (SetTerm t ts) = SetOfLabel
term_label (SomeTerm t) = SomeLabel
term_label (VariableTerm id t) = VariableLabel id

-- what the parts of a term stand for, behind its type
abbrev pub term_parts : PlainTerm → List Meaning
term_parts (Application (UufOp f) ts t) = FunctionMeaning f ∷ map TermMeaning (list_of_terms ts)
term_parts (Application o ts t) = map TermMeaning (list_of_terms ts)
term_parts (RecordTerm x) = field_terms x
term_parts (SetTerm t ts) = map TermMeaning (list_of_terms ts)
term_parts (SomeTerm t) = TermMeaning t ∷ []
term_parts t = []

-- the label of a node that stands for this
abbrev pub label_in : Meaning → PlainLabel
label_in (TypeMeaning t) = type_label t
label_in (FunctionMeaning f) = FunctionLabel f.id
label_in (TermMeaning t) = term_label t

-- what the parts of a node stand for that stands for this; a term's first part is its type
abbrev pub parts_in : Meaning → List Meaning
parts_in (TypeMeaning t) = type_parts t
parts_in (FunctionMeaning f) = TypeMeaning f.argument ∷ TypeMeaning f.output ∷ []
parts_in (TermMeaning t) = TypeMeaning (type_of t) ∷ term_parts t
