-- When a node fits the nodes before it.
use Rattle.std.specs.Prelude.{ℕ, Bool, true, false, ◌&&◌, List, [], ◌∷◌, length, nat_lt, None, Some, is_some, unwrap_or}
use Rattle.std.specs.List.{list_all}
use Rattle.law_terms.specs.Plain.{OptionType, RecordType, UufOp, PlainTerm}
use Rattle.law_terms.specs.TermOrder.{term_cmp}
use Rattle.law_terms.specs.Types.{field_types, inner_type, is_set, literal_type, type_eq, type_of}
use Rattle.law_terms.specs.ValueOrder.{ascends, text_cmp}
use Rattle.law_terms.specs.Meanings.{all_found, fields_in, meanings, terms_in}
use Rattle.law_terms.specs.Nodes.{PlainLabel, OptionLabel, BitVecLabel, BoolLabel, EntityLabel, ExtensionLabel, StringLabel, RecordLabel}
use Rattle.law_terms.specs.Nodes.{SetLabel, FunctionLabel, ApplicationLabel, CallLabel, NoneLabel, LiteralLabel, RecordOfLabel, SetOfLabel}
use Rattle.law_terms.specs.Nodes.{SomeLabel, VariableLabel, PlainNode, Meaning, TypeMeaning, FunctionMeaning, TermMeaning}

-- a part that is a type
abbrev pub is_type : Meaning → Bool
is_type (TypeMeaning t) = true
is_type m = false

-- a part that is a term
abbrev pub is_term : Meaning → Bool
is_term (TermMeaning t) = true
is_term m = false

-- two lists have as many items
abbrev pub same_length : {A B : Type 0} → List A → List B → Bool
same_length [] [] = true
same_length (x ∷ xs) (y ∷ ys) = same_length xs ys
same_length xs ys = false

-- the parts have the number and the kinds that the label wants
abbrev pub has_kinds : PlainLabel → List Meaning → Bool
has_kinds OptionLabel (TypeMeaning t ∷ []) = true
has_kinds (BitVecLabel n) [] = true
has_kinds BoolLabel [] = true
has_kinds (EntityLabel e) [] = true
has_kinds (ExtensionLabel k) [] = true
has_kinds StringLabel [] = true
has_kinds (RecordLabel names) ms = list_all is_type ms && same_length names ms
has_kinds SetLabel (TypeMeaning t ∷ []) = true
has_kinds (FunctionLabel id) (TypeMeaning t ∷ TypeMeaning u ∷ []) = true
has_kinds (ApplicationLabel o) (TypeMeaning t ∷ ms) = list_all is_term ms
has_kinds CallLabel (TypeMeaning t ∷ FunctionMeaning f ∷ ms) = list_all is_term ms
has_kinds NoneLabel (TypeMeaning t ∷ []) = true
has_kinds (LiteralLabel l) (TypeMeaning t ∷ []) = true
has_kinds (RecordOfLabel names) (TypeMeaning t ∷ ms) = list_all is_term ms && same_length names ms
has_kinds SetOfLabel (TypeMeaning t ∷ ms) = list_all is_term ms
has_kinds SomeLabel (TypeMeaning t ∷ TermMeaning u ∷ []) = true
has_kinds (VariableLabel id) (TypeMeaning t ∷ []) = true
has_kinds l ms = false

-- A term's first part is the type that the term has. Of an application, a call and a variable it is the claimed one, which may be
-- any type, as in terms.
abbrev pub has_type : PlainLabel → List Meaning → Bool
has_type NoneLabel (TypeMeaning t ∷ ms) = is_some (inner_type t)
has_type (LiteralLabel l) (TypeMeaning t ∷ ms) = type_eq (literal_type l) t
has_type (RecordOfLabel names) (TypeMeaning t ∷ ms) =
    elim (fields_in names ms) [ None ↦ false | Some fs ↦ type_eq (RecordType (field_types fs)) t ]
has_type SetOfLabel (TypeMeaning t ∷ ms) = is_set t
has_type SomeLabel (TypeMeaning t ∷ TermMeaning u ∷ ms) = type_eq (OptionType (type_of u)) t
has_type l ms = true

-- the attributes that a label names
abbrev pub attributes_of : PlainLabel → List (List ℕ)
attributes_of (RecordLabel names) = names
attributes_of (RecordOfLabel names) = names
attributes_of l = []

-- the elements of a set, where the label is of one
abbrev pub elements_of : PlainLabel → List Meaning → List PlainTerm
elements_of SetOfLabel (TypeMeaning t ∷ ms) = unwrap_or (terms_in ms) []
elements_of l ms = []

-- an application's operator is no uninterpreted function: that is a call
abbrev pub applies_no_function : PlainLabel → Bool
applies_no_function (ApplicationLabel (UufOp f)) = false
applies_no_function l = true

-- a label fits what its parts stand for
abbrev pub fits_parts : PlainLabel → List Meaning → Bool
fits_parts l ms =
    has_kinds l ms && has_type l ms && ascends text_cmp (attributes_of l) && ascends term_cmp (elements_of l ms) && applies_no_function l

-- A node fits the nodes before it: its parts stand before it, and its label fits what they stand for. This is the test for having a
-- meaning.
abbrev pub fits : List PlainNode → PlainNode → Bool
fits ns n =
    list_all (λ i. nat_lt i (length ns)) n.parts
    && elim (all_found (meanings ns) n.parts) [ None ↦ false | Some ms ↦ fits_parts n.label ms ]
