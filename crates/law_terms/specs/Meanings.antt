-- What nodes stand for.
use Rattle.std.specs.Prelude.{ℕ, Bool, true, false, ◌++◌, List, [], ◌∷◌, Option, Some, None, fold, option_and_then, option_map, slice_get}
use Rattle.std.specs.Bool.{then_some}
use Rattle.law_terms.specs.Plain.{PlainType, OptionType, BitVecType, BoolType, EntityType, ExtensionType, StringType, RecordType, SetType}
use Rattle.law_terms.specs.Plain.{AttributeTypes, no_attributes, attribute, UufOp, PlainTerm, Application, NoneTerm, LiteralTerm}
use Rattle.law_terms.specs.Plain.{RecordTerm, SetTerm, SomeTerm, VariableTerm, PlainFields, no_fields, one_field, terms}
use Rattle.law_terms.specs.TermOrder.{term_cmp}
use Rattle.law_terms.specs.Types.{type_eq, type_of}
use Rattle.law_terms.specs.ValueOrder.{ascends, text_cmp}
use Rattle.law_terms.specs.Nodes.{PlainLabel, OptionLabel, BitVecLabel, BoolLabel, EntityLabel, ExtensionLabel, StringLabel, RecordLabel}
use Rattle.law_terms.specs.Nodes.{SetLabel, FunctionLabel, ApplicationLabel, CallLabel, NoneLabel, LiteralLabel, RecordOfLabel, SetOfLabel}
use Rattle.law_terms.specs.Nodes.{SomeLabel, VariableLabel, PlainNode, Meaning, TypeMeaning, FunctionMeaning, TermMeaning}

-- the terms that all of these are, none where one is no term
abbrev pub terms_in : List Meaning → Option (List PlainTerm)
terms_in [] = Some []
terms_in (TermMeaning t ∷ ms) = option_map (λ ts. t ∷ ts) (terms_in ms)
terms_in ms = None

-- the attributes of a record type, from their names and what their types stand for; none where these do not go together
abbrev pub attributes_in : List (List ℕ) → List Meaning → Option AttributeTypes
attributes_in [] [] = Some no_attributes
attributes_in (a ∷ names) (TypeMeaning t ∷ ms) = option_map (attribute a t) (attributes_in names ms)
attributes_in names ms = None

-- the fields of a record, from their names and what their terms stand for; none where these do not go together
abbrev pub fields_in : List (List ℕ) → List Meaning → Option PlainFields
fields_in [] [] = Some no_fields
fields_in (a ∷ names) (TermMeaning t ∷ ms) = option_map (one_field a t) (fields_in names ms)
fields_in names ms = None

-- an answer that is given where a test holds
abbrev pub only_if : {A : Type 0} → Bool → Option A → Option A
only_if true x = x
only_if false x = None

-- the term that a label makes of a type and of what the parts behind the type stand for
abbrev pub term_made : PlainLabel → PlainType → List Meaning → Option PlainTerm
term_made (ApplicationLabel (UufOp f)) t ms = None
term_made (ApplicationLabel o) t ms = option_map (λ ts. Application o (terms ts) t) (terms_in ms)
term_made CallLabel t (FunctionMeaning f ∷ ms) = option_map (λ ts. Application (UufOp f) (terms ts) t) (terms_in ms)
term_made NoneLabel (OptionType t) [] = Some (NoneTerm t)
term_made (LiteralLabel l) t [] = Some (LiteralTerm l)
term_made (RecordOfLabel names) t ms = only_if (ascends text_cmp names) (option_map RecordTerm (fields_in names ms))
term_made SetOfLabel (SetType t) ms = option_and_then (λ ts. then_some (ascends term_cmp ts) (SetTerm t (terms ts))) (terms_in ms)
term_made SomeLabel t (TermMeaning u ∷ []) = Some (SomeTerm u)
term_made (VariableLabel id) t [] = Some (VariableTerm id t)
term_made l t ms = None

-- a term as what a node stands for, where its type is this one
abbrev pub typed_as : PlainType → PlainTerm → Option Meaning
typed_as t u = then_some (type_eq (type_of u) t) (TermMeaning u)

-- what a label stands for at what its parts stand for, none where it does not fit them
abbrev pub stands_for : PlainLabel → List Meaning → Option Meaning
stands_for OptionLabel (TypeMeaning t ∷ []) = Some (TypeMeaning (OptionType t))
stands_for (BitVecLabel n) [] = Some (TypeMeaning (BitVecType n))
stands_for BoolLabel [] = Some (TypeMeaning BoolType)
stands_for (EntityLabel e) [] = Some (TypeMeaning (EntityType e))
stands_for (ExtensionLabel k) [] = Some (TypeMeaning (ExtensionType k))
stands_for StringLabel [] = Some (TypeMeaning StringType)
stands_for (RecordLabel names) ms = only_if (ascends text_cmp names) (option_map (λ x. TypeMeaning (RecordType x)) (attributes_in names ms))
stands_for SetLabel (TypeMeaning t ∷ []) = Some (TypeMeaning (SetType t))
stands_for (FunctionLabel id) (TypeMeaning t ∷ TypeMeaning u ∷ []) = Some (FunctionMeaning (record { id = id; argument = t; output = u }))
stands_for l (TypeMeaning t ∷ ms) = option_and_then (typed_as t) (term_made l t ms)
stands_for l ms = None

-- what stands at a place, none past the end
abbrev pub found : List (Option Meaning) → ℕ → Option Meaning
found ms i = option_and_then (λ m. m) (slice_get ms i)

-- what stands at each of these places, none where one of them has nothing
abbrev pub all_found : List (Option Meaning) → List ℕ → Option (List Meaning)
all_found ms [] = Some []
all_found ms (i ∷ is) = option_and_then (λ m. option_map (λ rest. m ∷ rest) (all_found ms is)) (found ms i)

-- what a node stands for, by what the nodes before it stand for; none where it does not fit them
abbrev pub meaning_of : List (Option Meaning) → PlainNode → Option Meaning
meaning_of ms n = option_and_then (stands_for n.label) (all_found ms n.parts)

-- what nodes stand for, each by those before it
abbrev pub meanings : List PlainNode → List (Option Meaning)
meanings ns = fold (λ ms n. ms ++ meaning_of ms n ∷ []) [] ns

-- what the node at a place stands for
abbrev pub meaning_at : List PlainNode → ℕ → Option Meaning
meaning_at ns i = found (meanings ns) i
