-- What stands at a place, by its kind and its type.
use Rattle.std.specs.List.{list_all}
use Rattle.std.specs.Prelude.{◌≡◌, ℕ, Bool, true, false, ◌&&◌, List, [], ◌∷◌, Option, Some, None, is_some, option_and_then}
use Rattle.law_terms.specs.Plain.{PlainType, BoolType, OptionType, RecordType, AttributeTypes, PlainLiteral, PlainTerm}
use Rattle.law_terms.specs.TermOrder.{term_cmp}
use Rattle.law_terms.specs.ValueOrder.{ascends}
use Rattle.law_terms.specs.Types.{inner_type, is_set, literal_type, type_eq, type_of}
use Rattle.law_terms.specs.Meanings.{all_found, terms_in}
use Rattle.law_terms.specs.Fits.{is_term}
use Rattle.law_terms.specs.Parts.{attribute_names}
use Rattle.law_terms.specs.Nodes.{Meaning, TypeMeaning, FunctionMeaning, TermMeaning}

-- a type stands there
abbrev pub is_type_at : Option Meaning → Bool
is_type_at (Some (TypeMeaning t)) = true
is_type_at m = false

-- a function stands there
abbrev pub is_function_at : Option Meaning → Bool
is_function_at (Some (FunctionMeaning f)) = true
is_function_at m = false

-- a term stands there
abbrev pub is_term_at : Option Meaning → Bool
is_term_at (Some (TermMeaning t)) = true
is_term_at m = false

-- the type Bool stands there
abbrev pub is_bool_at : Option Meaning → Bool
is_bool_at (Some (TypeMeaning BoolType)) = true
is_bool_at m = false

-- a type of options stands there
abbrev pub is_option_at : Option Meaning → Bool
is_option_at (Some (TypeMeaning t)) = is_some (inner_type t)
is_option_at m = false

-- a type of sets stands there
abbrev pub is_set_at : Option Meaning → Bool
is_set_at (Some (TypeMeaning t)) = is_set t
is_set_at m = false

-- the type of this literal stands there
abbrev pub is_type_of_at : PlainLiteral → Option Meaning → Bool
is_type_of_at l (Some (TypeMeaning t)) = type_eq (literal_type l) t
is_type_of_at l m = false

-- at the first place stands the type of options of the type that the second place's term has
abbrev pub is_option_of_at : Option Meaning → Option Meaning → Bool
is_option_of_at (Some (TypeMeaning t)) (Some (TermMeaning u)) = type_eq (OptionType (type_of u)) t
is_option_of_at m n = false

-- the type of records of these attributes stands there
abbrev pub IsRecordAt : List (List ℕ) → Option Meaning → Type 0
IsRecordAt names m = (x : AttributeTypes) × (m ≡ Some (TypeMeaning (RecordType x))) × (names ≡ attribute_names x)

-- a term of this type stands there
abbrev pub is_typed_at : PlainType → Option Meaning → Bool
is_typed_at u (Some (TermMeaning t)) = type_eq (type_of t) u
is_typed_at u m = false

-- they are terms of these types, in order
abbrev pub are_typed : List PlainType → List Meaning → Bool
are_typed [] [] = true
are_typed (u ∷ us) (TermMeaning t ∷ ms) = type_eq (type_of t) u && are_typed us ms
are_typed us ms = false

-- the same where something stands at each of the places
abbrev pub are_typed_at : List PlainType → Option (List Meaning) → Bool
are_typed_at us None = false
are_typed_at us (Some ms) = are_typed us ms

-- a function, and behind it nothing but terms: what a call is made of
abbrev pub are_called : List Meaning → Bool
are_called (FunctionMeaning f ∷ ms) = list_all is_term ms
are_called ms = false

-- the same where something stands at each of the places
abbrev pub are_called_at : Option (List Meaning) → Bool
are_called_at None = false
are_called_at (Some ms) = are_called ms

-- the terms at these places, none where one of them has no term
abbrev pub terms_at : List (Option Meaning) → List ℕ → Option (List PlainTerm)
terms_at ms is = option_and_then terms_in (all_found ms is)

-- there are terms, and they ascend
abbrev pub ascend_at : Option (List PlainTerm) → Bool
ascend_at None = false
ascend_at (Some ts) = ascends term_cmp ts
