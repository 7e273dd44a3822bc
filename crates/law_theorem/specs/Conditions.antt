-- Conditions: what is typed as Boolean, is formed and has no fault. It can be encoded.
use Rattle.std.specs.Prelude.{◌≡◌, ℕ, nat_lt, bytes_eq, length, List, [], ◌∷◌, None, IsTrue}
use Rattle.std.specs.List.{AllByRecursion, list_any}
use Rattle.std.specs.Option.{is_some}
use Rattle.law_terms.specs.Plain.{PlainType, AttributeTypes, PlainTerm, terms}
use Rattle.law_terms.specs.Faults.{type_fault, first_fault}
use Rattle.law_terms.specs.Formed.{IsFormedType, IsFormed}
use Rattle.law_terms.specs.Parts.{attribute_names}
use Rattle.law_terms.specs.Types.{attribute_in}
use Rattle.law_terms.specs.Typing.{typed, AreBoolean, AreTyped}
use Rattle.law_terms.specs.TypeValues.{Enums}
use Rattle.law_lines.specs.EntryNames.{place_of}
use Rattle.law_lines.specs.Lines.{Call, PushCall, PopCall, EncodeCall, Encoding, after_call}
use Rattle.law_lines.specs.Rows.{condition}
use Rattle.law_lines.specs.Calls.{HasBelow}
use Rattle.law_lines.specs.Encodable.{IsEncodableType, IsEncodable, AreEncodable}

-- ---- look-ups

-- a place is one in the list where some text is the same
abbrev pub PlacesAreFound : Type 0
PlacesAreFound = (i : List ℕ) (ms : List (List ℕ)) → nat_lt (place_of i ms) (length ms) ≡ list_any (bytes_eq i) ms

-- the place of an attribute is one in the record type where some attribute has this name
abbrev pub AttributesAreFound : Type 0
AttributesAreFound =
    (a : List ℕ) (x : AttributeTypes) → nat_lt (place_of a (attribute_names x)) (length (attribute_names x)) ≡ is_some (attribute_in a x)

-- ---- terms

-- A formed type without fault can be encoded: each width is one, and each enum type has a member.
abbrev pub FormedTypesAreEncodable : Type 0
FormedTypesAreEncodable = (enums : Enums) (t : PlainType) → type_fault enums t ≡ None → IsFormedType t → IsEncodableType enums t

-- A term that is typed and formed and has no fault can be encoded.
abbrev pub TypedTermsAreEncodable : Type 0
TypedTermsAreEncodable =
    (enums : Enums) (t : PlainTerm) → IsTrue (typed t) → IsFormed t → first_fault enums (t ∷ []) ≡ None → IsEncodable enums t

-- Terms that are typed and formed and have no fault can be encoded.
abbrev pub TypedListsAreEncodable : Type 0
TypedListsAreEncodable =
    (enums : Enums) (ts : List PlainTerm) → AreTyped ts → AllByRecursion IsFormed ts → first_fault enums ts ≡ None →
    AreEncodable enums (terms ts)

-- Conditions: typed Boolean terms, formed and without fault.
pub record AreConditions (enums : Enums) (ts : List PlainTerm) : Type 0 where
  pub are_typed : AreBoolean ts
  pub are_formed : AllByRecursion IsFormed ts
  pub have_no_fault : first_fault enums ts ≡ None

-- Calls, of which what is encoded are conditions, and what is popped was pushed.
abbrev pub IsCallOfConditions : Enums → Call → Encoding → Type 0
IsCallOfConditions enums PushCall s = Unit {0}
IsCallOfConditions enums PopCall s = HasBelow s.below
IsCallOfConditions enums (EncodeCall ts) s = AreConditions enums ts

-- Each call of a list is such after those before it: what is encoded are conditions, and what is popped was pushed.
abbrev pub AreCallsOfConditions : Enums → List Call → Encoding → Type 0
AreCallsOfConditions enums [] s = Unit {0}
AreCallsOfConditions enums (c ∷ cs) s = IsCallOfConditions enums c s × AreCallsOfConditions enums cs (after_call enums c s)

-- These terms are such: a pattern, a set, IP ranges and datetimes, on what functions give for a variable.
abbrev pub TheseAreConditions : Type 0
TheseAreConditions = AreConditions [] condition
