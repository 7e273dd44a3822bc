-- The sorts of types in a script, what it declares for them, and the values of these sorts carried back.
use Rattle.std.specs.Prelude.{◌≡◌, ℕ, ◌≤◌, false, bytes_eq, codes, List, [], ◌∷◌, Option, Some, IsTrue, ⊤}
use Rattle.law_terms.specs.Plain.{ExtensionKind, PlainType, OptionType, BitVecType, BoolType, EntityType, ExtensionType, StringType}
use Rattle.law_terms.specs.Plain.{RecordType, SetType, AttributeTypes, no_attributes, attribute}
use Rattle.law_terms.specs.Values.{Value}
use Rattle.law_scripts.specs.ScriptValues.{ScriptValue}
use Rattle.law_terms.specs.TypeValues.{IsValue, Enums, members_of, AreEnums}
use Rattle.law_texts.specs.Reading.{Expression}
use Rattle.law_scripts.specs.Script.{Builds}
use Rattle.law_scripts.specs.Sorts.{Entries, has_sort_in}
use Rattle.law_lines.specs.NameTables.{Tables}
use Rattle.law_scripts.specs.DeclarationLines.{Constructors, shown, at_place}
use Rattle.law_lines.specs.Command.{all_built}
use Rattle.law_lines.specs.LineForms as forms
use Rattle.law_lines.specs.Lines as lines
use Rattle.law_lines.specs.Naming.{type_name, type_sort}
use Rattle.law_lines.specs.Entries.{attribute_sorts}
use Rattle.law_theorem.specs.Carry.{carry, back}

-- ---- datatypes

-- the constructors that are declared for members of an enum type, from a place on: none of them has a field
abbrev pub shown_members : (type : List ℕ) → ℕ → List (List ℕ) → Constructors
shown_members type place members = shown (all_built (forms.member_constructors type place members))

-- the constructors that are declared for an entity type, each with the sorts of its fields: one for each member, or one with the id
abbrev pub shown_entity : (members : Option (List (List ℕ))) → (type : List ℕ) → Constructors
shown_entity members type = shown (all_built (forms.entity_constructors members type))

-- the constructors that are declared for an extension type, each with the sorts of its fields
abbrev pub shown_kind : ExtensionKind → Constructors
shown_kind kind = shown (all_built (forms.kind_constructors kind))

-- the constructors that are declared for options, each with the sorts of its fields
abbrev pub shown_option : Constructors
shown_option = shown (all_built lines.option_constructors)

-- What is declared builds values of this datatype by exactly these constructors.
pub record IsDatatype (here : Entries) (d : List ℕ) (ps : List (List ℕ)) (cs : Constructors) : Type 0 where
  pub builds : (place : ℕ) (c : List ℕ) (fields : List Expression) → at_place cs place ≡ Some (c, fields) →
      here c ≡ Some (Builds d ps place fields)
  pub only : (place : ℕ) (c : List ℕ) (fields : List Expression) (qs : List (List ℕ)) → here c ≡ Some (Builds d qs place fields) →
      (qs ≡ ps) × (at_place cs place ≡ Some (c, fields))

-- no datatype has this name
abbrev pub IsNoDatatype : Entries → List ℕ → Type 0
IsNoDatatype here d =
    (c : List ℕ) (qs : List (List ℕ)) (place : ℕ) (fields : List Expression) → here c ≡ Some (Builds d qs place fields) → ⊥

-- What every script of terms declares: options, and no datatype by the name of a sort that is built in.
pub record DeclaresOption (here : Entries) : Type 0 where
  pub options : IsDatatype here (codes "Option") (codes "X" ∷ []) shown_option
  pub bits : IsNoDatatype here (codes "_")
  pub truths : IsNoDatatype here (codes "Bool")
  pub texts : IsNoDatatype here (codes "String")
  pub sets : IsNoDatatype here (codes "Set")

-- A type with a name of its own.
pub record IsNamed (here : Entries) (n : List ℕ) (cs : Constructors) : Type 0 where
  pub not_bool : bytes_eq n (codes "Bool") ≡ false
  pub not_string : bytes_eq n (codes "String") ≡ false
  pub datatype : IsDatatype here n [] cs

abbrev mutual
  -- Each type that has a name, in this type, is declared; and widths are those of bitvectors.
  pub TypeIsDeclared : Enums → Tables → Entries → PlainType → Type 0
  TypeIsDeclared enums s here (OptionType t) = TypeIsDeclared enums s here t
  TypeIsDeclared enums s here (BitVecType width) = (1 ≤ width) × (width ≤ 128)
  TypeIsDeclared enums s here BoolType = ⊤
  TypeIsDeclared enums s here (EntityType type) =
      IsNamed here (type_name s (EntityType type)) (shown_entity (members_of enums type) (type_name s (EntityType type)))
  TypeIsDeclared enums s here (ExtensionType kind) = IsNamed here (type_name s (ExtensionType kind)) (shown_kind kind)
  TypeIsDeclared enums s here StringType = ⊤
  TypeIsDeclared enums s here (RecordType x) =
      IsNamed here (type_name s (RecordType x)) ((type_name s (RecordType x), attribute_sorts s x) ∷ [])
      × AttributesAreDeclared enums s here x
  TypeIsDeclared enums s here (SetType t) = TypeIsDeclared enums s here t

  -- The same of the type of each attribute.
  pub AttributesAreDeclared : Enums → Tables → Entries → AttributeTypes → Type 0
  AttributesAreDeclared enums s here no_attributes = ⊤
  AttributesAreDeclared enums s here (attribute a t x) = TypeIsDeclared enums s here t × AttributesAreDeclared enums s here x

-- Carried values have the sort of their type.
abbrev pub CarriedValuesHaveSorts : Type 0
CarriedValuesHaveSorts =
    (enums : Enums) (s : Tables) (here : Entries) (ty : PlainType) (v : Value) → AreEnums enums → DeclaresOption here →
    TypeIsDeclared enums s here ty
    → IsValue enums ty v → IsTrue (has_sort_in here (type_sort s ty) (carry enums s ty v))

-- A value of the type's sort is a value of the type that is carried.
abbrev pub CarryingIsOnto : Type 0
CarryingIsOnto =
    (enums : Enums) (s : Tables) (here : Entries) (ty : PlainType) (x : ScriptValue) → AreEnums enums → DeclaresOption here →
    TypeIsDeclared enums s here ty
    → IsTrue (has_sort_in here (type_sort s ty) x) → IsValue enums ty (back enums ty x) × (carry enums s ty (back enums ty x) ≡ x)

-- What is carried comes back.
abbrev pub BackUndoesCarrying : Type 0
BackUndoesCarrying =
    (enums : Enums) (s : Tables) (here : Entries) (ty : PlainType) (v : Value) → AreEnums enums → DeclaresOption here →
    TypeIsDeclared enums s here ty
    → IsValue enums ty v → back enums ty (carry enums s ty v) ≡ v
