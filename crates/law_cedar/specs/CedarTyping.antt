-- Which values are of which Cedar types.
use Rattle.std.specs.Prelude.{◌≡◌, ⊤, ℕ, Bool, false, Contains, IsTrue, List, [], ◌∷◌, Option, Some, None}
use Rattle.std.specs.List.{AllByRecursion}
use Rattle.law_numbers.specs.Extensions.{PlainExtension}
use Rattle.law_terms.specs.Types.{kind_of}
use Rattle.law_terms.specs.ValueOrder.{ascends, text_cmp}
use Rattle.smt_values.specs.Cedar.{PlainCedar, AnyBoolType, OneBoolType, LongType, TextType, SetType, EmptySetType, ClosedRecordType}
use Rattle.smt_values.specs.Cedar.{OpenRecordType, AnyEntityType, EntityOfType, ExtensionNamed, CedarAttributes, no_attributes, attribute}
use Rattle.smt_values.specs.TypeOfCedar.{extension_named, last_name}
use Rattle.smt_values.specs.Constructors.{value_of_expression}
use Rattle.smt_values.specs.PlainValues.{TruthOf, LongOf, TextOf, EntityOf, PlainValue, LiteralValue, SetValue, RecordValue, ExtensionValue}
use Rattle.smt_values.specs.PlainValues.{no_values, PlainFields}
use Rattle.law_cedar.specs.CedarMeaning.{elements_of, fields_of, value_named}

-- ---- parts

-- an expression says a value, and it is of the extension type whose name has this last part
abbrev pub IsOfExtension : (part : List ℕ) → Option PlainExtension → Type 0
IsOfExtension part (Some x) = extension_named part ≡ Some (kind_of x)
IsOfExtension part None = ⊥

-- the names of a record type's attributes, in order
abbrev pub names_of_type : CedarAttributes → List (List ℕ)
names_of_type no_attributes = []
names_of_type (attribute name type required others) = name ∷ names_of_type others

-- a record has no attribute that the type lacks
abbrev pub HasNoOther : CedarAttributes → PlainFields → Type 0
HasNoOther named held = AllByRecursion (λ p. Contains (names_of_type named) p.0) (fields_of held)

-- an attribute is of its type where the record has it, and is not required where the record lacks it
abbrev pub IsOfAttribute : (IsOf : PlainValue → Type 0) → (required : Bool) → Option PlainValue → Type 0
IsOfAttribute IsOf required (Some v) = IsOf v
IsOfAttribute IsOf required None = required ≡ false

-- ---- all values

abbrev mutual
  -- A literal is of its own type: a truth value of that alone too, an entity of types among which its own is. An extension value is
  -- of the type that its expression says. A set is of a set type where each element is of the element type. A record is of a record
  -- type where it has the type's attributes, and no others where the type is closed.
  pub IsOfType : PlainCedar → PlainValue → Type 0
  IsOfType AnyBoolType (LiteralValue (TruthOf b)) = ⊤
  IsOfType (OneBoolType a) (LiteralValue (TruthOf b)) = b ≡ a
  IsOfType LongType (LiteralValue (LongOf n)) = ⊤
  IsOfType TextType (LiteralValue (TextOf text)) = ⊤
  IsOfType AnyEntityType (LiteralValue (EntityOf type id)) = ⊤
  IsOfType (EntityOfType types) (LiteralValue (EntityOf type id)) = Contains types type
  IsOfType (ExtensionNamed name) (ExtensionValue e) = IsOfExtension (last_name name) (value_of_expression e)
  IsOfType EmptySetType (SetValue no_values) = ⊤
  IsOfType (SetType element) (SetValue vs) = AllByRecursion (IsOfType element) (elements_of vs)
  IsOfType (ClosedRecordType named) (RecordValue held) = HasAttributes named held × HasNoOther named held
  IsOfType (OpenRecordType named) (RecordValue held) = HasAttributes named held
  IsOfType type v = ⊥

  -- a record of these fields has each of the attributes
  pub HasAttributes : CedarAttributes → PlainFields → Type 0
  HasAttributes no_attributes held = ⊤
  HasAttributes (attribute name type required others) held =
      IsOfAttribute (IsOfType type) required (value_named name held) × HasAttributes others held

-- ---- types in order

abbrev mutual
  -- the attributes of each record type in a type ascend strictly by their bytes, as those of the program's types do
  pub IsInOrder : PlainCedar → Type 0
  IsInOrder (SetType element) = IsInOrder element
  IsInOrder (ClosedRecordType named) = IsTrue (ascends text_cmp (names_of_type named)) × AreInOrder named
  IsInOrder (OpenRecordType named) = IsTrue (ascends text_cmp (names_of_type named)) × AreInOrder named
  IsInOrder type = ⊤

  -- the types of a record type's attributes are in order
  pub AreInOrder : CedarAttributes → Type 0
  AreInOrder no_attributes = ⊤
  AreInOrder (attribute name type required others) = IsInOrder type × AreInOrder others
