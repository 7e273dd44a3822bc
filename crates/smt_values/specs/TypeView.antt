-- The plain form of the program's Cedar types: what they say, without where they lie in memory.
use Rattle.std.specs.Prelude.{ℕ, true, false, List, [], ◌∷◌, map, ◌≡◌, refl}
use Rattle.std.specs.List.{zip}
use Rattle.std.proofs.Common.{ap, sym, ◌∙◌}
use Rattle.std.specs.Rc.{rc_str_bytes}
use Rattle.std.specs.declared.alloc.Global.{Global}
use Rattle.std.specs.declared.option.Option.{Option as HeldOption}
use Rattle.std.specs.declared.option.Option.TheVariants.{Some, None}
use Rattle.std.specs.declared.rc.Rc.{Rc}
use Rattle.std.specs.declared.rc.RcStr.{RcStr}
use Rattle.law_terms.specs.Plain.{AttributeTypes, attribute_types}
use Rattle.smt_term.specs.Entities.{bytes_of_type}
use Rattle.smt_term.specs.Pairs.{attributes_in}
use Rattle.smt_values.specs.AttributeMaps.{pairs_of, attributes_of}
use Rattle.smt_term.specs.NamedVecs.{attributes-over}
use Rattle.smt_values.specs.declared.attribute_map.AttributeMap.{AttributeMap}
use Rattle.smt_term.specs.View.{plain_attribute, plain_attributes}
use Rattle.smt_term.specs.declared.type_maps.TypeMap.{TypeMap}
use Rattle.smt_term.specs.declared.types.TermType.{TermType}
use Rattle.smt_values.specs.declared.attributes.Attributes.{Attributes, Attributes', Row_of-AttributeType, end_of-AttributeType}
use Rattle.smt_values.specs.declared.attributes.Attributes.{more_of-AttributeType, items-the_row-AttributeType}
use Rattle.smt_values.specs.declared.attributes.Attributes.{items_hidden-the_row-AttributeType-0, out-Attributes, roll-Attributes}
use Rattle.smt_values.specs.declared.attributes.Attributes.{roll-out-Attributes}
use Rattle.smt_values.specs.declared.attributes.AttributeType.{AttributeType}
use Rattle.smt_values.specs.declared.cedar_type.BoolType.{BoolType}
use Rattle.smt_values.specs.declared.cedar_type.BoolType.TheVariants.{AnyBool, True, False}
use Rattle.smt_values.specs.declared.cedar_type.EntityKind.{EntityKind}
use Rattle.smt_values.specs.declared.cedar_type.EntityKind.TheVariants.{AnyEntity, Entity as EntityAmong}
use Rattle.smt_values.specs.declared.cedar_type.OpenTag.{OpenTag}
use Rattle.smt_values.specs.declared.cedar_type.OpenTag.TheVariants.{OpenAttributes, ClosedAttributes}
use Rattle.smt_values.specs.declared.cedar_type.CedarType.{CedarType, Never, Bool as BoolOf, Long, String, Set as SetOf, Set'}
use Rattle.smt_values.specs.declared.cedar_type.CedarType.{Record as RecordOf, Entity, ExtensionType, Held-CedarType-Set-0, None', Some'}
use Rattle.smt_values.specs.declared.cedar_type.CedarType.TheBlock.{hidden-the_row-AttributeType-0, shape-the_row-AttributeType-0}
use Rattle.smt_values.specs.Cedar.{PlainCedar, NeverType, AnyBoolType, OneBoolType, LongType, TextType, SetType, EmptySetType}
use Rattle.smt_values.specs.Cedar.{ClosedRecordType, OpenRecordType, AnyEntityType, EntityOfType, ExtensionNamed, CedarAttributes}
use Rattle.smt_values.specs.Cedar.{no_attributes, attribute, PlainAttributeType, cedar_attributes}

-- the attributes of a record type with their types, in order
abbrev pub pairs_held : Attributes → List (RcStr Global × AttributeType)
pairs_held held = pairs_of (out-Attributes held).pairs

-- the plain form of a type of truth values: of both, or of one alone
abbrev pub plain_bool : BoolType → PlainCedar
plain_bool AnyBool = AnyBoolType
plain_bool True = OneBoolType true
plain_bool False = OneBoolType false

-- the plain form of a type of entities: of any type, or each of one of these types
abbrev pub plain_entity : EntityKind → PlainCedar
plain_entity AnyEntity = AnyEntityType
plain_entity (EntityAmong types) = EntityOfType (map bytes_of_type types.items.items)

-- the type of records that have these attributes: of those that may have others too, or have no others
abbrev pub record_with : OpenTag → CedarAttributes → PlainCedar
record_with OpenAttributes named = OpenRecordType named
record_with ClosedAttributes named = ClosedRecordType named

unfoldable mutual
  -- the plain form of a Cedar type
  pub plain_cedar : CedarType → PlainCedar
  plain_cedar Never = NeverType
  plain_cedar (BoolOf kind) = plain_bool kind
  plain_cedar Long = LongType
  plain_cedar String = TextType
  plain_cedar (Set' element) = plain_set element
  plain_cedar (RecordOf attrs tag) = record_with tag (plain_cedar_attributes attrs)
  plain_cedar (Entity kind) = plain_entity kind
  plain_cedar (ExtensionType name) = ExtensionNamed (rc_str_bytes name)

  -- the plain form of a set type: sets of the elements' type, or the empty set alone where no such type is held
  pub plain_set : Held-CedarType-Set-0 → PlainCedar
  plain_set None' = EmptySetType
  plain_set (Some' p t) = SetType (plain_cedar t)

  -- the plain form of the attributes of a record type
  pub plain_cedar_attributes : Attributes → CedarAttributes
  plain_cedar_attributes (Attributes' shape row) = plain_row (attributes_of shape) row

  -- the plain form of attributes by the list of their names and the row of their types, one with the other in order
  pub plain_row : {m : _} → List (List ℕ) → Row_of-AttributeType m → CedarAttributes
  plain_row [] row = no_attributes
  plain_row (name ∷ others) end_of-AttributeType = no_attributes
  plain_row (name ∷ others) (more_of-AttributeType t required rest) = attribute name (plain_cedar t) required (plain_row others rest)

-- the type of sets whose elements are of this type, or of the empty set alone where none is given
abbrev pub set_with : HeldOption (Rc CedarType Global) → PlainCedar
set_with (Some t) = SetType (plain_cedar t.value)
set_with None = EmptySetType

-- the plain form of an attribute's type, and whether every record has the attribute
abbrev pub plain_attribute_type : AttributeType → PlainAttributeType
plain_attribute_type a = record { type = plain_cedar a.attr_type; required = a.is_required }

-- an attribute as bytes, with the plain form of its type
abbrev pub named_attribute : RcStr Global × AttributeType → List ℕ × PlainAttributeType
named_attribute p = (rc_str_bytes p.0, plain_attribute_type p.1)

-- the attributes of a record type as bytes, each with the plain form of its type, in order
abbrev pub named_attributes : Attributes → List (List ℕ × PlainAttributeType)
named_attributes attrs = map named_attribute (pairs_held attrs)

-- attributes with their types as the attributes of a plain record type, in order
abbrev pub attributes_in_order : List (RcStr Global × AttributeType) → CedarAttributes
attributes_in_order ps = cedar_attributes (map named_attribute ps)

-- attributes with their types of terms as the attributes of a plain record type of terms, in order
abbrev pub types_in_order : List (RcStr Global × TermType) → AttributeTypes
types_in_order ps = attribute_types (map plain_attribute ps)

-- the attributes of a map, with their types of terms, as the attributes of a plain record type of terms
abbrev pub types_held : TypeMap → AttributeTypes
types_held types = attribute_types (plain_attributes types)

-- ---- the equations of the views, by which a proof reads them

-- the type `Never` is seen as the type of no values
pub plain_cedar-Never : plain_cedar Never ≡ NeverType
unfolding plain_cedar
plain_cedar-Never = refl

-- a type of truth values is seen as `plain_bool` sees its kind
pub plain_cedar-Bool : (kind : BoolType) → plain_cedar (BoolOf kind) ≡ plain_bool kind
unfolding plain_cedar
plain_cedar-Bool kind = refl

-- the type `Long` is seen as that of signed integers of 64 bits
pub plain_cedar-Long : plain_cedar Long ≡ LongType
unfolding plain_cedar
plain_cedar-Long = refl

-- the type `String` is seen as that of texts
pub plain_cedar-String : plain_cedar String ≡ TextType
unfolding plain_cedar
plain_cedar-String = refl

-- a set type is seen by the type of its elements, or as the empty set alone where it has none
pub plain_cedar-Set : (element : HeldOption (Rc CedarType Global)) → plain_cedar (SetOf element) ≡ set_with element
unfolding plain_cedar
plain_cedar-Set None = refl
plain_cedar-Set (Some t) = refl

-- a record type is seen by its attributes, and by whether it is open to others
pub plain_cedar-Record : (attrs : Attributes) (tag : OpenTag) →
    plain_cedar (RecordOf attrs tag) ≡ record_with tag (plain_cedar_attributes attrs)
unfolding plain_cedar
plain_cedar-Record attrs tag = refl

-- a type of entities is seen as `plain_entity` sees its kind
pub plain_cedar-Entity : (kind : EntityKind) → plain_cedar (Entity kind) ≡ plain_entity kind
unfolding plain_cedar
plain_cedar-Entity kind = refl

-- an extension type is seen by the bytes of its name
pub plain_cedar-ExtensionType : (name : RcStr Global) → plain_cedar (ExtensionType name) ≡ ExtensionNamed (rc_str_bytes name)
unfolding plain_cedar
plain_cedar-ExtensionType name = refl

rows_named : {m : _} (ns : List (List ℕ)) (row : Row_of-AttributeType m) →
    plain_row ns row ≡ cedar_attributes (zip ns (map plain_attribute_type (items-the_row-AttributeType m row)))
unfolding plain_row
rows_named [] row = refl
rows_named (n ∷ ns) end_of-AttributeType = refl
rows_named (n ∷ ns) (more_of-AttributeType t required rest) = ap (attribute n (plain_cedar t) required) (rows_named ns rest)

zipped : (ps : List (RcStr Global × AttributeType)) →
    zip (attributes_in ps) (map plain_attribute_type (map (λ p. p.1) ps)) ≡ map named_attribute ps
zipped [] = refl
zipped (p ∷ ps) = ap (λ l. named_attribute p ∷ l) (zipped ps)

pairs_named : (held : AttributeMap AttributeType) →
    plain_row (attributes_of (shape-the_row-AttributeType-0 held)) (hidden-the_row-AttributeType-0 held)
    ≡ cedar_attributes (map named_attribute (pairs_of held))
unfolding shape-the_row-AttributeType-0
pairs_named held =
    rows_named (attributes_of (shape-the_row-AttributeType-0 held)) (hidden-the_row-AttributeType-0 held)
    ∙ ap (λ ts. cedar_attributes (zip (attributes_of (shape-the_row-AttributeType-0 held)) (map plain_attribute_type ts)))
    (items_hidden-the_row-AttributeType-0 held)
    ∙ ap (λ ns. cedar_attributes (zip ns (map plain_attribute_type (map (λ p. p.1) held.items.items))))
    (attributes-over (λ _. tt) held.items.items)
    ∙ ap cedar_attributes (zipped held.items.items)

-- the attributes of a record type are seen as the list of their names and types in order
pub plain_attributes-named : (attrs : Attributes) → plain_cedar_attributes attrs ≡ cedar_attributes (named_attributes attrs)
unfolding plain_cedar_attributes roll-Attributes shape-the_row-AttributeType-0 denote.Hole.Carrier.roll out-Attributes
plain_attributes-named attrs = ap plain_cedar_attributes (sym (roll-out-Attributes attrs)) ∙ pairs_named (out-Attributes attrs).pairs

-- the equations of the views of Cedar types together, as proofs use them
pub ruleset cedar_views = (
  plain_cedar-Never,
  plain_cedar-Bool,
  plain_cedar-Long,
  plain_cedar-String,
  plain_cedar-Set,
  plain_cedar-Record,
  plain_cedar-Entity,
  plain_cedar-ExtensionType,
)
