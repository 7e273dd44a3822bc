-- The program's Cedar types are in order.
use Rattle.std.proofs.Common.{ℕ, List, [], ◌∷◌, IsTrue, refl}
use Rattle.std.specs.Cmp.{first_so, second_so}
use Rattle.std.specs.Cmp.Derive.{both_true}
use Rattle.law_terms.specs.ValueOrder.{ascends, is_below, text_cmp}
use Rattle.smt_values.specs.Cedar.{CedarAttributes}
use Rattle.smt_values.specs.TypeView.{plain_bool, plain_cedar, plain_cedar_attributes, plain_entity, plain_row, plain_set, record_with}
use Rattle.smt_values.specs.AttributeMaps.{attributes_of}
use Rattle.smt_values.specs.declared.attributes.Attributes.{Attributes, Attributes', Row_of-AttributeType, end_of-AttributeType, more_of-AttributeType}
use Rattle.smt_values.specs.declared.cedar_type.BoolType.{BoolType}
use Rattle.smt_values.specs.declared.cedar_type.BoolType.TheVariants.{AnyBool, True, False}
use Rattle.smt_values.specs.declared.cedar_type.EntityKind.{EntityKind}
use Rattle.smt_values.specs.declared.cedar_type.EntityKind.TheVariants.{AnyEntity, Entity as EntityAmong}
use Rattle.smt_values.specs.declared.cedar_type.OpenTag.{OpenTag}
use Rattle.smt_values.specs.declared.cedar_type.OpenTag.TheVariants.{OpenAttributes, ClosedAttributes}
use Rattle.smt_values.specs.declared.cedar_type.CedarType.{CedarType, Never, Bool as BoolOf, Long, String, Set', Record as RecordOf, Entity, ExtensionType, Held-CedarType-Set-0, None', Some'}
use Rattle.law_cedar.specs.CedarTyping.{AreInOrder, IsInOrder, names_of_type}
use Rattle.law_cedar.specs.ValueLaws.{ProgramTypesAreInOrder}

-- where names ascend, those of the attributes beside them do
below_first : {m : _} (n : List ℕ) (ns : List (List ℕ)) (row : Row_of-AttributeType m) → IsTrue (is_below text_cmp n ns) → IsTrue (is_below text_cmp n (names_of_type (plain_row ns row)))
unfolding plain_row
below_first n [] row h = refl
below_first n (k ∷ ks) end_of-AttributeType h = refl
below_first n (k ∷ ks) (more_of-AttributeType t required rest) h = h

names_ascend : {m : _} (ns : List (List ℕ)) (row : Row_of-AttributeType m) → IsTrue (ascends text_cmp ns) → IsTrue (ascends text_cmp (names_of_type (plain_row ns row)))
unfolding plain_row
names_ascend [] row h = refl
names_ascend (n ∷ ns) end_of-AttributeType h = refl
names_ascend (n ∷ ns) (more_of-AttributeType t required rest) h =
    both_true (below_first n ns rest (first_so (is_below text_cmp n ns) (ascends text_cmp ns) h)) (names_ascend ns rest (second_so (is_below text_cmp n ns) (ascends text_cmp ns) h))

bool_in_order : (kind : BoolType) → IsInOrder (plain_bool kind)
bool_in_order AnyBool = tt
bool_in_order True = tt
bool_in_order False = tt

entity_in_order : (kind : EntityKind) → IsInOrder (plain_entity kind)
entity_in_order AnyEntity = tt
entity_in_order (EntityAmong types) = tt

record_in_order : (tag : OpenTag) (named : CedarAttributes) → IsTrue (ascends text_cmp (names_of_type named)) × AreInOrder named → IsInOrder (record_with tag named)
record_in_order OpenAttributes named h = h
record_in_order ClosedAttributes named h = h

mutual
  unfolding plain_cedar

  type_in_order : (type : CedarType) → IsInOrder (plain_cedar type)
  type_in_order Never = tt
  type_in_order (BoolOf kind) = bool_in_order kind
  type_in_order Long = tt
  type_in_order String = tt
  type_in_order (Set' element) = set_in_order element
  type_in_order (RecordOf attrs tag) = record_in_order tag (plain_cedar_attributes attrs) (attributes_in_order attrs)
  type_in_order (Entity kind) = entity_in_order kind
  type_in_order (ExtensionType name) = tt

  set_in_order : (element : Held-CedarType-Set-0) → IsInOrder (plain_set element)
  set_in_order None' = tt
  set_in_order (Some' p t) = type_in_order t

  attributes_in_order : (attrs : Attributes) → IsTrue (ascends text_cmp (names_of_type (plain_cedar_attributes attrs))) × AreInOrder (plain_cedar_attributes attrs)
  attributes_in_order (Attributes' shape row) = (names_ascend (attributes_of shape) row shape.ascending, row_in_order (attributes_of shape) row)

  row_in_order : {m : _} (ns : List (List ℕ)) (row : Row_of-AttributeType m) → AreInOrder (plain_row ns row)
  row_in_order [] row = tt
  row_in_order (n ∷ ns) end_of-AttributeType = tt
  row_in_order (n ∷ ns) (more_of-AttributeType t required rest) = (type_in_order t, row_in_order ns rest)

pub program_types_are_in_order : ProgramTypesAreInOrder
program_types_are_in_order = type_in_order
