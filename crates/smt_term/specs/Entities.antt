-- What entities say: the texts of their types and ids.
use Rattle.std.specs.Prelude.{◌≡◌, ℕ, List}
use Rattle.std.specs.Ordering.{ordering_then}
use Rattle.std.specs.Rc.{rc_str_bytes}
use Rattle.law_terms.specs.ValueOrder.{text_cmp}
use Rattle.smt_term.specs.Ordered.{AreOrdered, pair_cmp}
use Rattle.smt_term.specs.contracts.entity.EntityIDOrd.TheImpl as id_order
use Rattle.smt_term.specs.contracts.entity.EntityIDPartialEq.TheImpl as id_equality
use Rattle.smt_term.specs.contracts.entity.EntityTypePartialEq.TheImpl as type_equality
use Rattle.smt_term.specs.contracts.entity.EntityUIDPartialEq.TheImpl as entity_equality
use Rattle.smt_term.specs.contracts.entity.EntityTypeOrd.TheImpl as type_order
use Rattle.smt_term.specs.contracts.entity.EntityUIDOrd.TheImpl as entity_order
use Rattle.smt_term.specs.declared.entity.EntityID.{EntityID}
use Rattle.smt_term.specs.declared.entity.EntityType.{EntityType}
use Rattle.smt_term.specs.declared.entity.EntityUID.{EntityUID}

-- the name of a type
abbrev pub bytes_of_type : EntityType → List ℕ
bytes_of_type ety = rc_str_bytes ety.0

-- the text of an id
abbrev pub bytes_of_id : EntityID → List ℕ
bytes_of_id id = rc_str_bytes id.0

-- the name of the type, and the id
abbrev pub texts_of_entity : EntityUID → List ℕ × List ℕ
texts_of_entity e = (bytes_of_type e.ety, bytes_of_id e.id)

-- types of entities compare as the bytes of their names
abbrev pub EntityTypesCompareAsTexts : Type 0
EntityTypesCompareAsTexts = (a b : EntityType) → type_order.ghosts.cmp a b ≡ text_cmp (bytes_of_type a) (bytes_of_type b)

-- ids of entities compare as the bytes of their texts
abbrev pub EntityIdsCompareAsTexts : Type 0
EntityIdsCompareAsTexts = (a b : EntityID) → id_order.ghosts.cmp a b ≡ text_cmp (bytes_of_id a) (bytes_of_id b)

-- entities compare by their types, and those of one type by their ids
abbrev pub EntitiesCompareAsTexts : Type 0
EntitiesCompareAsTexts =
    (a b : EntityUID) →
    entity_order.ghosts.cmp a b
    ≡ ordering_then (text_cmp (bytes_of_type a.ety) (bytes_of_type b.ety)) (text_cmp (bytes_of_id a.id) (bytes_of_id b.id))

-- types of entities are ordered by their names, and are equal where they have the same name
abbrev pub EntityTypesAreOrdered : Type 0
EntityTypesAreOrdered = AreOrdered type_order.ghosts.cmp type_equality.ghosts.eq bytes_of_type text_cmp

-- ids of entities are ordered by their texts, and are equal where they have the same text
abbrev pub EntityIdsAreOrdered : Type 0
EntityIdsAreOrdered = AreOrdered id_order.ghosts.cmp id_equality.ghosts.eq bytes_of_id text_cmp

-- entities are ordered by the names of their types and then by their ids, and are equal where they have the same
abbrev pub EntitiesAreOrdered : Type 0
EntitiesAreOrdered = AreOrdered entity_order.ghosts.cmp entity_equality.ghosts.eq texts_of_entity (pair_cmp text_cmp text_cmp)
