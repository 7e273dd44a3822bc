-- Stores, schemas and requests without where they lie in memory. A text is the list of its UTF-8 bytes.
use Rattle.std.specs.Prelude.{ℕ, List, Option}
use Rattle.smt_values.specs.Cedar.{PlainCedar, CedarAttributes}
use Rattle.smt_values.specs.PlainValues.{PlainValue}
use Rattle.smt_values.specs.Uids.{Uid}

-- attributes, or tags, in the order of their bytes, each with its value where that is known
abbrev pub KnownFields : Type 0
KnownFields = List (List ℕ × Option PlainValue)

-- an entity of a store: its uid, attributes, ancestors and tags
pub record PlainEntity : Type 0 where
  pub uid : Uid
  pub fields : KnownFields
  pub ancestors : List Uid
  pub tags : KnownFields

-- what a schema of Cedar says of an entity type
pub data PlainEntry : Type 0 where
  -- its entities may have ancestors of these types, have these attributes, and have tags of this type, if of any
  StandardType : (ancestors : List (List ℕ)) → (fields : CedarAttributes) → (tags : Option PlainCedar) → PlainEntry
  -- its entities are those of these ids, which ascend by their bytes
  EnumType : (ids : List (List ℕ)) → PlainEntry

-- what a schema of Cedar says of an action: its ancestors, the types of principals and resources that it applies to, and the
-- attributes of the context
pub record PlainAction : Type 0 where
  pub uid : Uid
  pub ancestors : List Uid
  pub principals : List (List ℕ)
  pub resources : List (List ℕ)
  pub context : CedarAttributes

-- a schema of Cedar: its entity types in the order of their bytes, and its actions in the order in which they were given
pub record PlainSchema : Type 0 where
  pub entity_types : List (List ℕ × PlainEntry)
  pub actions : List PlainAction

-- a request environment of Cedar: the type of a principal, an action, and the type of a resource
pub record PlainRequestEnv : Type 0 where
  pub principal : List ℕ
  pub action : Uid
  pub resource : List ℕ

-- a request of Cedar, of which any part may not be known
pub record PlainRequest : Type 0 where
  pub principal : Option Uid
  pub action : Option Uid
  pub resource : Option Uid
  pub context : Option (List (List ℕ × PlainValue))

-- a request, and the store of entities that it is asked over
pub record PlainEnv : Type 0 where
  pub request : PlainRequest
  pub entities : List PlainEntity
