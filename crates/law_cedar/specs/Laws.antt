-- What the tables of a symbolic environment give at the entities that are stored, and at actions.
use Rattle.std.specs.Prelude.{◌≡◌, ⊤, ℕ, bytes_eq, Contains, IsTrue, List, Option, Some, None, Ok, map, option_map}
use Rattle.std.specs.List.{AllByRecursion, IsDistinct}
use Rattle.std.specs.Map.{keys_of, lookup}
use Rattle.law_folding.specs.FoldFunctions.{folded_app}
use Rattle.law_folding.specs.FoldRecords.{tag_record}
use Rattle.law_terms.specs.Plain.{StringType, PlainTerm}
use Rattle.law_terms.specs.TermSets.{set_term}
use Rattle.law_terms.specs.ValueOrder.{ascends, text_cmp}
use Rattle.smt_values.specs.Cedar.{PlainCedar, ClosedRecordType, CedarAttributes}
use Rattle.smt_values.specs.PlainValues.{PlainValue, RecordValue, value_fields}
use Rattle.smt_values.specs.Plain.{PlainEntity, StandardType, PlainAction, PlainSchema, PlainRequestEnv, PlainRequest, PlainEnv}
use Rattle.smt_values.specs.Stores.{action_of}
use Rattle.smt_values.specs.Uids.{Uid, same_uid}
use Rattle.smt_values.specs.View.{plain_entities, plain_schema}
use Rattle.smt_values.specs.declared.schema.Schema.{Schema}
use Rattle.smt_values.specs.declared.store.Entities.{Entities}
use Rattle.smt_values.specs.Outcomes.{◌>>=◌}
use Rattle.smt_values.specs.TermOfValue.{term_of_value}
use Rattle.law_cedar.specs.Plain.{PlainTags, PlainData, PlainSymbolicRequest, PlainSymbolicEnvironment}
use Rattle.law_cedar.specs.Symbolized.{action_types, own_types, symbolized}
use Rattle.law_cedar.specs.Tables.{entity_term, fields_term, known_value, set_of_type, text_term}

-- ---- stores and schemas

-- in a store no uid stands twice, and the keys of each entity's tags ascend
pub record IsStore (entities : List PlainEntity) : Type 0 where
  pub distinct : IsDistinct same_uid (map (λ entity. entity.uid) entities)
  pub tags : AllByRecursion (λ entity. IsTrue (ascends text_cmp (keys_of entity.tags))) entities

-- the names of a schema's entity types ascend by their bytes, so each stands once
abbrev pub IsSchema : PlainSchema → Type 0
IsSchema schema = IsTrue (ascends text_cmp (keys_of schema.entity_types))

-- no store of the program has a uid twice or tags out of order
abbrev pub ProgramStoresAreStores : Type 0
ProgramStoresAreStores = (entities : Entities) → IsStore (plain_entities entities)

-- every schema of the program has its entity types in order
abbrev pub ProgramSchemasAreInOrder : Type 0
ProgramSchemasAreInOrder = (schema : Schema) → IsSchema (plain_schema schema)

-- ---- a stored entity of a type with these ancestors' types, these attributes and tags of this type

-- what a table of ancestors of a type gives at an entity
abbrev pub ancestors_at : PlainData → (kind : List ℕ) → Uid → Option PlainTerm
ancestors_at said kind uid = option_map (λ f. folded_app f (entity_term uid)) (lookup (bytes_eq kind) said.ancestors)

-- the tables of tags give at an entity the set of its tags' keys, and at an entity and a key the term of that tag's value
pub record HasTagsOf (value : PlainCedar) (entity : PlainEntity) (tags : PlainTags) : Type 0 where
  pub keys : folded_app tags.keys (entity_term entity.uid) ≡ set_term StringType (map text_term (keys_of entity.tags))
  pub tag_values : (p : List ℕ × Option PlainValue) → Contains entity.tags p →
      (known_value p.1 >>= λ v. term_of_value value v)
      ≡ Ok (folded_app tags.tag_values (tag_record (entity_term entity.uid) (text_term p.0)))

-- where the type has tags there are tables that give those of an entity, and where it has none there are none
abbrev pub HasTags : Option PlainCedar → PlainEntity → Option PlainTags → Type 0
HasTags (Some value) entity (Some tags) = HasTagsOf value entity tags
HasTags None entity None = ⊤
HasTags value entity tags = ⊥

-- The tables give the record of an entity's attributes, for each of the ancestors' types the set of its ancestors of that type,
-- and its tags.
pub record HasStored (kinds : List (List ℕ)) (named : CedarAttributes) (value : Option PlainCedar) (entity : PlainEntity) (said : PlainData)
    : Type 0 where
  pub attributes : fields_term named entity.fields ≡ Ok (folded_app said.attributes (entity_term entity.uid))
  pub ancestors : (kind : List ℕ) → Contains kinds kind → ancestors_at said kind entity.uid ≡ Some (set_of_type kind entity.ancestors)
  pub tags : HasTags value entity said.tags

-- ---- the whole

-- principal, action, resource and context are those of the request, whose context is at the record type of these attributes
pub record IsRequestOf (named : CedarAttributes) (request : PlainRequest) (made : PlainSymbolicRequest) : Type 0 where
  pub principal : option_map entity_term request.principal ≡ Some made.principal
  pub action : option_map entity_term request.action ≡ Some made.action
  pub resource : option_map entity_term request.resource ≡ Some made.resource
  pub context :
      option_map (λ fields. term_of_value (ClosedRecordType named) (RecordValue (value_fields fields))) request.context
      ≡ Some (Ok made.context)

-- what a symbolic environment says of a schema, of a request in its environment, and of stored entities
pub record IsSymbolicOf (asked : PlainRequestEnv) (schema : PlainSchema) (env : PlainEnv) (made : PlainSymbolicEnvironment) : Type 0 where
  -- the request is at the context of the last entry of the action that was asked for
  pub request : (action : PlainAction) × (action_of schema.actions asked.action ≡ Some action)
      × IsRequestOf action.context env.request made.request
  -- each stored entity of a standard type that no action has
  pub stored : (type : List ℕ) (kinds : List (List ℕ)) (named : CedarAttributes) (value : Option PlainCedar) (entity : PlainEntity)
      → Contains (own_types schema) (type, StandardType kinds named value) → Contains env.entities entity → entity.uid.0 ≡ type
      → (said : PlainData) × (lookup (bytes_eq type) made.entities ≡ Some said) × HasStored kinds named value entity said
  -- each action of the schema, by its last entry, at each type that an action has
  pub actions : (uid : Uid) (action : PlainAction) (kind : List ℕ) → action_of schema.actions uid ≡ Some action →
      Contains (action_types schema.actions) kind
      → (said : PlainData) × (lookup (bytes_eq uid.0) made.entities ≡ Some said)
      × (ancestors_at said kind uid ≡ Some (set_of_type kind action.ancestors))

-- What is symbolized says at stored entities and at actions what is stored of them.
abbrev pub TablesSayWhatIsStored : Type 0
TablesSayWhatIsStored = (asked : PlainRequestEnv) (schema : PlainSchema) (env : PlainEnv) (made : PlainSymbolicEnvironment)
    → IsSchema schema → IsStore env.entities → symbolized asked schema env ≡ Ok made → IsSymbolicOf asked schema env made
