-- The symbolic environment of a schema, a request and a store, or its first fault.
use Rattle.std.specs.Prelude.{ℕ, Bool, bytes_eq, cond, not, List, [], ◌++◌, Option, Some, None, Ok, Err, map}
use Rattle.std.specs.List.{filter, filter_map, list_any}
use Rattle.smt_term.specs.SortedPairs.{sorted_pairs}
use Rattle.smt_term.specs.TextSets.{sorted_texts}
use Rattle.law_terms.specs.Functions.{PlainUnary}
use Rattle.law_terms.specs.Plain.{PlainType, EntityType, RecordType, SetType, no_attributes, PlainTerm}
use Rattle.law_terms.specs.TypeValues.{Enums}
use Rattle.law_terms.specs.ValueOrder.{text_cmp}
use Rattle.smt_values.specs.Cedar.{PlainCedar, ClosedRecordType, CedarAttributes}
use Rattle.smt_values.specs.PlainValues.{RecordValue, value_fields}
use Rattle.smt_values.specs.Plain.{PlainEntity, PlainEntry, StandardType, EnumType, PlainAction, PlainSchema, PlainRequestEnv, PlainRequest}
use Rattle.smt_values.specs.Plain.{PlainEnv}
use Rattle.smt_values.specs.Stores.{action_of, is_of_schema}
use Rattle.smt_values.specs.DefaultTerm.{default_term}
use Rattle.smt_values.specs.Outcomes.{Outcome, ◌>>=◌, each, ForeignRequest, IncompleteRequest}
use Rattle.smt_values.specs.TermOfValue.{term_of_value}
use Rattle.law_cedar.specs.Plain.{PlainTags, PlainData, PlainEntities, PlainSymbolicRequest, PlainSymbolicEnvironment}
use Rattle.law_cedar.specs.Tables.{entity_term, set_of_type, table_of, attributes_table, ancestors_tables, tags_tables}

-- ---- the types of a schema

-- whether an action is of a type
abbrev pub is_action_type : List PlainAction → List ℕ → Bool
is_action_type actions type = list_any (λ action. bytes_eq action.uid.0 type) actions

-- the types of actions, in the order of their bytes
abbrev pub action_types : List PlainAction → List (List ℕ)
action_types actions = sorted_texts (map (λ action. action.uid.0) actions)

-- the actions of a type, in the order of the schema
abbrev pub actions_of : List ℕ → List PlainAction → List PlainAction
actions_of type actions = filter (λ action. bytes_eq action.uid.0 type) actions

-- the ids of the actions of a type, in the order of their bytes
abbrev pub action_ids : List PlainAction → List ℕ → List (List ℕ)
action_ids actions type = sorted_texts (map (λ action. action.uid.1) (actions_of type actions))

-- The entity types of a schema that no action has. A type that an action has counts as a type of actions alone.
abbrev pub own_types : PlainSchema → List (List ℕ × PlainEntry)
own_types schema = filter (λ p. not (is_action_type schema.actions p.0)) schema.entity_types

-- the members of an entity type that lists them, and nothing of a standard type
abbrev pub enum_entry : List ℕ × PlainEntry → Option (List ℕ × List (List ℕ))
enum_entry (type, StandardType kinds named value) = None
enum_entry (type, EnumType ids) = Some (type, ids)

-- the types whose entities are listed, each with its members: enum types, and types of actions with the ids of the actions
abbrev pub listed_types : PlainSchema → Enums
listed_types schema =
    filter_map enum_entry (own_types schema) ++ map (λ type. (type, action_ids schema.actions type)) (action_types schema.actions)

-- an action with the set of its ancestors that are of one type
abbrev pub action_entry : (kind : List ℕ) → PlainAction → PlainTerm × PlainTerm
action_entry kind action = (entity_term action.uid, set_of_type kind action.ancestors)

-- ---- what is said of the entities of each type

module _ (default : PlainType → PlainTerm) where
  -- the table of attributes of a type whose entities have none: the record of no attributes everywhere
  abbrev pub no_attributes_table : (type : List ℕ) → PlainUnary
  no_attributes_table type = table_of default (EntityType type) (RecordType no_attributes) []

  -- what is said of an enum type: no attributes, ancestors and tags, and its members
  abbrev pub enum_data : (type : List ℕ) → (ids : List (List ℕ)) → PlainData
  enum_data type ids = record { attributes = no_attributes_table type; ancestors = []; members = Some ids; tags = None }

  -- the tables of a type's tags, where the schema gives it tags
  abbrev pub tags_held : (type : List ℕ) → Option PlainCedar → List PlainEntity → Outcome (Option PlainTags)
  tags_held type None entities = Ok None
  tags_held type (Some value) entities = tags_tables default type value entities >>= λ tags. Ok (Some tags)

  -- What is said of a standard type: its stored attributes, its ancestors by each type that the schema lists, and its tags. Its
  -- entities are not listed.
  abbrev pub standard_data : (type : List ℕ) → (kinds : List (List ℕ)) → CedarAttributes → Option PlainCedar → List PlainEntity →
      Outcome PlainData
  standard_data type kinds attributes value entities =
      attributes_table default type attributes entities >>= λ own. tags_held type value entities >>= λ tags. Ok (record {
        attributes = own;
        ancestors = ancestors_tables default type kinds entities;
        members = None;
        tags = tags;
      })

  -- what is said of the entities of a type, by what the schema says of the type: as a standard type or as an enum type
  abbrev pub type_data : List PlainEntity → (type : List ℕ) → PlainEntry → Outcome PlainData
  type_data entities type (StandardType kinds named value) = standard_data type kinds named value entities
  type_data entities type (EnumType ids) = Ok (enum_data type ids)

  -- the name of an entity type, with what is said of its entities
  abbrev pub typed_data : List PlainEntity → List ℕ × PlainEntry → Outcome (List ℕ × PlainData)
  typed_data entities p = type_data entities p.0 p.1 >>= λ said. Ok (p.0, said)

  -- the table of ancestors of a type of actions: for an action the set of its ancestors of the type `kind`; of two entries with
  -- one uid the last counts
  abbrev pub action_table : List PlainAction → (type kind : List ℕ) → PlainUnary
  action_table actions type kind =
      table_of default (EntityType type) (SetType (EntityType kind)) (map (action_entry kind) (actions_of type actions))

  -- what is said of a type of actions: no attributes and tags, the ancestors of each type of actions, and the ids of its actions
  abbrev pub action_data : List PlainAction → (type : List ℕ) → PlainData
  action_data actions type = record {
    attributes = no_attributes_table type;
    ancestors = map (λ kind. (kind, action_table actions type kind)) (action_types actions);
    members = Some (action_ids actions type);
    tags = None;
  }

  -- what is said of all types, in the order of their bytes: entity types as the schema has them, and types of actions
  abbrev pub entities_of : PlainSchema → List PlainEntity → Outcome PlainEntities
  entities_of schema entities =
      each (typed_data entities) (own_types schema) >>=
      λ held. Ok (sorted_pairs text_cmp (held ++ map (λ type. (type, action_data schema.actions type)) (action_types schema.actions)))

-- ---- requests

-- the entry of the action that was asked for, or else the fault that the request environment is not the schema's
abbrev pub action_found : Option PlainAction → Outcome PlainAction
action_found (Some action) = Ok action
action_found None = Err ForeignRequest

-- the last entry of the action that was asked for, where the schema lists the types of principal and resource for it
abbrev pub action_asked : PlainSchema → PlainRequestEnv → Outcome PlainAction
action_asked schema request =
    cond (is_of_schema schema request) (action_found (action_of schema.actions request.action)) (Err ForeignRequest)

-- a part of a request that is known, or else the fault that the request is not whole
abbrev pub known_part : {A : Type 0} → Option A → Outcome A
known_part (Some a) = Ok a
known_part None = Err IncompleteRequest

-- the terms of a request whose context has these attributes
abbrev pub request_of : CedarAttributes → PlainRequest → Outcome PlainSymbolicRequest
request_of attributes request =
    known_part request.principal >>=
    λ principal.
    known_part request.action >>= λ action. known_part request.resource >>= λ resource. known_part request.context >>= λ fields.
    term_of_value (ClosedRecordType attributes) (RecordValue (value_fields fields)) >>= λ context. Ok (record {
      principal = entity_term principal;
      action = entity_term action;
      resource = entity_term resource;
      context = context;
    })

-- ---- the whole

-- the symbolic environment of a request environment, a schema, and a request with a store, or its first fault, where tables
-- give these defaults of types
abbrev pub environment_with : (PlainType → PlainTerm) → PlainRequestEnv → PlainSchema → PlainEnv → Outcome PlainSymbolicEnvironment
environment_with default asked schema env =
    action_asked schema asked >>=
    λ action.
    request_of action.context env.request >>=
    λ request. entities_of default schema env.entities >>= λ entities. Ok (record { request = request; entities = entities })

-- The symbolic environment of a schema, a request environment and a store with a request, or their first fault. The request
-- environment has to be the schema's, and the request whole; then come the context, and the entity types in the order of their
-- bytes. The default of a type whose entities are listed is its first member.
abbrev pub symbolized : PlainRequestEnv → PlainSchema → PlainEnv → Outcome PlainSymbolicEnvironment
symbolized asked schema env = environment_with (default_term (listed_types schema)) asked schema env
