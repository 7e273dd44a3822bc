-- The plain form of the program's schemas, requests and stores: what they say, without where they lie in memory.
use Rattle.std.specs.Prelude.{ℕ, List, map, option_map}
use Rattle.smt_term.specs.Entities.{bytes_of_type, texts_of_entity}
use Rattle.smt_term.specs.TextSets.{texts_of}
use Rattle.smt_term.specs.declared.entity.EntityType.{EntityType}
use Rattle.smt_term.specs.declared.entity.EntityUID.{EntityUID}
use Rattle.smt_values.specs.EntityTypes.{names_held}
use Rattle.smt_values.specs.TypeView.{plain_cedar, plain_cedar_attributes}
use Rattle.smt_values.specs.declared.entity_types.EntityTypeList.{EntityTypeList}
use Rattle.smt_values.specs.ValueView.{known_fields, named_fields}
use Rattle.smt_values.specs.declared.actions.ActionEntry.{ActionEntry}
use Rattle.smt_values.specs.declared.actions.ActionList.{ActionList}
use Rattle.smt_values.specs.declared.entity.Entity.{Entity}
use Rattle.smt_values.specs.declared.entries.EntityEntry.{EntityEntry}
use Rattle.smt_values.specs.declared.entries.EntityEntry.TheVariants.{Standard, Enum}
use Rattle.smt_values.specs.declared.entry_map.EntryMap.{EntryMap}
use Rattle.smt_values.specs.declared.request.Env.{Env}
use Rattle.smt_values.specs.declared.request.Request.{Request}
use Rattle.smt_values.specs.declared.request.RequestEnv.{RequestEnv}
use Rattle.smt_values.specs.declared.schema.Schema.{Schema}
use Rattle.smt_values.specs.declared.store.Entities.{Entities}
use Rattle.smt_values.specs.declared.uids.UidList.{UidList}
use Rattle.smt_values.specs.Plain.{PlainEntity, PlainEntry, StandardType, EnumType, PlainAction, PlainSchema, PlainRequestEnv, PlainRequest}
use Rattle.smt_values.specs.Plain.{PlainEnv}
use Rattle.smt_values.specs.Uids.{Uid}

-- the uids of a list, in order
abbrev pub uids_held : UidList → List EntityUID
uids_held list = list.items.items

-- the uids of a list, each as the bytes of its type and its id, in order
abbrev pub plain_uids : UidList → List Uid
plain_uids list = map texts_of_entity (uids_held list)

-- the names of the entity types of a list as bytes, in order
abbrev pub plain_types : EntityTypeList → List (List ℕ)
plain_types list = names_held list

-- ---- schemas

-- the plain form of what a schema says of an entity type
abbrev pub plain_entry : EntityEntry → PlainEntry
plain_entry (Standard ancestors attrs tags) =
    StandardType (plain_types ancestors) (plain_cedar_attributes attrs) (option_map plain_cedar tags)
plain_entry (Enum members) = EnumType (texts_of members)

-- the name of an entity type as bytes, with the plain form of what a schema says of it
abbrev pub entry_named : EntityType × EntityEntry → List ℕ × PlainEntry
entry_named p = (bytes_of_type p.0, plain_entry p.1)

-- the entity types of a map with their entries, in the order of the map
abbrev pub entries_held : EntryMap → List (EntityType × EntityEntry)
entries_held entries = entries.items.items

-- the names of the entity types of a map, each with the plain form of its entry, in the order of the map
abbrev pub plain_entries : EntryMap → List (List ℕ × PlainEntry)
plain_entries entries = map entry_named (entries_held entries)

-- the plain form of what a schema says of an action
abbrev pub plain_action : ActionEntry → PlainAction
plain_action action = record {
  uid = texts_of_entity action.uid;
  ancestors = plain_uids action.ancestors;
  principals = plain_types action.principals;
  resources = plain_types action.resources;
  context = plain_cedar_attributes action.context;
}

-- the actions of a list, in order
abbrev pub actions_held : ActionList → List ActionEntry
actions_held actions = actions.items.items

-- the plain forms of the actions of a list, in order
abbrev pub plain_actions : ActionList → List PlainAction
plain_actions actions = map plain_action (actions_held actions)

-- the plain form of a schema
abbrev pub plain_schema : Schema → PlainSchema
plain_schema schema = record { entity_types = plain_entries schema.entity_types; actions = plain_actions schema.actions }

-- ---- stores

-- the plain form of an entity of a store
abbrev pub plain_stored : Entity → PlainEntity
plain_stored entity = record {
  uid = texts_of_entity entity.uid;
  fields = known_fields entity.attrs;
  ancestors = plain_uids entity.ancestors;
  tags = known_fields entity.tags;
}

-- the entities of a store, in the order of the store
abbrev pub entities_held : Entities → List Entity
entities_held entities = entities.items.items

-- the plain forms of the entities of a store, in the order of the store
abbrev pub plain_entities : Entities → List PlainEntity
plain_entities entities = map plain_stored (entities_held entities)

-- ---- requests

-- the plain form of a request environment
abbrev pub plain_request_env : RequestEnv → PlainRequestEnv
plain_request_env env =
    record { principal = bytes_of_type env.principal; action = texts_of_entity env.action; resource = bytes_of_type env.resource }

-- the plain form of a request
abbrev pub plain_request : Request → PlainRequest
plain_request request = record {
  principal = option_map texts_of_entity request.principal;
  action = option_map texts_of_entity request.action;
  resource = option_map texts_of_entity request.resource;
  context = option_map named_fields request.context;
}

-- the plain form of a request and the store that it is asked over
abbrev pub plain_env : Env → PlainEnv
plain_env env = record { request = plain_request env.request; entities = plain_entities env.entities }
