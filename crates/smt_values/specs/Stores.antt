-- What a store is after an entity was put into it, which entity and which action a uid names, and which request
-- environments are a schema's.
use Rattle.std.specs.Prelude.{ℕ, Bool, false, ◌&&◌, List, [], ◌∷◌, Option, Some, None, bytes_eq, cond, reverse}
use Rattle.std.specs.List.{find, list_any}
use Rattle.smt_values.specs.Plain.{PlainEntity, PlainAction, PlainSchema, PlainRequestEnv}
use Rattle.smt_values.specs.Uids.{Uid, same_uid}

-- whether an entity has this uid
abbrev pub is_named : Uid → PlainEntity → Bool
is_named uid entity = same_uid entity.uid uid

-- the store after an entity was put into it: in the place of the first one of its uid, or else behind the others
abbrev pub put_entity : PlainEntity → List PlainEntity → List PlainEntity
put_entity entity [] = entity ∷ []
put_entity entity (other ∷ others) = cond (is_named entity.uid other) (entity ∷ others) (other ∷ put_entity entity others)

-- the entity of this uid in a store, where it has one
abbrev pub entity_of : List PlainEntity → Uid → Option PlainEntity
entity_of entities uid = find (is_named uid) entities

-- the last entry of the action of this uid among those of a schema, where it has one
abbrev pub action_of : List PlainAction → Uid → Option PlainAction
action_of actions uid = find (λ action. same_uid action.uid uid) (reverse actions)

-- whether a type is among these
abbrev pub has_type : List ℕ → List (List ℕ) → Bool
has_type type types = list_any (bytes_eq type) types

-- whether an action that was found lists the types of the request environment's principal and resource
abbrev pub lists_both : PlainRequestEnv → Option PlainAction → Bool
lists_both request None = false
lists_both request (Some action) = has_type request.principal action.principals && has_type request.resource action.resources

-- whether a request environment is a schema's: the last entry of its action lists the types of principal and resource
abbrev pub is_of_schema : PlainSchema → PlainRequestEnv → Bool
is_of_schema schema request = lists_both request (action_of schema.actions request.action)
