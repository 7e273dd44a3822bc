-- Worked examples: entities that are put into a store, and request environments that are a schema's or are not.
use Rattle.std.specs.Prelude.{◌≡◌, ℕ, true, false, List, [], ◌∷◌, codes}
use Rattle.smt_values.specs.Cedar.{no_attributes}
use Rattle.smt_values.specs.Plain.{PlainEntity, PlainAction, PlainSchema, PlainRequestEnv}
use Rattle.smt_values.specs.Stores.{is_of_schema, put_entity}
use Rattle.smt_values.specs.Uids.{Uid}

-- the user ann
abbrev pub ann : Uid
ann = (codes "User", codes "ann")

-- the user bob
abbrev pub bob : Uid
bob = (codes "User", codes "bob")

-- the entity of this uid, with these ancestors and nothing else
abbrev pub stored : Uid → List Uid → PlainEntity
stored uid ancestors = record { uid = uid; fields = []; ancestors = ancestors; tags = [] }

-- what a store is after an entity was put into it: it replaces the one of its uid, or else comes behind the others
pub record StoreExamples : Type 0 where
  pub first : put_entity (stored ann []) [] ≡ stored ann [] ∷ []
  pub behind : put_entity (stored bob []) (stored ann [] ∷ []) ≡ stored ann [] ∷ stored bob [] ∷ []
  -- another entity of a uid that is there
  pub in_place : put_entity (stored ann (bob ∷ [])) (stored ann [] ∷ stored bob [] ∷ []) ≡ stored ann (bob ∷ []) ∷ stored bob [] ∷ []
  -- the same id at another type, and an id that goes on
  pub other_type :
      put_entity (stored (codes "Group", codes "ann") []) (stored ann [] ∷ []) ≡ stored ann [] ∷ stored (codes "Group", codes "ann") [] ∷ []
  pub longer :
      put_entity (stored (codes "User", codes "anna") []) (stored ann [] ∷ []) ≡ stored ann [] ∷ stored (codes "User", codes "anna") [] ∷ []

-- the action of viewing
abbrev pub view : Uid
view = (codes "Action", codes "view")

-- the action of viewing, where it applies to principals and resources of these types
abbrev pub applies : List (List ℕ) → List (List ℕ) → PlainAction
applies principals resources =
    record { uid = view; ancestors = []; principals = principals; resources = resources; context = no_attributes }

-- the schema that has these actions and no entity types
abbrev pub with_actions : List PlainAction → PlainSchema
with_actions actions = record { entity_types = []; actions = actions }

-- the request environment of a user who views a photo
abbrev pub user_views_photo : PlainRequestEnv
user_views_photo = record { principal = codes "User"; action = view; resource = codes "Photo" }

-- whether a user who views a photo is a request environment of a schema
pub record SchemaExamples : Type 0 where
  pub both : is_of_schema (with_actions (applies (codes "Group" ∷ codes "User" ∷ []) (codes "Photo" ∷ []) ∷ [])) user_views_photo ≡ true
  pub principal_alone : is_of_schema (with_actions (applies (codes "User" ∷ []) (codes "Album" ∷ []) ∷ [])) user_views_photo ≡ false
  pub resource_alone : is_of_schema (with_actions (applies (codes "Group" ∷ []) (codes "Photo" ∷ []) ∷ [])) user_views_photo ≡ false
  pub no_action : is_of_schema (with_actions []) user_views_photo ≡ false
  -- of two entries of one action the last counts, and what the first lists does not
  pub last_lists :
      is_of_schema (with_actions (applies [] [] ∷ applies (codes "User" ∷ []) (codes "Photo" ∷ []) ∷ [])) user_views_photo ≡ true
  pub first_lists :
      is_of_schema (with_actions (applies (codes "User" ∷ []) (codes "Photo" ∷ []) ∷ applies [] [] ∷ [])) user_views_photo ≡ false
  pub one_each :
      is_of_schema (with_actions (applies (codes "User" ∷ []) [] ∷ applies [] (codes "Photo" ∷ []) ∷ [])) user_views_photo ≡ false
