-- A schema, a store and a request: what their symbolic environment says, and the first fault of others.
use Rattle.std.specs.Prelude.{◌≡◌, ℕ, true, false, bytes_eq, codes, pos, List, [], ◌∷◌, Option, Some, None, Ok, Err, option_map}
use Rattle.std.specs.Map.{lookup}
use Rattle.std.specs.Option.{option_and_then}
use Rattle.law_folding.specs.FoldFunctions.{folded_app}
use Rattle.law_folding.specs.FoldRecords.{tag_record}
use Rattle.law_terms.specs.Plain.{StringType, EntityType, BitVecLiteral, PlainTerm, LiteralTerm, NoneTerm, RecordTerm, SetTerm, BitVecType}
use Rattle.law_terms.specs.Plain.{one_field as term_field, no_fields as no_term_fields, no_terms, one_term}
use Rattle.smt_values.specs.Cedar.{PlainCedar, NeverType, LongType, TextType, no_attributes, attribute}
use Rattle.smt_values.specs.PlainValues.{LongOf, TextOf, PlainValue, LiteralValue, SetValue, no_values}
use Rattle.smt_values.specs.Plain.{PlainEntity, PlainEntry, StandardType, EnumType, PlainAction, PlainSchema, PlainRequestEnv, PlainRequest}
use Rattle.smt_values.specs.Plain.{PlainEnv}
use Rattle.smt_values.specs.Uids.{Uid}
use Rattle.smt_values.specs.Outcomes.{Outcome, ◌>>=◌, SymbolizeFault, NoTerm, Unsupported, IncompleteRequest, UnknownValue, ForeignRequest}
use Rattle.law_cedar.specs.Laws.{ancestors_at}
use Rattle.law_cedar.specs.Plain.{PlainData, PlainSymbolicEnvironment}
use Rattle.law_cedar.specs.Symbolized.{listed_types, symbolized}
use Rattle.law_cedar.specs.Tables.{entity_term, text_term}

-- ---- the schema

-- the entity type of users
abbrev pub user : List ℕ
user = codes "User"

-- the entity type of groups
abbrev pub group : List ℕ
group = codes "Group"

-- the entity type of colours
abbrev pub colour : List ℕ
colour = codes "Colour"

-- the entity type of actions
abbrev pub action_type : List ℕ
action_type = codes "Action"

-- users of an age, which are in groups and have texts for tags; and the colour red
abbrev pub user_types : (age tags : PlainCedar) → List (List ℕ × PlainEntry)
user_types age tags =
    (colour, EnumType (codes "red" ∷ [])) ∷ (user, StandardType (group ∷ []) (attribute (codes "age") age true no_attributes) (Some tags))
    ∷ []

-- the action of viewing
abbrev pub view : Uid
view = (action_type, codes "view")

-- the action of reading, of which viewing is a part
abbrev pub read : Uid
read = (action_type, codes "read")

-- viewing twice, the second time as a part of reading and with an hour in its context, and reading: the last entry of viewing counts
abbrev pub actions : List PlainAction
actions =
    record { uid = view; ancestors = []; principals = user ∷ []; resources = user ∷ []; context = no_attributes }
    ∷ record { uid = read; ancestors = []; principals = []; resources = []; context = no_attributes }
    ∷ record {
      uid = view;
      ancestors = read ∷ [];
      principals = user ∷ [];
      resources = user ∷ [];
      context = attribute (codes "hour") LongType false no_attributes;
    }
    ∷ []

-- the schema of these types and actions, by the types of a user's age and of tags
abbrev pub schema_with : (age tags : PlainCedar) → PlainSchema
schema_with age tags = record { entity_types = user_types age tags; actions = actions }

-- the schema in which an age is a number of 64 bits and a tag a text
abbrev pub schema : PlainSchema
schema = schema_with LongType TextType

-- ---- the store

-- the user a
abbrev pub a : Uid
a = (user, codes "a")

-- the group g
abbrev pub g : Uid
g = (group, codes "g")

-- a number as a value
abbrev pub long : ℕ → PlainValue
long n = LiteralValue (LongOf (pos n))

-- a text as a value
abbrev pub text : List ℕ → PlainValue
text s = LiteralValue (TextOf s)

-- the user a of this age, in the group g and in another user, with this value of the tag k
abbrev pub user_with : (age tag : Option PlainValue) → PlainEntity
user_with age tag =
    record { uid = a; fields = (codes "age", age) ∷ []; ancestors = g ∷ (user, codes "b") ∷ []; tags = (codes "k", tag) ∷ [] }

-- the user a views itself, with this context, which may not be known
abbrev pub request_with : Option (List (List ℕ × PlainValue)) → PlainRequest
request_with context = record { principal = Some a; action = Some view; resource = Some a; context = context }

-- the request of `request_with`, and the user a with this age and tag, either of which may not be known
abbrev pub env_with : Option (List (List ℕ × PlainValue)) → (age tag : Option PlainValue) → PlainEnv
env_with context age tag = record { request = request_with context; entities = user_with age tag ∷ [] }

-- the request with an empty context, and the user a of the age 3, whose tag has the text v
abbrev pub env : PlainEnv
env = env_with (Some []) (Some (long 3)) (Some (text (codes "v")))

-- the request environment of a user that views a user
abbrev pub asked : PlainRequestEnv
asked = record { principal = user; action = view; resource = user }

-- ---- what it says

-- a number as a literal of 64 bits
abbrev pub bits : ℕ → PlainTerm
bits n = LiteralTerm (BitVecLiteral 64 n)

-- the record of a user's attributes: its age
abbrev pub of_age : ℕ → PlainTerm
of_age n = RecordTerm (term_field (codes "age") (bits n) no_term_fields)

-- what f reads of what the example's symbolic environment says of an entity type, or the first fault
abbrev pub of_type : {A : Type 0} → (type : List ℕ) → (PlainData → Option A) → Outcome (Option A)
of_type type f = symbolized asked schema env >>= λ made. Ok (option_and_then f (lookup (bytes_eq type) made.entities))

-- what the tables of the example say, or a default where nothing is stored
pub record TableExamples : Type 0 where
  pub attributes : of_type user (λ said. Some (folded_app said.attributes (entity_term a))) ≡ Ok (Some (of_age 3))
  -- of an entity that is not stored: the defaults
  pub not_stored : of_type user (λ said. Some (folded_app said.attributes (entity_term (user, codes "z")))) ≡ Ok (Some (of_age 0))
  -- of the ancestors those of the type alone
  pub ancestors :
      of_type user (λ said. ancestors_at said group a) ≡ Ok (Some (SetTerm (EntityType group) (one_term (entity_term g) no_terms)))
  -- users have no table of the users that they are in
  pub no_table : of_type user (λ said. ancestors_at said user a) ≡ Ok None
  pub keys :
      of_type user (λ said. option_map (λ tags. folded_app tags.keys (entity_term a)) said.tags)
      ≡ Ok (Some (SetTerm StringType (one_term (text_term (codes "k")) no_terms)))
  pub tag_value :
      of_type user (λ said. option_map (λ tags. folded_app tags.tag_values (tag_record (entity_term a) (text_term (codes "k")))) said.tags)
      ≡ Ok (Some (text_term (codes "v")))
  pub no_tag :
      of_type user (λ said. option_map (λ tags. folded_app tags.tag_values (tag_record (entity_term a) (text_term (codes "l")))) said.tags)
      ≡ Ok (Some (text_term []))
  -- of an action's two entries the last counts
  pub last_entry :
      of_type action_type (λ said. ancestors_at said action_type view)
      ≡ Ok (Some (SetTerm (EntityType action_type) (one_term (entity_term read) no_terms)))
  pub members : of_type colour (λ said. said.members) ≡ Ok (Some (codes "red" ∷ []))
  -- the context is a record of the last entry's attributes
  pub context :
      (symbolized asked schema env >>= λ made. Ok made.request.context)
      ≡ Ok (RecordTerm (term_field (codes "hour") (NoneTerm (BitVecType 64)) no_term_fields))
  -- enum types, and the types of actions with the actions' ids
  pub listed : listed_types schema ≡ (colour, codes "red" ∷ []) ∷ (action_type, codes "read" ∷ codes "view" ∷ []) ∷ []

-- ---- first faults

-- the first fault of symbolizing, where there is one
abbrev pub fault_of : Outcome PlainSymbolicEnvironment → Option SymbolizeFault
fault_of (Ok made) = None
fault_of (Err fault) = Some fault

-- the refusal of a type that has no values
abbrev pub never : SymbolizeFault
never = Unsupported (codes "never type is not supported")

-- a context that has no term: its attribute is a set where the schema has a number
abbrev pub bad_context : Option (List (List ℕ × PlainValue))
bad_context = Some ((codes "hour", SetValue no_values) ∷ [])

-- which fault of several comes first
pub record FaultExamples : Type 0 where
  -- a request environment that is not the schema's comes first
  pub foreign :
      fault_of (symbolized (record { principal = group; action = view; resource = user }) schema (env_with None None None))
      ≡ Some ForeignRequest
  pub foreign_action : fault_of (symbolized (record { principal = user; action = read; resource = user }) schema env) ≡ Some ForeignRequest
  -- then a part of the request that is not known, then the context
  pub incomplete : fault_of (symbolized asked (schema_with NeverType TextType) (env_with None None None)) ≡ Some IncompleteRequest
  pub context :
      fault_of (symbolized asked (schema_with NeverType TextType) (env_with bad_context None None)) ≡ Some (NoTerm (SetValue no_values))
  -- of a type its attributes' types, then the stored attributes, then the type of tags, then the tags
  pub type : fault_of (symbolized asked (schema_with NeverType TextType) (env_with (Some []) None None)) ≡ Some never
  pub unknown : fault_of (symbolized asked (schema_with LongType NeverType) (env_with (Some []) None None)) ≡ Some UnknownValue
  pub attribute :
      fault_of (symbolized asked (schema_with LongType NeverType) (env_with (Some []) (Some (SetValue no_values)) None))
      ≡ Some (NoTerm (SetValue no_values))
  pub tag_type : fault_of (symbolized asked (schema_with LongType NeverType) (env_with (Some []) (Some (long 3)) None)) ≡ Some never
  pub unknown_tag : fault_of (symbolized asked schema (env_with (Some []) (Some (long 3)) None)) ≡ Some UnknownValue
  pub tag :
      fault_of (symbolized asked schema (env_with (Some []) (Some (long 3)) (Some (SetValue no_values))))
      ≡ Some (NoTerm (SetValue no_values))
