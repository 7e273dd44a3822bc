-- The tables of the entities of a type, by the list of the type's stored entities or of its actions. What a table gives
-- elsewhere is the default of its results' type.
use Rattle.std.specs.Prelude.{ℕ, List, [], Option, Some, None, Ok, map}
use Rattle.std.specs.List.{flat_map}
use Rattle.smt_term.specs.SortedPairs.{sorted_pairs}
use Rattle.smt_term.specs.TextSets.{sorted_texts}
use Rattle.law_terms.specs.Functions.{PlainUnary}
use Rattle.law_terms.specs.Plain.{PlainType, EntityType, RecordType, SetType, StringType, no_attributes, PlainTerm}
use Rattle.law_terms.specs.ValueOrder.{text_cmp}
use Rattle.smt_term.specs.TypeKinds.{tag_type}
use Rattle.smt_values.specs.Cedar.{PlainCedar, ClosedRecordType, CedarAttributes}
use Rattle.smt_values.specs.TypeOfCedar.{type_of_cedar}
use Rattle.smt_values.specs.Plain.{PlainEntity, PlainAction}
use Rattle.smt_values.specs.Outcomes.{Outcome, ◌>>=◌, converted, each}
use Rattle.law_cedar.specs.Plain.{PlainTags, PlainData}
use Rattle.law_cedar.specs.Symbolized.{action_entry}
use Rattle.law_cedar.specs.Tables.{attributes_entry, ancestors_entry, keys_entry, tag_entries, table_of}

-- the tags of these entities, each as the record of its entity and its key with the term of its value, or the first fault among
-- them
abbrev pub all_tag_entries : PlainCedar → List PlainEntity → Outcome (List (PlainTerm × PlainTerm))
all_tag_entries value stored = each (tag_entries value) stored >>= λ pss. Ok (flat_map (λ ps. ps) pss)

module _ (default : PlainType → PlainTerm) where
  -- the table of attributes of the stored entities of a type: for an entity the record of its attributes; or the first fault
  abbrev pub attributes_of : (type : List ℕ) → CedarAttributes → (stored : List PlainEntity) → Outcome PlainUnary
  attributes_of type attributes stored =
      converted (type_of_cedar (ClosedRecordType attributes)) >>=
      λ own. each (attributes_entry attributes) stored >>= λ ps. Ok (table_of default (EntityType type) own ps)

  -- the table of ancestors of the stored entities of a type: for an entity the set of its ancestors of the type `kind`
  abbrev pub ancestors_of : (type kind : List ℕ) → (stored : List PlainEntity) → PlainUnary
  ancestors_of type kind stored = table_of default (EntityType type) (SetType (EntityType kind)) (map (ancestors_entry kind) stored)

  -- a table of ancestors for each of these types of ancestors, in the order of their bytes
  abbrev pub all_ancestors_of : (type : List ℕ) → (kinds : List (List ℕ)) → (stored : List PlainEntity) → List (List ℕ × PlainUnary)
  all_ancestors_of type kinds stored = sorted_pairs text_cmp (map (λ kind. (kind, ancestors_of type kind stored)) kinds)

  -- the table of keys of the stored entities of a type: for an entity the set of the keys of its tags
  abbrev pub keys_of_tags : (type : List ℕ) → (stored : List PlainEntity) → PlainUnary
  keys_of_tags type stored = table_of default (EntityType type) (SetType StringType) (map keys_entry stored)

  -- the table of tags of the stored entities of a type: for an entity and a key the value of the tag; or the first fault
  abbrev pub values_of_tags : (type : List ℕ) → PlainCedar → (stored : List PlainEntity) → Outcome PlainUnary
  values_of_tags type value stored =
      converted (type_of_cedar value) >>= λ own. all_tag_entries value stored >>= λ ps. Ok (table_of default (tag_type type) own ps)

  -- the tables of the keys and of the values of the tags that the stored entities of a type have; or the first fault
  abbrev pub tags_of : (type : List ℕ) → PlainCedar → (stored : List PlainEntity) → Outcome PlainTags
  tags_of type value stored = values_of_tags type value stored >>= λ vs. Ok (record { keys = keys_of_tags type stored; tag_values = vs })

  -- the tables of the tags of the stored entities of a type, where the schema gives the type tags; or the first fault
  abbrev pub tags_held_of : (type : List ℕ) → Option PlainCedar → (stored : List PlainEntity) → Outcome (Option PlainTags)
  tags_held_of type None stored = Ok None
  tags_held_of type (Some value) stored = tags_of type value stored >>= λ tags. Ok (Some tags)

  -- what there is to say of a standard type by its stored entities: the tables of their attributes, ancestors and tags; or the
  -- first fault
  abbrev pub data_of : (type : List ℕ) → (kinds : List (List ℕ)) → CedarAttributes → Option PlainCedar → (stored : List PlainEntity) →
      Outcome PlainData
  data_of type kinds attributes value stored =
      attributes_of type attributes stored >>= λ own. tags_held_of type value stored >>= λ tags. Ok (record {
        attributes = own;
        ancestors = all_ancestors_of type kinds stored;
        members = None;
        tags = tags;
      })

  -- the table of ancestors of these actions of a type: for an action the set of its ancestors of the type `kind`
  abbrev pub action_table : (type kind : List ℕ) → (actions : List PlainAction) → PlainUnary
  action_table type kind actions = table_of default (EntityType type) (SetType (EntityType kind)) (map (action_entry kind) actions)

  -- what there is to say of a type of actions: no attributes and no tags, the tables of the actions' ancestors, and the
  -- actions' ids
  abbrev pub data_of_actions : (type : List ℕ) → (kinds : List (List ℕ)) → (actions : List PlainAction) → PlainData
  data_of_actions type kinds actions = record {
    attributes = table_of default (EntityType type) (RecordType no_attributes) [];
    ancestors = sorted_pairs text_cmp (map (λ kind. (kind, action_table type kind actions)) kinds);
    members = Some (sorted_texts (map (λ action. action.uid.1) actions));
    tags = None;
  }
