-- The tables of what is stored of the entities of a type: finite functions, defined by a table of arguments and results.
use Rattle.std.specs.Prelude.{ℕ, bytes_eq, List, Option, Some, None, Ok, Err, map}
use Rattle.std.specs.List.{filter, flat_map}
use Rattle.std.specs.Map.{keys_of}
use Rattle.law_folding.specs.FoldRecords.{tag_record}
use Rattle.smt_term.specs.SortedPairs.{sorted_pairs}
use Rattle.law_terms.specs.Functions.{PlainUnary, Defined}
use Rattle.law_terms.specs.Plain.{PlainType, EntityType, StringType, SetType, PlainTerm, LiteralTerm, EntityLiteral, StringLiteral}
use Rattle.law_terms.specs.TermOrder.{term_cmp}
use Rattle.law_terms.specs.TermSets.{set_term}
use Rattle.law_terms.specs.ValueOrder.{text_cmp}
use Rattle.smt_term.specs.TypeKinds.{tag_type}
use Rattle.smt_values.specs.Cedar.{PlainCedar, ClosedRecordType, CedarAttributes}
use Rattle.smt_values.specs.TypeOfCedar.{type_of_cedar}
use Rattle.smt_values.specs.PlainValues.{PlainValue, RecordValue, value_fields}
use Rattle.smt_values.specs.Plain.{KnownFields, PlainEntity}
use Rattle.smt_values.specs.Uids.{Uid}
use Rattle.smt_values.specs.Outcomes.{Outcome, ◌>>=◌, converted, each, UnknownValue}
use Rattle.smt_values.specs.TermOfValue.{term_of_value}
use Rattle.law_cedar.specs.Plain.{PlainTags}

-- ---- entities and texts as terms

-- an entity as a literal
abbrev pub entity_term : Uid → PlainTerm
entity_term uid = LiteralTerm (EntityLiteral uid.0 uid.1)

-- a text as a string literal
abbrev pub text_term : List ℕ → PlainTerm
text_term text = LiteralTerm (StringLiteral text)

-- the term of the set of those of these entities that are of a type
abbrev pub set_of_type : List ℕ → List Uid → PlainTerm
set_of_type type uids = set_term (EntityType type) (map entity_term (filter (λ uid. bytes_eq uid.0 type) uids))

-- the stored entities of a type, in the order of the store
abbrev pub stored_of : List ℕ → List PlainEntity → List PlainEntity
stored_of type entities = filter (λ entity. bytes_eq entity.uid.0 type) entities

-- ---- values that are known

-- a stored value that is known, or else the fault that it is not
abbrev pub known_value : Option PlainValue → Outcome PlainValue
known_value (Some v) = Ok v
known_value None = Err UnknownValue

-- an attribute with its stored value, or the fault that the value is not known
abbrev pub known_field : List ℕ × Option PlainValue → Outcome (List ℕ × PlainValue)
known_field p = known_value p.1 >>= λ v. Ok (p.0, v)

-- the term of the record of stored attributes, all of which have to be known, at the closed record type of these attributes
abbrev pub fields_term : CedarAttributes → KnownFields → Outcome PlainTerm
fields_term attributes fields =
    each known_field fields >>= λ held. term_of_value (ClosedRecordType attributes) (RecordValue (value_fields held))

-- ---- what a table has for each stored entity

-- a stored entity with the record of its attributes
abbrev pub attributes_entry : CedarAttributes → PlainEntity → Outcome (PlainTerm × PlainTerm)
attributes_entry attributes entity = fields_term attributes entity.fields >>= λ t. Ok (entity_term entity.uid, t)

-- a stored entity with the set of its ancestors of one type, which the store has to list all: none is concluded from another
abbrev pub ancestors_entry : (kind : List ℕ) → PlainEntity → PlainTerm × PlainTerm
ancestors_entry kind entity = (entity_term entity.uid, set_of_type kind entity.ancestors)

-- a stored entity with the set of the keys of its tags
abbrev pub keys_entry : PlainEntity → PlainTerm × PlainTerm
keys_entry entity = (entity_term entity.uid, set_term StringType (map text_term (keys_of entity.tags)))

-- a tag of an entity: the record of the entity and the key, with the term of the tag's value, which has to be known, at the
-- type of tags
abbrev pub tag_entry : PlainCedar → Uid → List ℕ × Option PlainValue → Outcome (PlainTerm × PlainTerm)
tag_entry type uid p = known_value p.1 >>= λ v. term_of_value type v >>= λ t. Ok (tag_record (entity_term uid) (text_term p.0), t)

-- the tags of a stored entity as entries of a table, in order, or the first fault among them
abbrev pub tag_entries : PlainCedar → PlainEntity → Outcome (List (PlainTerm × PlainTerm))
tag_entries type entity = each (tag_entry type entity.uid) entity.tags

-- ---- the tables, each of which has the default of its results' type elsewhere

module _ (default : PlainType → PlainTerm) where
  -- The function that a table of these pairs defines, with the default of its results' type elsewhere. Of pairs with one argument
  -- the last counts.
  abbrev pub table_of : (argument output : PlainType) → List (PlainTerm × PlainTerm) → PlainUnary
  table_of argument output ps =
      Defined (record { argument = argument; output = output; entries = sorted_pairs term_cmp ps; elsewhere = default output })

  -- the attributes of the stored entities of a type, as the record that the schema has for it
  abbrev pub attributes_table : (type : List ℕ) → CedarAttributes → List PlainEntity → Outcome PlainUnary
  attributes_table type attributes entities =
      converted (type_of_cedar (ClosedRecordType attributes)) >>=
      λ own. each (attributes_entry attributes) (stored_of type entities) >>= λ ps. Ok (table_of (EntityType type) own ps)

  -- the ancestors of the stored entities of a type that are of one other type, as a set
  abbrev pub ancestors_table : (type kind : List ℕ) → List PlainEntity → PlainUnary
  ancestors_table type kind entities =
      table_of (EntityType type) (SetType (EntityType kind)) (map (ancestors_entry kind) (stored_of type entities))

  -- a table of ancestors for each of these types
  abbrev pub ancestors_tables : (type : List ℕ) → (kinds : List (List ℕ)) → List PlainEntity → List (List ℕ × PlainUnary)
  ancestors_tables type kinds entities = sorted_pairs text_cmp (map (λ kind. (kind, ancestors_table type kind entities)) kinds)

  -- the tags of the stored entities of a type, whose values are of a Cedar type: a table of their keys, and one of their values
  abbrev pub tags_tables : (type : List ℕ) → PlainCedar → List PlainEntity → Outcome PlainTags
  tags_tables type value entities =
      converted (type_of_cedar value) >>= λ own. each (tag_entries value) (stored_of type entities) >>= λ pss. Ok (record {
        keys = table_of (EntityType type) (SetType StringType) (map keys_entry (stored_of type entities));
        tag_values = table_of (tag_type type) own (flat_map (λ ps. ps) pss);
      })
