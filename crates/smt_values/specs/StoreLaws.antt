-- What holds of every store and of every map of entity types, and what is found after something was put into one.
use Rattle.std.specs.Prelude.{◌≡◌, ℕ, List, Some, IsTrue, bytes_eq, cond, map}
use Rattle.std.specs.BTreeMap.{insert_entry}
use Rattle.std.specs.List.{IsDistinct}
use Rattle.std.specs.Map.{keys_of, lookup}
use Rattle.law_terms.specs.ValueOrder.{ascends, text_cmp}
use Rattle.smt_values.specs.Plain.{PlainEntity, PlainEntry}
use Rattle.smt_values.specs.Stores.{entity_of, put_entity}
use Rattle.smt_values.specs.Uids.{Uid, same_uid}
use Rattle.smt_values.specs.View.{plain_entities, plain_entries}
use Rattle.smt_values.specs.declared.entry_map.EntryMap.{EntryMap}
use Rattle.smt_values.specs.declared.store.Entities.{Entities}

-- no uid stands twice in a store of the program
abbrev pub StoresAreDistinct : Type 0
StoresAreDistinct = (entities : Entities) → IsDistinct same_uid (map (λ entity. entity.uid) (plain_entities entities))

-- the names of the entity types of a map of the program ascend strictly by their bytes
abbrev pub EntriesAscend : Type 0
EntriesAscend = (entries : EntryMap) → IsTrue (ascends text_cmp (keys_of (plain_entries entries)))

-- an entity that was put into a store is found by its uid, and all others are as before
abbrev pub PutEntityIsFound : Type 0
PutEntityIsFound =
    (entity : PlainEntity) (entities : List PlainEntity) (uid : Uid) →
    entity_of (put_entity entity entities) uid ≡ cond (same_uid entity.uid uid) (Some entity) (entity_of entities uid)

-- an entry that was put into a map of entity types is found by its type, and all others are as before
abbrev pub PutEntryIsFound : Type 0
PutEntryIsFound =
    (type asked : List ℕ) (entry : PlainEntry) (entries : List (List ℕ × PlainEntry)) →
    lookup (bytes_eq asked) (insert_entry text_cmp entries type entry)
    ≡ cond (bytes_eq type asked) (Some entry) (lookup (bytes_eq asked) entries)
