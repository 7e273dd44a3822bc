-- The types whose entities a symbolic environment lists.
use Rattle.std.specs.Prelude.{ℕ, List, Option, option_map}
use Rattle.std.specs.List.{filter_map}
use Rattle.law_terms.specs.TypeValues.{Enums}
use Rattle.law_cedar.specs.Plain.{PlainData, PlainEntities}

-- an entity type with its members, where what is said of the type lists them
abbrev pub listed_entry : List ℕ × PlainData → Option (List ℕ × List (List ℕ))
listed_entry p = option_map (λ ids. (p.0, ids)) p.1.members

-- the entity types whose members are listed, each with its members, in order
abbrev pub listed_in : PlainEntities → Enums
listed_in entities = filter_map listed_entry entities
