-- The plain form of maps by entity types.
use Rattle.std.specs.Prelude.{ℕ, List, map}
use Rattle.smt_term.specs.declared.entity.EntityType.{EntityType}
use Rattle.smt_symbolizer.specs.Named.{said}
use Rattle.smt_symbolizer.specs.declared.by_type.ByType.{ByType}

-- the entity types of a map with their values, in the order of the map
abbrev pub pairs_held : {V : Type 0} → ByType V → List (EntityType × V)
pairs_held held = held.items.items

-- the names of the entity types of a map as bytes, each with the plain form of its value by `view`, in the order of the map
abbrev pub said_by : {V P : Type 0} → (V → P) → ByType V → List (List ℕ × P)
said_by view held = map (said view) (pairs_held held)
