-- Pairs of an entity type and a value, by the bytes of the type.
use Rattle.std.specs.Prelude.{ℕ, List}
use Rattle.smt_term.specs.Entities.{bytes_of_type}
use Rattle.smt_term.specs.declared.entity.EntityType.{EntityType}

-- a pair of an entity type and a value, the type as the bytes of its name
abbrev pub named : {V : Type 0} → EntityType × V → List ℕ × V
named p = (bytes_of_type p.0, p.1)

-- a pair of an entity type and a value, as the bytes of the type's name and the plain form of the value by `view`
abbrev pub said : {V P : Type 0} → (V → P) → EntityType × V → List ℕ × P
said view p = (bytes_of_type p.0, view p.1)
