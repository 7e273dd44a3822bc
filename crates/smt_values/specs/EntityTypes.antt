-- What lists of entity types say.
use Rattle.std.specs.Prelude.{ℕ, List, map}
use Rattle.smt_term.specs.Entities.{bytes_of_type}
use Rattle.smt_term.specs.declared.entity.EntityType.{EntityType}
use Rattle.smt_values.specs.declared.entity_types.EntityTypeList.{EntityTypeList}

-- the entity types of a list, in order
abbrev pub types_held : EntityTypeList → List EntityType
types_held list = list.items.items

-- the names of the entity types of a list as bytes, in order
abbrev pub names_held : EntityTypeList → List (List ℕ)
names_held list = map bytes_of_type (types_held list)
