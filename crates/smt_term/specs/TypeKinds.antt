-- The kinds of types.
use Rattle.std.specs.Prelude.{ℕ, Bool, true, false, List, codes}
use Rattle.law_terms.specs.Plain.{PlainType, BitVecType, BoolType, EntityType, ExtensionType, OptionType, RecordType, StringType}
use Rattle.law_terms.specs.Plain.{no_attributes, attribute}

-- whether a type is that of literals
abbrev pub is_primitive : PlainType → Bool
is_primitive (BitVecType n) = true
is_primitive BoolType = true
is_primitive (EntityType e) = true
is_primitive (ExtensionType k) = true
is_primitive StringType = true
is_primitive t = false

-- whether a type is one of entities
abbrev pub is_entity : PlainType → Bool
is_entity (EntityType e) = true
is_entity t = false

-- whether a type is a record type
abbrev pub is_record : PlainType → Bool
is_record (RecordType x) = true
is_record t = false

-- whether a type is one of options of entities
abbrev pub is_entity_option : PlainType → Bool
is_entity_option (OptionType t) = is_entity t
is_entity_option t = false

-- the type of the tags of entities of this type: records of an entity and of the text of its tag
abbrev pub tag_type : List ℕ → PlainType
tag_type e = RecordType (attribute (codes "entity") (EntityType e) (attribute (codes "tag") StringType no_attributes))
