-- The plain form of what there is to say of entities, without where it lies in memory.
use Rattle.std.specs.Prelude.{option_map}
use Rattle.smt_term.specs.TextSets.{texts_of}
use Rattle.smt_term.specs.Functions.{plain_unary}
use Rattle.law_cedar.specs.Plain.{PlainTags, PlainData, PlainEntities}
use Rattle.smt_symbolizer.specs.ByType.{said_by}
use Rattle.smt_symbolizer.specs.declared.by_type.ByType.{ByType}
use Rattle.smt_symbolizer.specs.declared.entity_data.SymEntityData.{SymEntityData}
use Rattle.smt_symbolizer.specs.declared.entity_data.SymTags.{SymTags}

-- the plain form of the two functions that say what tags the entities of a type have
abbrev pub plain_tags : SymTags → PlainTags
plain_tags tags = record { keys = plain_unary tags.keys; tag_values = plain_unary tags.vals }

-- the plain form of what there is to say of the entities of a type
abbrev pub plain_data : SymEntityData → PlainData
plain_data held = record {
  attributes = plain_unary held.attrs;
  ancestors = said_by plain_unary held.ancestors;
  members = option_map texts_of held.members;
  tags = option_map plain_tags held.tags;
}

-- the plain form of what there is to say of entities, by the names of their types
abbrev pub plain_entities : ByType SymEntityData → PlainEntities
plain_entities entities = said_by plain_data entities
