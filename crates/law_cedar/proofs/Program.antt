-- The program's stores and schemas are what the law on tables asks for.
use Rattle.std.proofs.Common.{List, [], ◌∷◌, map, sym, subst}
use Rattle.std.specs.List.{AllByRecursion, IsDistinct}
use Rattle.std.specs.Map.{keys_of}
use Rattle.std.specs.Prelude.{IsTrue}
use mathlib.Core.List.{map-map}
use Rattle.law_terms.specs.ValueOrder.{ascends, text_cmp}
use Rattle.smt_values.specs.ValueView.{known_field, known_fields, parts_held}
use Rattle.smt_values.specs.declared.value.PartialMap.{PartialMap}
use Rattle.smt_values.specs.Uids.{same_uid}
use Rattle.smt_values.specs.View.{entry_named, plain_stored}
use Rattle.smt_values.specs.declared.entity.Entity.{Entity}
use Rattle.law_cedar.specs.Laws.{ProgramSchemasAreInOrder, ProgramStoresAreStores}

fields_ascend : (m : PartialMap) → IsTrue (ascends text_cmp (keys_of (known_fields m)))
fields_ascend m = subst (λ ks. IsTrue (ascends text_cmp ks)) (sym (map-map (λ p. p.0) known_field (parts_held m))) m.pairs.ascending

tags_ascend : (es : List Entity) → AllByRecursion (λ e. IsTrue (ascends text_cmp (keys_of e.tags))) (map plain_stored es)
tags_ascend [] = tt
tags_ascend (e ∷ es) = (fields_ascend e.tags, tags_ascend es)

pub program_stores : ProgramStoresAreStores
program_stores entities = record {
  distinct = subst (λ us. IsDistinct same_uid us) (sym (map-map (λ e. e.uid) plain_stored entities.items.items)) entities.distinct;
  tags = tags_ascend entities.items.items;
}

pub program_schemas : ProgramSchemasAreInOrder
program_schemas schema = subst (λ ks. IsTrue (ascends text_cmp ks)) (sym (map-map (λ p. p.0) entry_named schema.entity_types.items.items)) schema.entity_types.ascending
