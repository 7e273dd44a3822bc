-- What there is to say of the types of a schema, by the list of the stored entities of each.
use Rattle.std.proofs.Common.{◌≡◌, ℕ, List, ◌++◌, Option, Some, None, Ok, Err, map, refl, sym, ap, ◌∙◌}
use Rattle.std.proofs.lemmas.List.{map-append}
use Rattle.std.specs.List.{flat_map}
use Rattle.smt_values.specs.Plain.{PlainEntity, PlainSchema}
use Rattle.smt_values.specs.Cedar.{PlainCedar, CedarAttributes}
use Rattle.smt_values.specs.TypeOfCedar.{type_of_cedar}
use Rattle.smt_term.specs.SortedPairs.{sorted_pairs}
use Rattle.smt_term.specs.declared.entity.EntityType.{EntityType}
use Rattle.law_terms.specs.Functions.{PlainUnary}
use Rattle.law_terms.specs.Plain.{PlainType, PlainTerm}
use Rattle.law_terms.specs.ValueOrder.{text_cmp}
use Rattle.law_cedar.specs.Plain.{PlainTags, PlainData}
use Rattle.law_cedar.specs.Symbolized.{action_data, action_types, entities_of, own_types, standard_data, tags_held, typed_data}
use Rattle.law_cedar.specs.Tables.{ancestors_tables, attributes_table, stored_of, table_of, tag_entries}
use Rattle.smt_symbolizer.proofs.SortedTypes.{said_in_order}
use Rattle.smt_symbolizer.specs.Named.{named, said}
use Rattle.smt_symbolizer.specs.Stored.{data_of, keys_of_tags, tags_held_of}
use Rattle.smt_symbolizer.specs.EntityView.{plain_data}
use Rattle.smt_symbolizer.specs.declared.entity_data.SymEntityData.{SymEntityData}
use Rattle.smt_term.specs.TypeKinds.{tag_type}
use Rattle.smt_values.specs.Outcomes.{Outcome, ◌>>=◌, converted, each}

abbrev tags_with : (keys tag_values : PlainUnary) → PlainTags
tags_with keys tag_values = record { keys = keys; tag_values = tag_values }

abbrev data_with : PlainUnary → List (List ℕ × PlainUnary) → Option PlainTags → PlainData
data_with attributes ancestors tags = record { attributes = attributes; ancestors = ancestors; members = None; tags = tags }

-- tables of keys and of values, made together or one after the other
regrouped : {A : Type 0} (o : Outcome PlainType) (es : Outcome (List (List A))) (f : PlainType → List A → PlainUnary) (keys : PlainUnary)
    → (o >>= λ own. es >>= λ pss. Ok (tags_with keys (f own (flat_map (λ ps. ps) pss))))
    ≡ ((o >>= λ own. (es >>= λ pss. Ok (flat_map (λ ps. ps) pss)) >>= λ ps. Ok (f own ps)) >>= λ vs. Ok (tags_with keys vs))
regrouped (Err fault) es f keys = refl
regrouped (Ok own) (Err fault) f keys = refl
regrouped (Ok own) (Ok pss) f keys = refl

module _ (default : PlainType → PlainTerm) (type : List ℕ) (entities : List PlainEntity) where
  tags_said : (value : Option PlainCedar) → tags_held default type value entities ≡ tags_held_of default type value (stored_of type entities)
  tags_said None = refl
  tags_said (Some value) =
      ap
      (λ o. o >>= λ tags. Ok (Some tags))
      (regrouped (converted (type_of_cedar value)) (each (tag_entries value) (stored_of type entities)) (λ own ps. table_of default (tag_type type) own ps) (keys_of_tags default type (stored_of type entities)))

  pub data_said : (kinds : List (List ℕ)) (attributes : CedarAttributes) (value : Option PlainCedar)
      → standard_data default type kinds attributes value entities ≡ data_of default type kinds attributes value (stored_of type entities)
  data_said kinds attributes value =
      ap
      (λ held. attributes_table default type attributes entities >>= λ own. held >>= λ tags. Ok (data_with own (ancestors_tables default type kinds entities) tags))
      (tags_said value)

-- all types, of which those of entities and those of actions are made apart
pub all_types : (default : PlainType → PlainTerm) (schema : PlainSchema) (entities : List PlainEntity) (own others all made : List (EntityType × SymEntityData))
    → each (typed_data default entities) (own_types schema) ≡ Ok (map (said plain_data) own)
    → map (said plain_data) others ≡ map (λ type. (type, action_data default schema.actions type)) (action_types schema.actions)
    → all ≡ own ++ others → map named made ≡ sorted_pairs text_cmp (map named all) → entities_of default schema entities ≡ Ok (map (said plain_data) made)
all_types default schema entities own others all made first second are sorted =
    ap (λ o. o >>= λ held. Ok (sorted_pairs text_cmp (held ++ map (λ type. (type, action_data default schema.actions type)) (action_types schema.actions)))) first
    ∙ ap (λ l. Ok (sorted_pairs text_cmp (map (said plain_data) own ++ l))) (sym second)
    ∙ ap (λ l. Ok (sorted_pairs text_cmp l)) (sym (map-append (said plain_data) own others))
    ∙ ap (λ l. Ok (sorted_pairs text_cmp (map (said plain_data) l))) (sym are)
    ∙ ap Ok (sym (said_in_order plain_data made all sorted))
