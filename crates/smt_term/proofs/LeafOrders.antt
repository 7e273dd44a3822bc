-- The derived orders of entities, of their types and ids, and of sets of texts agree with equality.
use Rattle.std.proofs.Common.{refl}
use Rattle.std.specs.FinMap.{slice_cmp-IsAntisymmetric}
use Rattle.std.specs.Rc.{rc_str_bytes}
use Rattle.law_terms.proofs.ValueOrder.{text_same}
use Rattle.law_terms.specs.ValueOrder.{text_cmp}
use Rattle.smt_term.specs.Entities.{EntitiesAreOrdered, EntityIdsAreOrdered, EntityTypesAreOrdered, bytes_of_id, bytes_of_type, texts_of_entity}
use Rattle.smt_term.specs.TextSets.{TextSetsAreOrdered, texts_of}
use Rattle.smt_term.specs.contracts.entity.EntityIDOrd.TheImpl.Laws as id_laws
use Rattle.smt_term.specs.contracts.entity.EntityTypeOrd.TheImpl.Laws as type_laws
use Rattle.smt_term.specs.contracts.entity.EntityUIDOrd.TheImpl.Laws as entity_laws
use Rattle.smt_term.specs.contracts.texts.TextSetOrd.TheImpl.Laws as set_laws
use Rattle.smt_term.proofs.Orders.{are_ordered, lists_by_said, pairs_same}

pub entity_types_are_ordered : EntityTypesAreOrdered
entity_types_are_ordered = are_ordered _ _ bytes_of_type text_cmp type_laws.total-law type_laws.matches_eq-law (λ a b. refl) text_same

pub entity_ids_are_ordered : EntityIdsAreOrdered
entity_ids_are_ordered = are_ordered _ _ bytes_of_id text_cmp id_laws.total-law id_laws.matches_eq-law (λ a b. refl) text_same

pub entities_are_ordered : EntitiesAreOrdered
entities_are_ordered = are_ordered _ _ texts_of_entity _ entity_laws.total-law entity_laws.matches_eq-law (λ a b. refl) (pairs_same text_cmp text_cmp text_same text_same)

pub text_sets_are_ordered : TextSetsAreOrdered
text_sets_are_ordered = are_ordered _ _ texts_of _ set_laws.total-law set_laws.matches_eq-law (λ a b. lists_by_said _ rc_str_bytes text_cmp (λ x y. refl) a.items.value.items b.items.value.items) (slice_cmp-IsAntisymmetric text_same)
