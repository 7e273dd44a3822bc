-- The derived order of maps of types agrees with equality.
use Rattle.std.proofs.Common.{ap, ◌∙◌}
use Rattle.std.specs.FinMap.{slice_cmp-IsAntisymmetric}
use Rattle.std.specs.Ordering.{ordering_then}
use Rattle.std.specs.Rc.{rc_str_bytes}
use Rattle.law_terms.specs.Types.{type_cmp}
use Rattle.law_terms.specs.ValueOrder.{text_cmp}
use Rattle.law_terms.proofs.TypeOrder.{type_same}
use Rattle.law_terms.proofs.ValueOrder.{text_same}
use Rattle.smt_term.specs.Ordered.{pair_cmp}
use Rattle.smt_term.proofs.Orders.{are_ordered, lists_by_said, pairs_same}
use Rattle.smt_term.specs.ProgramTypes.{TypeMapsAreOrdered}
use Rattle.smt_term.specs.TypeView.{plain_attribute, plain_attributes}
use Rattle.smt_term.specs.contracts.type_maps.TypeMapOrd.TheImpl.Laws as map_laws
use Rattle.smt_term.proofs.DerivedTypeOrder.{derived_type_cmp, map_family-is, type_cmp-is}
use Rattle.smt_term.proofs.NamedPairs.{by_pairs}

pub type_maps_are_ordered : TypeMapsAreOrdered
type_maps_are_ordered =
    are_ordered _ _ plain_attributes _ map_laws.total-law map_laws.matches_eq-law
    (λ a b. map_family-is a b
    ∙ lists_by_said (by_pairs derived_type_cmp) plain_attribute (pair_cmp text_cmp type_cmp) (λ p q. ap (λ o. ordering_then (text_cmp (rc_str_bytes p.0) (rc_str_bytes q.0)) o) (type_cmp-is p.1 q.1)) a.pairs.items.value.items b.pairs.items.value.items)
    (slice_cmp-IsAntisymmetric (pairs_same text_cmp type_cmp text_same type_same))
