-- The derived order of maps of terms agrees with equality.
use Rattle.std.proofs.Common.{ap, ◌∙◌}
use Rattle.std.specs.FinMap.{slice_cmp-IsAntisymmetric}
use Rattle.std.specs.Ordering.{ordering_then}
use Rattle.std.specs.Rc.{rc_str_bytes}
use Rattle.law_terms.specs.TermOrder.{term_cmp}
use Rattle.law_terms.specs.ValueOrder.{text_cmp}
use Rattle.law_terms.proofs.SameTerm.{term_same}
use Rattle.law_terms.proofs.ValueOrder.{text_same}
use Rattle.smt_term.specs.Ordered.{pair_cmp}
use Rattle.smt_term.proofs.Orders.{are_ordered, lists_by_said, pairs_same}
use Rattle.smt_term.proofs.NamedPairs.{by_pairs}
use Rattle.smt_term.specs.Program.{TermMapsAreOrdered}
use Rattle.smt_term.specs.View.{plain_field, plain_fields}
use Rattle.smt_term.specs.contracts.maps.TermMapOrd.TheImpl.Laws as map_laws
use Rattle.smt_term.proofs.DerivedOrder.{derived_term_cmp, record_family-is, term_cmp-is}

pub term_maps_are_ordered : TermMapsAreOrdered
term_maps_are_ordered =
    are_ordered _ _ plain_fields _ map_laws.total-law map_laws.matches_eq-law
    (λ a b. record_family-is a b
    ∙ lists_by_said (by_pairs derived_term_cmp) plain_field (pair_cmp text_cmp term_cmp) (λ p q. ap (λ o. ordering_then (text_cmp (rc_str_bytes p.0) (rc_str_bytes q.0)) o) (term_cmp-is p.1 q.1)) a.pairs.items.value.items b.pairs.items.value.items)
    (slice_cmp-IsAntisymmetric (pairs_same text_cmp term_cmp text_same term_same))
