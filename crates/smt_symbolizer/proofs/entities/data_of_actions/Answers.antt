use Rattle.std.proofs.Common.{Some, None, ap, ◌∙◌}
use Rattle.smt_term.specs.SortedPairs.{sorted_pairs}
use Rattle.law_terms.specs.ValueOrder.{text_cmp}
use Rattle.smt_symbolizer.proofs.SortedTypes.{said_in_order}
use Rattle.smt_symbolizer.specs.ByType.{pairs_held}
use Rattle.smt_term.specs.Functions.{plain_unary}
use Rattle.smt_symbolizer.proofs.entities.data_of_actions.Goals as goal

pub returns : goal.returns
returns c =
    let tables = said_in_order plain_unary (pairs_held c.in_ok-ancestors.ancestors) c.in_ok-pairs.pairs.items c.in_ok-ancestors.ensures ∙ ap (sorted_pairs text_cmp) c.in_ok-pairs.ensures in
    λ i. record { attributes = c.in_ok-attrs.ensures i; ancestors = tables i; members = Some (c.in_ok-members.ensures i); tags = None }
