use Rattle.std.proofs.Common.{◌≡◌, ap, arith, length, map, subst, sym}
use Rattle.law_blasting.specs.Laws.{root}
use Rattle.smt_nodes.specs.Interned.{nodes_of, StandFor}
use Rattle.smt_nodes.specs.View.{ids_of}
use Rattle.smt_blast.proofs.Listing.{stand_for}
use Rattle.smt_blast.proofs.table.new_nodes.Goals as goal

pub returns-clause-roots : goal.returns-clause-roots
returns-clause-roots c ids vs ts h e m = subst (λ i. StandFor i (ids_of c.in_ok-outcome.field-0) (map (root vs) ts)) (sym c.into_nodes-nodes.ensures) (stand_for (c.in_ok-outcome.ensures.roots ids vs ts h e m))

pub returns-clause-few : goal.returns-clause-few
returns-clause-few c ids vs h =
    let more = (c.in_ok-outcome.ensures.grows ids vs h).few in
    let same : length (nodes_of c.into_nodes-nodes.result) ≡ length (nodes_of c.roots-outcome.new.self.nodes) = ap (λ i. length (nodes_of i)) c.into_nodes-nodes.ensures in
    omega (arith, more, same, c.in_ok-gates.ensures)
