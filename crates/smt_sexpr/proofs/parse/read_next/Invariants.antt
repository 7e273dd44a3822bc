use Rattle.std.proofs.Common.{length}
use Rattle.smt_sexpr.specs.OpenLists.{IsOpenAt}
use Rattle.smt_sexpr.specs.View.{lists_in}
use Rattle.smt_sexpr.proofs.parse.read_next.Given as goal

abbrev pub invariant-loop-rest : goal.invariant-loop-rest
invariant-loop-rest l = IsOpenAt l.src l.rest l.max_depth (lists_in l.lists.items)

abbrev pub decreases-loop-rest : goal.decreases-loop-rest
decreases-loop-rest l = length l.rest
