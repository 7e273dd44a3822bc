use Rattle.std.proofs.Common.{length}
use Rattle.smt_sexpr.specs.OpenLists.{IsScanned}
use Rattle.smt_sexpr.proofs.parse.has_no_tokens.Given as goal

abbrev pub invariant-loop-rest : goal.invariant-loop-rest
invariant-loop-rest l = IsScanned l.blank l.src l.rest

abbrev pub decreases-loop-rest : goal.decreases-loop-rest
decreases-loop-rest l = length l.rest
