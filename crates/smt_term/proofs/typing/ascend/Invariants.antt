use Rattle.std.proofs.Common.{◌≡◌, length, map}
use Rattle.law_terms.specs.TermOrder.{term_cmp}
use Rattle.law_terms.specs.ValueOrder.{ascends}
use Rattle.smt_term.specs.View.{plain_term}
use Rattle.smt_term.proofs.typing.ascend.Given as goal

-- whether what is left ascends decides it of all
abbrev pub invariant-loop-first : goal.invariant-loop-first
invariant-loop-first l = ascends term_cmp (map plain_term l.left) ≡ ascends term_cmp (map plain_term l.terms)

abbrev pub decreases-loop-first : goal.decreases-loop-first
decreases-loop-first l = length l.left
