use Rattle.std.proofs.Common.{◌≡◌, drop, map}
use Rattle.law_folding.specs.FoldSets.{is_among}
use Rattle.smt_term.specs.View.{plain_term}
use Rattle.smt_factory_core.proofs.sets.is_among.Given as goal

-- whether it is among those that are left decides it of all
abbrev pub invariant-loop-element : goal.invariant-loop-element
invariant-loop-element l = is_among (map plain_term (drop l.element-index l.ts)) (plain_term l.t) ≡ is_among (map plain_term l.ts) (plain_term l.t)
