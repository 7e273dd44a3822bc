use Rattle.std.proofs.Common.{◌≡◌, drop, map}
use Rattle.std.specs.List.{list_all}
use Rattle.law_folding.specs.FoldSets.{is_among}
use Rattle.smt_term.specs.View.{plain_term}
use Rattle.smt_factory_core.proofs.sets.are_among.Given as goal

-- whether those that are left are among the terms decides it of all
abbrev pub invariant-loop-sub : goal.invariant-loop-sub
invariant-loop-sub l = list_all (is_among (map plain_term l.ts)) (map plain_term (drop l.sub-index l.subs)) ≡ list_all (is_among (map plain_term l.ts)) (map plain_term l.subs)
