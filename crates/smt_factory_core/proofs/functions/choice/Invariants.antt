use Rattle.std.proofs.Common.{◌≡◌, drop, map}
use Rattle.law_folding.specs.Builder.{folding}
use Rattle.law_folding.specs.FoldFunctions.{choice_among}
use Rattle.smt_term.specs.Tables.{plain_entry}
use Rattle.smt_term.specs.View.{plain_term}
use Rattle.smt_factory_core.proofs.functions.choice.Given as goal

-- the choice among the entries from this place on
abbrev pub invariant-loop-place : goal.invariant-loop-place
invariant-loop-place l = plain_term l.rest ≡ choice_among folding (map plain_entry (drop l.place l.entries)) (plain_term l.default) (plain_term l.t)
