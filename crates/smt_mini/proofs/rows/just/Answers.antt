use Rattle.std.proofs.Common.{ap, sym, ◌∙◌}
use Rattle.law_verdicts.specs.TruthRows as rows
use Rattle.smt_mini.proofs.RowBits.{just_false, just_true}
use Rattle.smt_mini.proofs.rows.just.Goals as goal

pub returns-then-truth : goal.returns-then-truth
returns-then-truth c r l = just_true r l ∙ ap rows.just (sym c.if-truth.true)

pub returns-else-truth : goal.returns-else-truth
returns-else-truth c r l = just_false r l ∙ ap rows.just (sym c.if-truth.false)
