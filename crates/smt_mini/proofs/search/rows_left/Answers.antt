use Rattle.std.proofs.Common.{rules, ap, ◌∙◌, map}
use Rattle.law_verdicts.specs.TruthRows.{May}
use Rattle.smt_mini.specs.Search.{in_row, may_place}
use Rattle.smt_mini.proofs.RowBits.{one_gate_more}
use Rattle.smt_mini.proofs.search.rows_left.Goals as goal

pub loop-place-preserved : goal.loop-place-preserved
loop-place-preserved c r l =
    one_gate_more c.loop-place.left c.earlier-left.result.holds r (λ p. (may_place (map (in_row r) c.args.done.now) p).holds) c.args.assertions.now c.loop-place.place-index _ c.loop-place-test.true (search rules)
    (ap (λ (m : May). m.holds) (c.earlier-left.ensures r l)) ∙ c.loop-place.invariant r l
