use Rattle.std.proofs.Common.{map, subst, sym}
use Rattle.std.specs.List.{range_with_len}
use Rattle.smt_search.specs.Given.{truths}
use Rattle.smt_sat_run.specs.Spelled.{HasSpelled}
use Rattle.smt_sat_run.specs.Values.{value_word}
use Rattle.smt_sat_run.proofs.Spelling.{mapped_more}
use Rattle.smt_sat_run.proofs.values.spelled.Goals as goal

pub loop-variable-preserved : goal.loop-variable-preserved
loop-variable-preserved c =
    let f = value_word (truths c.args.found.now) in
    subst (λ words. HasSpelled c.push_value.new.self words) (sym (mapped_more f c.loop-variable.variable)) (c.in_ok-push_value.ensures (map f (range_with_len 0 c.loop-variable.variable)) c.loop-variable.invariant)
