use Rattle.smt_search.specs.Given.{truths}
use Rattle.smt_sat_run.proofs.Spelling.{all_spelled}
use Rattle.smt_sat_run.proofs.values.values_text.Goals as goal

pub returns : goal.returns
returns c =
    all_spelled (truths c.args.found.now) c.args.variables c.push.new.self c.push-2.new.self.items (c.in_ok-push.ensures _ c.in_ok-lines.ensures) c.in_ok-push-2.ensures.items
