use Rattle.std.proofs.Common.{◌+◌, drop, subst}
use Rattle.std.proofs.lemmas.List.{drop_all}
use Rattle.law_jobs.specs.Steps.{current}
use Rattle.smt_jobs.specs.Numbers.{steps_by}
use Rattle.smt_blast.specs.Current.{LeadsTo}
use Rattle.smt_blast.proofs.Taking.{arrived, one_stands, steps_ahead}
use Rattle.smt_blast.proofs.current.current_ids.Goals as goal

pub loop-step-preserved : goal.loop-step-preserved
loop-step-preserved c nodes stand =
    let steps = c.args.steps.now in
    let k = c.loop-step.step-index in
    let ts = current (steps_by nodes steps) in
    c.in_ok-take.ensures nodes (steps_by nodes (drop (k + 1) steps)) ts
    (one_stands nodes steps k c.step-item.result c.loop-step-test.true c.step-item.is stand)
    (subst (λ l. LeadsTo nodes c.loop-step.current l ts) (steps_ahead nodes steps k c.step-item.result c.loop-step-test.true c.step-item.is) (c.loop-step.invariant nodes stand))

pub returns : goal.returns
returns c nodes stand = arrived nodes c.loop-step.current (current (steps_by nodes c.args.steps.now)) (subst (λ l. LeadsTo nodes c.loop-step.current (steps_by nodes l) (current (steps_by nodes c.args.steps.now))) (drop_all c.loop-step.step-index c.args.steps.now c.loop-step-test.false) (c.loop-step.invariant nodes stand))
