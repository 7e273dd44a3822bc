use Rattle.std.proofs.Common.{List, refl, subst, arith}
use Rattle.smt_jobs.specs.declared.numbered.NumberedStep.{NumberedStep}
use Rattle.smt_encode.specs.Encoded.{nodes_in}
use Rattle.smt_runs.proofs.Loop.{IsGoing, cause_of_loop, going_from, going_on, passed_on, piece_put}
use Rattle.smt_runs.proofs.pieces.put_until_check.Goals as goal

pub loop-step-init : goal.loop-step-init
loop-step-init g c = going_from g.S.Sink.contents g.S.Sink.faults g.S.Sink.place c.args.encoder.now c.args.steps.now c.requires.unspent c.requires.stand (record { later = omega arith; sink = refl; enums = refl })

pub loop-step-preserved : goal.loop-step-preserved
loop-step-preserved g c =
    let i = subst (λ (l : List NumberedStep). IsGoing g.S.Sink.contents g.S.Sink.faults g.S.Sink.place c.args.encoder.now c.loop-step.encoder c.args.steps.now l) c.in-Some.ensures.0 c.loop-step.invariant in
    going_on g.S.Sink.contents g.S.Sink.faults g.S.Sink.place c.args.encoder.now c.args.steps.now c.loop-step.encoder c.put_step.new.encoder c.in-Some.step.now c.in-Some.rest.now i c.in-Some.ensures.1 c.put_step.ensures.numbers c.put_step.ensures.kept
    c.in_ok-put_step.ensures.spent c.in_ok-put_step.ensures.faultless c.in_ok-put_step.ensures.got c.in_ok-put_step.ensures.stands

pub returns-in_err-put_step-clause-refused : goal.returns-in_err-put_step-clause-refused
returns-in_err-put_step-clause-refused g c =
    let i = subst (λ (l : List NumberedStep). IsGoing g.S.Sink.contents g.S.Sink.faults g.S.Sink.place c.args.encoder.now c.loop-step.encoder c.args.steps.now l) c.in-Some.ensures.0 c.loop-step.invariant in
    cause_of_loop g.S.Sink.contents g.S.Sink.faults g.S.Sink.place c.args.encoder.now c.args.steps.now c.loop-step.encoder c.put_step.new.encoder c.in-Some.step.now c.in-Some.rest.now i c.put_step.result c.from_residual.result c.in_err-put_step.field-0.0
    c.in_err-put_step.was (passed_on c.from_residual.result c.in_err-put_step.field-0.0 c.from_residual.ensures.1) c.put_step.ensures.refused

pub returns-clause-puts : goal.returns-clause-puts
returns-clause-puts g c = piece_put g.S.Sink.contents g.S.Sink.faults g.S.Sink.place c.args.encoder.now c.args.steps.now c.loop-step.encoder c.loop-step.left.now c.loop-step.invariant (c.in_default.ensures (nodes_in c.args.encoder.now))
