use Rattle.std.proofs.Common.{◌+◌, ◌≤◌, length, arith}
use Rattle.law_jobs.specs.Steps.{steps_of}
use Rattle.smt_jobs.specs.Walk.{first_by, step_in}
use Rattle.smt_jobs.proofs.Walking.{all_stepped, gives_passes, not_stepped, read_none, read_one_more, stepped_more, stepping_none}
use Rattle.smt_jobs.proofs.walk.take_steps.Goals as goal

pub loop-after-init : goal.loop-after-init
loop-after-init g c = record {
  read = read_none c.args.src.now 510;
  stated = λ ds has es end i. stepping_none ds es c.args.src.now end _ i;
  idle = c.requires.idle;
  few = omega arith;
}

pub returns-in-Some-clause-stated : goal.returns-in-Some-clause-stated
returns-in-Some-clause-stated g c ds has es end i =
    let t = c.loop-after.invariant.stated ds has es end i in
    let all = all_stepped ds es end _ _ _ _ t c.in-Some.after.now c.in-Some.ensures.found in
    (all.0, all.1, (all.2, all.3))

pub returns-in_err-after-clause-stated : goal.returns-in_err-after-clause-stated
returns-in_err-after-clause-stated g c ds has es end i =
    let t = c.loop-after.invariant.stated ds has es end i in
    gives_passes _ c.from_residual.result c.in_err-after.field-0.0 (steps_of ds 0 es) (first_by (step_in ds c.loop-after.levels) t.left) c.from_residual.ensures.1 (c.in_err-after.ensures.stated ds has t.left end t.begins)
    (not_stepped ds es end _ _ _ _ t c.in_default.ensures.none)

pub loop-after-preserved : goal.loop-after-preserved
loop-after-preserved g c = (
    let before : c.loop-after.levels + length c.loop-after.rest.now ≤ length c.args.src.now = c.loop-after.invariant.few in
    let less = c.in_ok-after.ensures.shorter in
    let most = c.in_ok-after.ensures.most in
    record {
      read = read_one_more c.args.src.now c.loop-after.rest.now c.in_ok-after.after.now 510 c.loop-after.invariant.read c.in_ok-after.ensures.read;
      stated = λ ds has es end i. (
          let t = c.loop-after.invariant.stated ds has es end i in
          let first = c.in_ok-after.ensures.stated ds has t.left end t.begins in
          stepped_more ds es end _ _ _ _ t c.in_default.ensures.none c.in_ok-after.after.now c.in_ok-after.open first.0 _ first.1 first.2.0 first.2.1 first.2.2
          );
      idle = c.in_ok-after.ensures.idle;
      few = omega arith;
    })
