use Rattle.std.proofs.Common.{Bor, List, ℕ, ◌≡◌, ◌++◌, map, refl, ap, ◌∙◌, arith}
use Rattle.law_folding.specs.Built.{built}
use Rattle.law_terms.specs.Plain.{PlainTerm}
use Rattle.law_texts.specs.Tokens.{HasTokens}
use Rattle.law_jobs.specs.Terms.{condition_of, conditions_of}
use Rattle.smt_jobs.specs.Walk.{first_by}
use Rattle.smt_jobs.proofs.Walking.{all_taken, gives_passes, not_taken_there, one_more_taken, read_one_more, read_none, taking_none}
use Rattle.smt_jobs.proofs.walk.take_terms.Goals as goal

pub loop-after-init : goal.loop-after-init
loop-after-init g c = record {
  read = read_none c.args.src.now c.args.depth;
  stated = λ ds has es end i. taking_none c.args.depth ds es c.args.src.now end _ i;
  taken = refl;
  shorter = omega arith;
}

pub returns-in-Some-clause-read : goal.returns-in-Some-clause-read
returns-in-Some-clause-read g c = (c.loop-after.rest.now, c.loop-after.invariant.read, c.in-Some.ensures.found)

pub returns-in-Some-clause-stated : goal.returns-in-Some-clause-stated
returns-in-Some-clause-stated g c ds has es end i =
    let t = c.loop-after.invariant.stated ds has es end i in
    let all = all_taken c.args.depth ds es end _ _ _ t c.in-Some.after.now c.in-Some.ensures.found in
    (all.0, all.1, (all.2, all.3))

pub returns-in_err-after-clause-stated : goal.returns-in_err-after-clause-stated
returns-in_err-after-clause-stated g c ds has es end i =
    let t = c.loop-after.invariant.stated ds has es end i in
    gives_passes (λ (rest : Bor (List ℕ)) (written : List PlainTerm). HasTokens rest.now end × (g.T.StepSink.begun c.take_term.new.out ≡ g.T.StepSink.begun c.args.out.now ++ map built written))
    c.from_residual.result c.in_err-after.field-0.0 (conditions_of ds es) (first_by (condition_of ds) t.left) c.from_residual.ensures.1 (c.in_err-after.ensures.stated ds has t.left end t.begins)
    (λ f none. not_taken_there c.args.depth ds es end _ _ _ t f none c.in_default.ensures.none)

pub loop-after-preserved : goal.loop-after-preserved
loop-after-preserved g c = (let before = c.loop-after.invariant.shorter in let less = c.in_ok-after.ensures.shorter in record {
  read = read_one_more c.args.src.now c.loop-after.rest.now c.in_ok-after.after.now c.args.depth c.loop-after.invariant.read c.in_ok-after.ensures.read;
  stated = λ ds has es end i. (
      let t = c.loop-after.invariant.stated ds has es end i in
      let first = c.in_ok-after.ensures.stated ds has t.left end t.begins in
      one_more_taken c.args.depth ds es end _ _ _ t first.0 c.in_ok-after.after.now _ first.1 first.2.1 first.2.0
      );
  taken = c.in_ok-after.ensures.taken ∙ c.loop-after.invariant.taken;
  shorter = omega arith;
})
