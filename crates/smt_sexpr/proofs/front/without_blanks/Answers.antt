use Rattle.std.proofs.Common.{◌≤◌, ◌<◌, ap, arith, length, subst, sym}
use Rattle.law_texts.specs.Tokens.{Spans}
use Rattle.law_texts.proofs.Blanks.{length-skip_space}
use Rattle.smt_sexpr.proofs.Fronts.{blank_more, no_blank, skipped}
use Rattle.smt_sexpr.proofs.front.without_blanks.Goals as goal

pub loop-after-init : goal.loop-after-init
loop-after-init c = (
  subst (Spans c.args.src.now _) (sym c.without_space-rest.ensures) (skipped c.args.src.now),
  (c.args.src.now, c.without_space-rest.ensures),
  (let l = length-skip_space c.args.src.now in let e = ap length c.without_space-rest.ensures in omega arith),
)

pub loop-after-smaller : goal.loop-after-smaller
loop-after-smaller c =
    let l = length-skip_space c.in-Some.after.now in
    let e = ap length c.without_space-rest-in-Some.ensures in
    let s : length c.in-Some.after.now < length c.loop-after.rest.now = c.in-Some.ensures.shorter in
    let all : length c.without_space-rest-in-Some.result.now < length c.loop-after.rest.now = omega arith in
    all

pub loop-after-preserved : goal.loop-after-preserved
loop-after-preserved c = (
  blank_more c.args.src.now c.loop-after.rest.now c.without_space-rest-in-Some.result.now c.loop-after.invariant.0
      (blank_more c.loop-after.rest.now c.in-Some.after.now c.without_space-rest-in-Some.result.now c.in-Some.ensures.found (subst (Spans c.in-Some.after.now _) (sym c.without_space-rest-in-Some.ensures) (skipped c.in-Some.after.now))),
  (c.in-Some.after.now, c.without_space-rest-in-Some.ensures),
  (let l = length-skip_space c.in-Some.after.now in
      let e = ap length c.without_space-rest-in-Some.ensures in
      let s : length c.in-Some.after.now < length c.loop-after.rest.now = c.in-Some.ensures.shorter in
      let b : length c.loop-after.rest.now ≤ length c.args.src.now = c.loop-after.invariant.2 in
      omega arith),
)

pub returns-clause-first : goal.returns-clause-first
returns-clause-first c = no_blank c.loop-after.invariant.1.0 c.loop-after.rest.now c.loop-after.invariant.1.1 c.in_default.ensures.none
