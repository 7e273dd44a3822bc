use Rattle.std.proofs.Common.{[], ◌∷◌, ◌+◌, ◌∙◌, ap, arith, length, map, rules, subst, sym, tests}
use Rattle.std.specs.Prelude.{◌==◌}
use Rattle.std.proofs.lemmas.Iterator.Consumers.{YieldsList-end, YieldsList-so_far, YieldsList-turn}
use Rattle.std.proofs.lemmas.Iterator.Splits.{YieldsList-from_slice_split}
use Rattle.std.proofs.lemmas.List.Splits.{length-slice_split}
use Rattle.std.proofs.lemmas.List.{length-map, map-append, length_push}
use Rattle.smt_dimacs.specs.Faults.{HasCause}
use Rattle.smt_dimacs.specs.Read.{HasBegun, HasRead}
use Rattle.smt_dimacs.specs.Words.{worded}
use Rattle.smt_dimacs.proofs.Complete.{result_complete}
use Rattle.smt_dimacs.proofs.Reading.{begun_more, carried, in_body, in_problem, result_found, result_refused}
use Rattle.smt_dimacs.proofs.formula.read_formula.Goals as goal

pub returns-in_err-problem-in-None-problem-clause-refused :
    goal.returns-in_err-problem-in-None-problem-clause-refused
returns-in_err-problem-in-None-problem-clause-refused c =
    let road = YieldsList-from_slice_split _ (λ b. b == 10) c.args.text.now (cc) (cc) (cc) (λ x b q k. search (rules, tests)) in
    let turn = YieldsList-turn road c.loop-line.yielded _ c.loop-line.yielded_by _ _ c.in-Some.line c.in-Some.is c.next.ensures.steps in
    let so_far = YieldsList-so_far road c.loop-line.yielded _ c.loop-line.yielded_by in
    carried (HasCause c.args.text.now) _ _ c.from_residual.ensures.1
    (in_problem c.args.text.now (map (λ line. line.now) c.loop-line.yielded) c.in-Some.line.now (length c.loop-line.yielded) (c.loop-line.number + 1) so_far turn
    (ap (λ n. n + 1) (c.loop-line.invariant.numbered ∙ sym (length-map c.loop-line.yielded (λ line. line.now)))) c.loop-line.body _ (search rules) c.in_err-problem-in-None-problem.ensures.err)

pub loop-line-preserved : goal.loop-line-preserved
loop-line-preserved c = record {
  numbered = omega (arith, c.loop-line.invariant.numbered, length_push c.loop-line.yielded c.in-Some.line);
  read =
      let read = subst (λ p. HasRead p c.loop-line.body (worded (map (λ line. line.now) c.loop-line.yielded))) c.in-Some-problem.is c.loop-line.invariant.read in
      subst (λ ls. HasBegun c.in-Some-problem.known c.take_line.new.self (worded ls)) (sym (map-append (λ line. line.now) c.loop-line.yielded (c.in-Some.line ∷ [])))
      (begun_more c.in-Some-problem.known (map (λ line. line.now) c.loop-line.yielded) c.in-Some.line.now c.loop-line.body c.take_line.new.self read c.in_ok-take_line-in-Some-problem.ensures.ok);
}

pub returns-in_err-take_line-in-Some-problem-clause-refused :
    goal.returns-in_err-take_line-in-Some-problem-clause-refused
returns-in_err-take_line-in-Some-problem-clause-refused c =
    let road = YieldsList-from_slice_split _ (λ b. b == 10) c.args.text.now (cc) (cc) (cc) (λ x b q k. search (rules, tests)) in
    let turn = YieldsList-turn road c.loop-line.yielded _ c.loop-line.yielded_by _ _ c.in-Some.line c.in-Some.is c.next.ensures.steps in
    let so_far = YieldsList-so_far road c.loop-line.yielded _ c.loop-line.yielded_by in
    let read = subst (λ p. HasRead p c.loop-line.body (worded (map (λ line. line.now) c.loop-line.yielded))) c.in-Some-problem.is c.loop-line.invariant.read in
    carried (HasCause c.args.text.now) _ _ c.from_residual-in_err-take_line-in-Some-problem.ensures.1
    (in_body c.args.text.now (map (λ line. line.now) c.loop-line.yielded) c.in-Some.line.now (length c.loop-line.yielded) (c.loop-line.number + 1) so_far turn
    (ap (λ n. n + 1) (c.loop-line.invariant.numbered ∙ sym (length-map c.loop-line.yielded (λ line. line.now)))) c.in-Some-problem.known c.loop-line.body _ read c.in_err-take_line-in-Some-problem.ensures.err)

pub returns-clause-found : goal.returns-clause-found
returns-clause-found c =
    let road = YieldsList-from_slice_split _ (λ b. b == 10) c.args.text.now (cc) (cc) (cc) (λ x b q k. search (rules, tests)) in
    let end = YieldsList-end road c.loop-line.yielded _ c.loop-line.yielded_by _ _ c.in-None.is c.next.ensures.steps in
    result_found c.args.text.now c.loop-line.problem c.loop-line.body (map (λ line. line.now) c.loop-line.yielded) end.0 c.loop-line.invariant.read c.finish.result c.finish.ensures.ok

pub returns-clause-refused : goal.returns-clause-refused
returns-clause-refused c =
    let road = YieldsList-from_slice_split _ (λ b. b == 10) c.args.text.now (cc) (cc) (cc) (λ x b q k. search (rules, tests)) in
    let end = YieldsList-end road c.loop-line.yielded _ c.loop-line.yielded_by _ _ c.in-None.is c.next.ensures.steps in
    result_refused c.args.text.now c.loop-line.problem c.loop-line.body (map (λ line. line.now) c.loop-line.yielded) end.0 c.loop-line.invariant.read c.finish.result c.loop-line.number
    (c.loop-line.invariant.numbered ∙ sym (length-map c.loop-line.yielded (λ line. line.now))) (omega (arith, length-slice_split (λ b. b == 10) c.args.text.now)) c.finish.ensures.err

pub returns-in_err-problem-in-None-problem-clause-complete :
    goal.returns-in_err-problem-in-None-problem-clause-complete
returns-in_err-problem-in-None-problem-clause-complete c =
    result_complete c.args.text.now _ (returns-in_err-problem-in-None-problem-clause-refused c)

pub returns-in_err-take_line-in-Some-problem-clause-complete :
    goal.returns-in_err-take_line-in-Some-problem-clause-complete
returns-in_err-take_line-in-Some-problem-clause-complete c =
    result_complete c.args.text.now _ (returns-in_err-take_line-in-Some-problem-clause-refused c)

pub returns-clause-complete : goal.returns-clause-complete
returns-clause-complete c = result_complete c.args.text.now _ (returns-clause-refused c)
