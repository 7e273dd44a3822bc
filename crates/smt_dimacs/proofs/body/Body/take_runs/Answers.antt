use Rattle.std.proofs.Common.{◌++◌, filter, length, map, rules, subst, tests}
use Rattle.std.specs.Char.{is_ascii_whitespace}
use Rattle.std.specs.List.{slice_split}
use Rattle.std.proofs.lemmas.Iterator.Consumers.{YieldsList-end, YieldsList-so_far, YieldsList-turn}
use Rattle.std.proofs.lemmas.Iterator.Splits.{YieldsList-from_slice_split}
use Rattle.smt_dimacs.specs.Read.{HasBodyCause, HasTaken}
use Rattle.smt_dimacs.specs.Words.{has_some, runs_of}
use Rattle.smt_dimacs.proofs.Reading.{carried, word_there, word_within}
use Rattle.smt_dimacs.proofs.body.Body.take_runs.Goals as goal

pub returns-in_err-take_word-clause-err : goal.returns-in_err-take_word-clause-err
returns-in_err-take_word-clause-err c =
    let road = YieldsList-from_slice_split _ is_ascii_whitespace c.args.line.now (cc) (cc) (cc) (λ x b q k. search (rules, tests)) in
    let turn = YieldsList-turn road c.loop-run.yielded _ c.loop-run.yielded_by _ _ c.in-Some.run' c.in-Some.is c.next.ensures.steps in
    let so_far = YieldsList-so_far road c.loop-run.yielded _ c.loop-run.yielded_by in
    carried (HasBodyCause c.args.problem.variables (runs_of c.args.line.now) c.args.number) _ _ c.from_residual.ensures.1
    (word_within c.args.problem.variables c.args.number (runs_of c.args.line.now) _ _ c.in-Some.run'.now _
    (word_there (slice_split is_ascii_whitespace c.args.line.now) (map (λ run. run.now) c.loop-run.yielded) c.in-Some.run'.now (length c.loop-run.yielded) so_far turn (search (rules, tests)))
    c.in_err-take_word.ensures.err)

pub returns-clause-ok : goal.returns-clause-ok
returns-clause-ok c =
    let road = YieldsList-from_slice_split _ is_ascii_whitespace c.args.line.now (cc) (cc) (cc) (λ x b q k. search (rules, tests)) in
    let end = YieldsList-end road c.loop-run.yielded _ c.loop-run.yielded_by _ _ c.in-None.is c.next.ensures.steps in
    λ words taken. subst (λ runs. HasTaken c.args.problem.variables (words ++ filter has_some runs) c.loop-run.self) end.0 (c.loop-run.invariant words taken)
