use Rattle.smt_solve.proofs.AnswerLemmas.{strips, rest_from}
use Rattle.smt_solve.proofs.answer.strip.Goals as goal

pub returns : goal.returns
returns c =
    let line = c.args.line.now in
    let n = c.blanks_in_front.result in
    strips line _ n _ (rest_from line n) c.blanks_in_front.ensures.within c.blanks_in_front.ensures.blanks c.blanks_in_front.ensures.stops c.blanks_at_end.ensures.within c.blanks_at_end.ensures.blanks c.blanks_at_end.ensures.stops
