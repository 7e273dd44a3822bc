use Rattle.std.proofs.Common.{not}
use Rattle.law_texts.proofs.Runs.{run_at}
use Rattle.law_texts.specs.Lexicon.{is_line_end}
use Rattle.smt_sexpr.proofs.Atoms.{comment_stands}
use Rattle.smt_sexpr.proofs.Fronts.{one_span}
use Rattle.smt_sexpr.proofs.front.behind_comment.Goals as goal

pub returns-clause-found : goal.returns-clause-found
returns-clause-found c =
    let r = run_at (λ b. not (is_line_end b)) c.in_ok-text.text.now c.split_at.result.0.now c.split_at.result.1.now c.comment_len.result c.comment_len.ensures c.split_at.ensures.front c.split_at.ensures.back in
    one_span c.args.src.now c.split_at.result.1.now _ (comment_stands c.args.src.now c.in_ok-text.text.now c.split_at.result.0.now c.split_at.result.1.now c.in_ok-text.ensures.found r)
