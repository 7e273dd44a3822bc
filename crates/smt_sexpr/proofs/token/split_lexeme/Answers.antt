use Rattle.std.proofs.Common.{◌∷◌, ℕ, ◌∙◌, ap, sym, not}
use Rattle.law_texts.proofs.Runs.{run_at}
use Rattle.law_texts.specs.Lexicon.{is_line_end}
use Rattle.smt_sexpr.proofs.Atoms.{blank_stands, close_stands, comment_stands, open_stands}
use Rattle.smt_sexpr.proofs.token.split_lexeme.Goals as goal

pub returns-in-59-clause-found : goal.returns-in-59-clause-found
returns-in-59-clause-found c =
    let r = run_at (λ b. not (is_line_end b)) c.in-Some.inside.now c.split_at.result.0.now c.split_at.result.1.now c.comment_len.result c.comment_len.ensures c.split_at.ensures.front c.split_at.ensures.back in
    comment_stands c.args.src.now c.in-Some.inside.now c.split_at.result.0.now c.split_at.result.1.now (c.in-Some.ensures.cases.0 ∙ ap (λ (b : ℕ). b ∷ c.in-Some.inside.now) c.in-59.is) r

pub returns-in-40-clause-found : goal.returns-in-40-clause-found
returns-in-40-clause-found c = open_stands c.args.src.now c.in-Some.inside.now (c.in-Some.ensures.cases.0 ∙ ap (λ (b : ℕ). b ∷ c.in-Some.inside.now) c.in-40.is)

pub returns-in-41-clause-found : goal.returns-in-41-clause-found
returns-in-41-clause-found c = close_stands c.args.src.now c.in-Some.inside.now (c.in-Some.ensures.cases.0 ∙ ap (λ (b : ℕ). b ∷ c.in-Some.inside.now) c.in-41.is)

pub returns-then-is_white_space-clause-found : goal.returns-then-is_white_space-clause-found
returns-then-is_white_space-clause-found c =
    blank_stands c.args.src.now c.in-Some.inside.now c.in-Some.byte.now c.in-Some.ensures.cases.0 (sym c.if-is_white_space.ensures)
