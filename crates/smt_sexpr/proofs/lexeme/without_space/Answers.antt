use Rattle.std.proofs.Common.{sym, ap, ◌∙◌, drop}
use Rattle.law_texts.proofs.Blanks.{skip_space_is}
use Rattle.smt_sexpr.proofs.lexeme.without_space.Goals as goal

pub returns-then-begins_space : goal.returns-then-begins_space
returns-then-begins_space c = c.split_at.ensures.back ∙ ap (λ n. drop n c.args.src.now) c.space_len.ensures ∙ sym (skip_space_is c.args.src.now)
