use Rattle.std.proofs.Common.{[], ◌∷◌}
use Rattle.std.proofs.lemmas.Option.{IfSome_then}
use Rattle.law_texts.specs.Lexicon.{End}
use Rattle.law_texts.proofs.Spans.{joined}
use Rattle.smt_sexpr.proofs.Fronts.{close_span, no_close, where_none}
use Rattle.smt_sexpr.proofs.front.behind_close.Goals as goal

pub returns-clause-found : goal.returns-clause-found
returns-clause-found c =
    IfSome_then c.behind.result c.behind.ensures.found
    (λ rest e. joined c.args.src.now c.without_blanks.result.now rest.now [] (End ∷ []) c.without_blanks.ensures.blank (close_span c.without_blanks.result.now rest.now e))

pub returns-clause-none : goal.returns-clause-none
returns-clause-none c =
    where_none c.behind.result c.behind.ensures.none (λ none ts h. no_close c.args.src.now c.without_blanks.result.now ts c.without_blanks.ensures.blank c.without_blanks.ensures.first none h)
