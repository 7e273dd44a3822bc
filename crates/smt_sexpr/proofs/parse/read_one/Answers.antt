use Rattle.std.proofs.Common.{refl, sym, subst}
use Rattle.std.proofs.lemmas.Result.{IfOk-weaker, MatchResult-weaker}
use Rattle.law_texts.specs.Tokens.{IsReadWithin}
use Rattle.smt_sexpr.specs.View.{plain}
use Rattle.smt_sexpr.proofs.Texts.{reached, trailing, whole_read}
use Rattle.smt_sexpr.proofs.parse.read_one.Goals as goal

pub returns-in-Ok-clause-found : goal.returns-in-Ok-clause-found
returns-in-Ok-clause-found c =
    let r = reached c.args.src.now c.in-Ok.rest.now _ c.in-Ok.ensures.found in
    IfOk-weaker c.finish.result _ (λ e. IsReadWithin c.args.src.now c.args.max_depth (plain e))
    (λ e p. subst (λ v. IsReadWithin c.args.src.now c.args.max_depth (plain v)) (sym p.0) (whole_read c.args.src.now c.in-Ok.rest.now c.args.max_depth (plain c.in-Ok.expression) _ r refl c.in-Ok.ensures.shallow p.1))
    c.finish.ensures.found

pub returns-in-Ok-clause-refused : goal.returns-in-Ok-clause-refused
returns-in-Ok-clause-refused c =
    let r = reached c.args.src.now c.in-Ok.rest.now _ c.in-Ok.ensures.found in
    MatchResult-weaker c.finish.result c.finish.ensures.fault (λ e t. t) (λ e f. trailing c.args.src.now c.in-Ok.rest.now c.args.max_depth (plain c.in-Ok.expression) _ e r refl c.in-Ok.ensures.shallow f)
