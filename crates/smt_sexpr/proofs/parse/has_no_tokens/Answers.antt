use Rattle.std.proofs.Common.{subst, sym}
use Rattle.smt_sexpr.specs.OpenLists.{IsScanned}
use Rattle.smt_sexpr.specs.View.{lexeme_tokens}
use Rattle.smt_sexpr.proofs.Cuts.{scanned_more, shorter}
use Rattle.smt_sexpr.proofs.parse.has_no_tokens.Goals as goal

pub loop-rest-smaller : goal.loop-rest-smaller
loop-rest-smaller c = shorter (lexeme_tokens c.in-Ok.lexeme) c.loop-rest.rest.now c.in-Ok.after.now c.in-Ok.ensures.found

pub loop-rest-preserved : goal.loop-rest-preserved
loop-rest-preserved c =
    subst (λ v. IsScanned v c.args.src.now c.in-Ok.after.now) (sym c.both-blank.ensures)
    (scanned_more c.loop-rest.blank c.was_blank.result c.args.src.now c.loop-rest.rest.now c.in-Ok.after.now (lexeme_tokens c.in-Ok.lexeme) c.loop-rest.invariant c.in-Ok.ensures.found c.was_blank.ensures.blank c.was_blank.ensures.token)
