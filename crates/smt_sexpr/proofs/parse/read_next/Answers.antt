use Rattle.std.proofs.Common.{sym, arith}
use Rattle.law_texts.specs.Reading.{brackets}
use Rattle.law_texts.proofs.Blanks.{empty_from}
use Rattle.smt_sexpr.specs.View.{lexeme_tokens, lists_in, plain}
use Rattle.smt_sexpr.proofs.Cuts.{no_longer, shorter}
use Rattle.smt_sexpr.proofs.Texts.{bracket_refused, no_token_at, not_unended, one_piece, only_memory, opened_more, spanned, unended}
use Rattle.smt_sexpr.proofs.TokenLists.{atomic}
use Rattle.smt_sexpr.proofs.parse.read_next.Goals as goal

pub step-requires-clause-atomic : goal.step-requires-clause-atomic
step-requires-clause-atomic c = atomic c.in-Ok.lexeme c.loop-rest.rest.now c.in-Ok.after.now c.in-Ok.ensures.found

pub loop-rest-smaller : goal.loop-rest-smaller
loop-rest-smaller c = shorter (lexeme_tokens c.in-Ok.lexeme) c.loop-rest.rest.now c.in-Ok.after.now c.in-Ok.ensures.found

pub loop-rest-preserved : goal.loop-rest-preserved
loop-rest-preserved c =
    opened_more c.args.src.now c.loop-rest.rest.now c.in-Ok.after.now c.args.max_depth (lists_in c.loop-rest.lists.items) (lists_in c.step.new.lists.items) (lexeme_tokens c.in-Ok.lexeme) c.loop-rest.invariant c.in-Ok.ensures.found
    (rw c.in-Ok-None.field-0-is at c.in-Ok-None.ensures.next)

pub returns-in-Ok-Some-clause-found : goal.returns-in-Ok-Some-clause-found
returns-in-Ok-Some-clause-found c =
    let n = rw c.in-Ok-Some.field-0-is at c.in-Ok-Some.ensures.next in
    let r = one_piece c.args.src.now c.loop-rest.rest.now c.in-Ok.after.now c.args.max_depth (lists_in c.loop-rest.lists.items) (lexeme_tokens c.in-Ok.lexeme) c.loop-rest.invariant c.in-Ok.ensures.found in
    spanned c.args.src.now c.in-Ok.after.now _ (brackets (plain c.in-Ok-Some.whole)) r n.0

pub returns-in-Ok-Some-clause-shallow : goal.returns-in-Ok-Some-clause-shallow
returns-in-Ok-Some-clause-shallow c = (rw c.in-Ok-Some.field-0-is at c.in-Ok-Some.ensures.next).1

pub returns-in-Ok-Some-clause-shorter : goal.returns-in-Ok-Some-clause-shorter
returns-in-Ok-Some-clause-shorter c =
    let s = shorter (lexeme_tokens c.in-Ok.lexeme) c.loop-rest.rest.now c.in-Ok.after.now c.in-Ok.ensures.found in
    let n = no_longer c.loop-rest.invariant.pieces c.args.src.now c.loop-rest.rest.now c.loop-rest.invariant.cut in
    omega arith

pub returns-in-Err-step-clause-refused : goal.returns-in-Err-step-clause-refused
returns-in-Err-step-clause-refused c =
    let r = one_piece c.args.src.now c.loop-rest.rest.now c.in-Ok.after.now c.args.max_depth (lists_in c.loop-rest.lists.items) (lexeme_tokens c.in-Ok.lexeme) c.loop-rest.invariant c.in-Ok.ensures.found in
    bracket_refused c.args.src.now c.in-Ok.after.now c.args.max_depth _ c.in-Err-step.fault c.refused.result r c.in-Err-step.ensures.fault c.refused.ensures

pub returns-in-Err-step-clause-complete : goal.returns-in-Err-step-clause-complete
returns-in-Err-step-clause-complete c = λ e ts h n.
    let r = one_piece c.args.src.now c.loop-rest.rest.now c.in-Ok.after.now c.args.max_depth (lists_in c.loop-rest.lists.items) (lexeme_tokens c.in-Ok.lexeme) c.loop-rest.invariant c.in-Ok.ensures.found in
    only_memory c.in-Err-step.fault c.refused.result c.args.max_depth c.args.src.now c.in-Ok.after.now _ ts e h n r c.in-Err-step.ensures.fault c.refused.ensures

pub returns-in-Err-clause-complete : goal.returns-in-Err-clause-complete
returns-in-Err-clause-complete c = λ e ts h n. no_token_at c.in-Err.fault c.args.max_depth c.args.src.now c.loop-rest.rest.now (lists_in c.loop-rest.lists.items) _ h c.loop-rest.invariant c.in-Err.ensures.fault

pub returns-clause-refused : goal.returns-clause-refused
returns-clause-refused c =
    unended c.args.src.now c.loop-rest.rest.now c.args.max_depth (lists_in c.loop-rest.lists.items) c.loop-rest.invariant (empty_from c.loop-rest.rest.now (sym c.loop-rest-test.ensures))

pub returns-clause-complete : goal.returns-clause-complete
returns-clause-complete c = λ e ts h n.
    absurd (not_unended c.args.src.now c.loop-rest.rest.now c.args.max_depth (lists_in c.loop-rest.lists.items) e ts h n c.loop-rest.invariant (empty_from c.loop-rest.rest.now (sym c.loop-rest-test.ensures)))
