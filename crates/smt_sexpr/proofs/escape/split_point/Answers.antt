use Rattle.std.proofs.Common.{◌∙◌, ap, arith, drop, length, length-drop}
use Rattle.smt_sexpr.proofs.Decoding.{escape_first}
use Rattle.smt_sexpr.proofs.escape.split_point.Goals as goal

pub returns-in-Some-clause-found : goal.returns-in-Some-clause-found
returns-in-Some-clause-found c =
    escape_first c.args.text.now c.in_ok-byte.rest.now c.without.result.now c.in_ok-byte.byte.now c.in-Some.point c.in-Some.len c.in_ok-byte.ensures.cases.0 c.in-Some.ensures
    (c.without.ensures ∙ ap (λ n. drop n c.in_ok-byte.rest.now) c.saturating_sub.ensures)

pub returns-in-Some-clause-shorter : goal.returns-in-Some-clause-shorter
returns-in-Some-clause-shorter c =
    let l = c.in_ok-byte.ensures.cases.1 in
    let e = ap length c.without.ensures ∙ length-drop c.saturating_sub.result c.in_ok-byte.rest.now in
    omega arith
