use Rattle.std.proofs.Common.{sym, ◌∙◌, w64, FitsSigned}
use Rattle.std.proofs.lemmas.Int.{to_z-of_z}
use Rattle.smt_ext.proofs.Durations.{duration_is}
use Rattle.smt_ext.proofs.datetime.span.value_of.Goals as goal

pub returns-in-Some-clause-value : goal.returns-in-Some-clause-value
returns-in-Some-clause-value c =
    let s = c.in-Some.ensures in
    let fits : FitsSigned w64 c.in-Some.milliseconds = (let e = s.1 in rw e s.0) in
    duration_is c.args.text.now _ _ c.in_ok-total.total _ c.split_minus-negative.ensures (sym c.if-is_empty.ensures) c.in_ok-total.ensures.sum s.0 (to_z-of_z w64 c.in-Some.milliseconds fits ∙ s.1)
