use Rattle.std.proofs.Common.{sym, ap, ◌∙◌}
use Rattle.std.specs.Rc.{rc_str_bytes}
use Rattle.smt_values.proofs.Fields.{found, found_here, found_later, nothing_found}
use Rattle.smt_values.proofs.from_cedar.field_named.Goals as goal

pub returns-then-eq : goal.returns-then-eq
returns-then-eq c =
    found_here (rc_str_bytes c.args.name.now) c.items-other-items.result.now c.loop-other.other-index c.loop-other.invariant c.loop-other-item.result c.loop-other-test.true c.loop-other-item.is (sym c.eq.ensures ∙ c.if-eq.true)
    ∙ ap (found (rc_str_bytes c.args.name.now)) c.items-other-items.ensures.same

pub loop-other-preserved : goal.loop-other-preserved
loop-other-preserved c =
    found_later (rc_str_bytes c.args.name.now) c.items-other-items.result.now c.loop-other.other-index c.loop-other.invariant c.loop-other-item.result c.loop-other-test.true c.loop-other-item.is (sym c.eq.ensures ∙ c.if-eq.false)

pub returns : goal.returns
returns c =
    nothing_found (rc_str_bytes c.args.name.now) c.items-other-items.result.now c.loop-other.other-index c.loop-other.invariant c.loop-other-test.false
    ∙ ap (found (rc_str_bytes c.args.name.now)) c.items-other-items.ensures.same
