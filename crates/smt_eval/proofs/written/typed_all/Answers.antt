use Rattle.std.proofs.Common.{map, ap, ◌∙◌}
use Rattle.std.proofs.lemmas.List.{map-append}
use Rattle.law_assignments.specs.Written.{get_written}
use Rattle.smt_eval.specs.WrittenView.{plain_typed}
use Rattle.smt_eval.proofs.InputReading.{one_more, passes_on, there, unread_fault}
use Rattle.smt_eval.proofs.written.typed_all.Goals as goal

pub returns-in_err-typed : goal.returns-in_err-typed
returns-in_err-typed c =
    passes_on _ c.from_residual.result c.in_err-typed.field-0.0 _ _ c.from_residual.ensures.1 c.in_err-typed.ensures
    (unread_fault get_written _ c.args.entries.now c.loop-entry.entry-index c.entry-item.result c.loop-entry.invariant c.loop-entry-test.true c.entry-item.is)

pub loop-entry-preserved : goal.loop-entry-preserved
loop-entry-preserved c =
    one_more get_written _ c.args.entries.now c.loop-entry.entry-index c.entry-item.result c.loop-entry.invariant c.loop-entry-test.true c.entry-item.is (plain_typed c.in_ok-typed.typed) _
    (there _ _ c.in_ok-typed.ensures) (ap (map plain_typed) c.in_ok-push.ensures.items ∙ map-append plain_typed _ _)
