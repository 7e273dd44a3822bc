use Rattle.std.proofs.Common.{map}
use Rattle.smt_values.specs.View.{entry_named, plain_stored}
use Rattle.smt_term.specs.Enums.{enums_of}
use Rattle.law_cedar.specs.Symbolized.{typed_data}
use Rattle.smt_symbolizer.proofs.Walked.{mapped_done, mapped_more, mapped_refused}
use Rattle.smt_symbolizer.specs.Named.{said}
use Rattle.smt_symbolizer.specs.EntityView.{plain_data}
use Rattle.smt_values.proofs.Faults.{passes_on}
use Rattle.smt_values.specs.DefaultTerm.{default_term}
use Rattle.smt_symbolizer.proofs.entities.all_typed_data.Goals as goal

pub returns-in_err-typed_data : goal.returns-in_err-typed_data
returns-in_err-typed_data c =
    passes_on _ c.from_residual.result c.in_err-typed_data.field-0.0 _ _ c.from_residual.ensures.1 c.in_err-typed_data.ensures
    (mapped_refused (typed_data (default_term (enums_of c.args.enums.now)) (map plain_stored c.args.entities.now)) (λ entry. entry_named entry.now) (map (said plain_data) c.loop-entry.pairs.items) c.args.types.now c.loop-entry.entry-index c.loop-entry.invariant c.entry-item.result c.loop-entry-test.true c.entry-item.is)

pub loop-entry-preserved : goal.loop-entry-preserved
loop-entry-preserved c =
    mapped_more (typed_data (default_term (enums_of c.args.enums.now)) (map plain_stored c.args.entities.now)) (λ entry. entry_named entry.now) (said plain_data) c.loop-entry.pairs.items c.args.types.now c.loop-entry.entry-index c.loop-entry.invariant c.entry-item.result c.loop-entry-test.true c.entry-item.is
    c.in_ok-typed_data.field-0 c.push.new.self.items c.in_ok-typed_data.ensures c.in_ok-push.ensures.items

pub returns : goal.returns
returns c =
    mapped_done (typed_data (default_term (enums_of c.args.enums.now)) (map plain_stored c.args.entities.now)) (λ entry. entry_named entry.now) (map (said plain_data) c.loop-entry.pairs.items) c.args.types.now c.loop-entry.entry-index c.loop-entry.invariant c.loop-entry-test.false
