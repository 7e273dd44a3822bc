use Rattle.std.proofs.Common.{map}
use Rattle.smt_values.specs.View.{plain_stored}
use Rattle.smt_values.specs.TypeView.{plain_cedar_attributes}
use Rattle.law_cedar.specs.Tables as stated
use Rattle.smt_symbolizer.proofs.Walked.{mapped_done, mapped_more, mapped_refused}
use Rattle.smt_term.specs.Tables.{plain_entry}
use Rattle.smt_values.proofs.Faults.{passes_on}
use Rattle.smt_symbolizer.proofs.entries.attributes_entries.Goals as goal

pub returns-in_err-attributes_entry : goal.returns-in_err-attributes_entry
returns-in_err-attributes_entry c =
    passes_on _ c.from_residual.result c.in_err-attributes_entry.field-0.0 _ _ c.from_residual.ensures.1 c.in_err-attributes_entry.ensures
    (mapped_refused (stated.attributes_entry (plain_cedar_attributes c.args.attrs.now)) (λ entity. plain_stored entity.now) (map plain_entry c.loop-entity.pairs.items) c.args.stored.now c.loop-entity.entity-index c.loop-entity.invariant c.entity-item.result c.loop-entity-test.true c.entity-item.is)

pub loop-entity-preserved : goal.loop-entity-preserved
loop-entity-preserved c =
    mapped_more (stated.attributes_entry (plain_cedar_attributes c.args.attrs.now)) (λ entity. plain_stored entity.now) plain_entry c.loop-entity.pairs.items c.args.stored.now c.loop-entity.entity-index c.loop-entity.invariant c.entity-item.result c.loop-entity-test.true c.entity-item.is
    c.in_ok-attributes_entry.field-0 c.push.new.self.items c.in_ok-attributes_entry.ensures c.in_ok-push.ensures.items

pub returns : goal.returns
returns c =
    mapped_done (stated.attributes_entry (plain_cedar_attributes c.args.attrs.now)) (λ entity. plain_stored entity.now) (map plain_entry c.loop-entity.pairs.items) c.args.stored.now c.loop-entity.entity-index c.loop-entity.invariant c.loop-entity-test.false
