use Rattle.std.proofs.Common.{map, ◌∙◌}
use Rattle.smt_values.specs.View.{plain_stored}
use Rattle.smt_values.specs.TypeView.{plain_cedar}
use Rattle.law_cedar.specs.Tables as stated
use Rattle.smt_symbolizer.proofs.Walked.{all_joined, joined_mapped, joined_refused}
use Rattle.smt_term.specs.Tables.{plain_entry}
use Rattle.smt_values.proofs.Faults.{passes_on}
use Rattle.smt_symbolizer.proofs.entries.all_tag_entries.Goals as goal

pub returns-in_err-own : goal.returns-in_err-own
returns-in_err-own c =
    let f = stated.tag_entries (plain_cedar c.args.ty.now) in
    passes_on _ c.from_residual.result c.in_err-own.field-0.0 _ _ c.from_residual.ensures.1 c.in_err-own.ensures
    (λ fault h. joined_mapped f (λ entity. plain_stored entity.now) c.args.stored.now
    ∙ joined_refused (λ entity. f (plain_stored entity.now)) (map plain_entry c.loop-entity.pairs.items) c.args.stored.now c.loop-entity.entity-index c.entity-item.result c.loop-entity.invariant c.loop-entity-test.true c.entity-item.is fault h)

pub returns : goal.returns
returns c =
    let f = stated.tag_entries (plain_cedar c.args.ty.now) in
    joined_mapped f (λ entity. plain_stored entity.now) c.args.stored.now
    ∙ all_joined (λ entity. f (plain_stored entity.now)) (map plain_entry c.loop-entity.pairs.items) c.args.stored.now c.loop-entity.entity-index c.loop-entity-test.false c.loop-entity.invariant
