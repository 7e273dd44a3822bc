use Rattle.std.proofs.Common.{map, sym, ap, ◌∙◌}
use Rattle.smt_values.specs.TypeView.{plain_cedar}
use Rattle.smt_values.specs.ValueView.{known_field}
use Rattle.smt_term.specs.Entities.{texts_of_entity}
use Rattle.law_cedar.specs.Tables as stated
use Rattle.smt_symbolizer.proofs.Walked.{mapped_done, mapped_more, mapped_refused}
use Rattle.smt_term.specs.Tables.{plain_entry}
use Rattle.smt_values.proofs.Faults.{passes_on}
use Rattle.smt_values.specs.Outcomes.{each}
use Rattle.smt_symbolizer.proofs.entries.tag_entries.Goals as goal

pub returns-in_err-tag_entry : goal.returns-in_err-tag_entry
returns-in_err-tag_entry c =
    let f = stated.tag_entry (plain_cedar c.args.ty.now) (texts_of_entity c.args.entity.now.uid) in
    passes_on _ c.from_residual.result c.in_err-tag_entry.field-0.0 _ _ c.from_residual.ensures.1 c.in_err-tag_entry.ensures
    (λ fault h. ap (each f) (sym c.items-name-items.ensures.named)
    ∙ mapped_refused f known_field (map plain_entry c.loop-name.pairs.items) c.items-name-items.result.now c.loop-name.name-index c.loop-name.invariant c.loop-name-item.result c.loop-name-test.true c.loop-name-item.is fault h)

pub loop-name-preserved : goal.loop-name-preserved
loop-name-preserved c =
    mapped_more (stated.tag_entry (plain_cedar c.args.ty.now) (texts_of_entity c.args.entity.now.uid)) known_field plain_entry c.loop-name.pairs.items c.items-name-items.result.now c.loop-name.name-index c.loop-name.invariant c.loop-name-item.result c.loop-name-test.true c.loop-name-item.is
    c.in_ok-tag_entry.field-0 c.push.new.self.items c.in_ok-tag_entry.ensures c.in_ok-push.ensures.items

pub returns : goal.returns
returns c =
    let f = stated.tag_entry (plain_cedar c.args.ty.now) (texts_of_entity c.args.entity.now.uid) in
    ap (each f) (sym c.items-name-items.ensures.named)
    ∙ mapped_done f known_field (map plain_entry c.loop-name.pairs.items) c.items-name-items.result.now c.loop-name.name-index c.loop-name.invariant c.loop-name-test.false
