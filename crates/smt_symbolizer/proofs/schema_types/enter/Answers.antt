use Rattle.std.proofs.Common.{ap, ◌∙◌}
use Rattle.smt_term.specs.Entities.{bytes_of_type}
use Rattle.smt_term.specs.Enums.{enums_of}
use Rattle.smt_term.specs.TextSets.{sorted_texts, texts_of}
use Rattle.law_terms.specs.ValueOrder.{text_cmp}
use Rattle.smt_symbolizer.proofs.Entered.{entered_as}
use Rattle.smt_term.proofs.InOrder.{in_order}
use Rattle.smt_symbolizer.proofs.schema_types.enter.Goals as goal

pub returns : goal.returns
returns c t =
    entered_as _ (bytes_of_type c.args.ety.now) _ (texts_of c.args.members.now) (enums_of c.args.table.now) (enums_of c.insert.new.self) c.in_ok-share.ensures
    (ap sorted_texts c.items.ensures ∙ in_order text_cmp (texts_of c.args.members.now) c.args.members.now.ascending)
    c.in_ok-insert.field-0 c.in_ok-insert.ensures.added c.in_ok-insert.ensures.entered c.in_ok-insert.ensures.kept t
