use Rattle.std.proofs.Common.{sym, ◌∙◌}
use Rattle.law_texts.specs.SharedTexts.{texts}
use Rattle.law_terms.specs.Meanings.{meanings}
use Rattle.smt_nodes.specs.Interned.{nodes_of}
use Rattle.smt_nodes.proofs.RecordFitting.{record_type_then, record_type_uneven, record_type_unordered, texts_count}
use Rattle.smt_nodes.proofs.interner.Interner.fits_record_type.Goals as goal

pub returns-then-names-parts : goal.returns-then-names-parts
returns-then-names-parts c = record_type_uneven (meanings (nodes_of c.args.self.now)) (texts c.args.names.now) c.args.parts.now (λ h. c.if-names-parts.true (sym (texts_count c.args.names.now) ∙ h))

pub returns-then-are_in_order : goal.returns-then-are_in_order
returns-then-are_in_order c =
    c.are_types.ensures ∙ record_type_then (meanings (nodes_of c.args.self.now)) (texts c.args.names.now) c.args.parts.now (texts_count c.args.names.now ∙ c.if-names-parts.false) (sym c.are_in_order.ensures ∙ c.if-are_in_order.true)

pub returns-else-are_in_order : goal.returns-else-are_in_order
returns-else-are_in_order c =
    c.if-are_in_order.false ∙ record_type_unordered (meanings (nodes_of c.args.self.now)) (texts c.args.names.now) c.args.parts.now (sym c.are_in_order.ensures ∙ c.if-are_in_order.false)
