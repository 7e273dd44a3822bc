use Rattle.std.proofs.Common.{Some, sym, ap, ◌∙◌}
use Rattle.law_terms.specs.Meanings.{all_found, meanings}
use Rattle.smt_nodes.specs.Interned.{nodes_of}
use Rattle.smt_nodes.specs.View.{places_of}
use Rattle.smt_spelling.specs.NodeEntries.{is_call_label, is_negation_label}
use Rattle.smt_spelling.proofs.Rendered.{called, negation, no_negation}
use Rattle.smt_spelling.proofs.rendering.rendering_of.Goals as goal

pub returns-then-is_negation_test : goal.returns-then-is_negation_test
returns-then-is_negation_test c id m meant is =
    let (t, ts, parts, how) = negation m (ap is_negation_label (sym (is.label m meant)) ∙ sym c.is_negation_test.ensures ∙ c.if-is_negation_test.true) in
    c.negation_rendering.ensures t ts (ap (λ l. all_found (meanings (nodes_of c.args.nodes.now)) (places_of l)) c.items.ensures ∙ is.parts m meant ∙ ap Some parts) ∙ sym how

pub returns-then-is_call : goal.returns-then-is_call
returns-then-is_call c id m meant is = called m (ap is_call_label (sym (is.label m meant)) ∙ sym c.is_call.ensures ∙ c.if-is_call.true)

pub returns-else-is_call : goal.returns-else-is_call
returns-else-is_call c id m meant is =
    no_negation m (ap is_negation_label (sym (is.label m meant)) ∙ sym c.is_negation_test.ensures ∙ c.if-is_negation_test.false) (ap is_call_label (sym (is.label m meant)) ∙ sym c.is_call.ensures ∙ c.if-is_call.false)
