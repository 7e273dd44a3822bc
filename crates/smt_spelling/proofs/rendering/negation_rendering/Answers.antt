use Rattle.std.proofs.Common.{◌≡◌, suc, length, map, sym, ap, ◌∙◌}
use Rattle.std.proofs.lemmas.List.{length-map}
use Rattle.law_terms.specs.Plain.{terms}
use Rattle.law_terms.specs.Meanings.{meanings}
use Rattle.law_terms.specs.Nodes.{TypeMeaning, TermMeaning}
use Rattle.law_lines.specs.Lines as lines
use Rattle.smt_spelling.specs.NodeEntries.{Rendered}
use Rattle.smt_nodes.specs.Interned.{nodes_of}
use Rattle.smt_nodes.specs.View.{place_of, places_of}
use Rattle.smt_spelling.proofs.Rendered.{found_length, no_truth, not_one, of_truth, first_found, two_found}
use Rattle.smt_spelling.proofs.rendering.negation_rendering.Goals as goal

pub returns-then-parts-ne2 : goal.returns-then-parts-ne2
returns-then-parts-ne2 c type ts found = not_one ts type (λ one.
    let e : suc (length (map TermMeaning ts)) ≡ length (places_of c.args.parts.now) = found_length (meanings (nodes_of c.args.nodes.now)) (places_of c.args.parts.now) _ found in
    c.if-parts-ne2.true (sym (length-map c.args.parts.now place_of) ∙ sym e ∙ ap suc (length-map ts TermMeaning ∙ one)))

pub returns-then-is_truth : goal.returns-then-is_truth
returns-then-is_truth c type ts found =
    let (u, is, first, second) = two_found (meanings (nodes_of c.args.nodes.now)) c.args.parts.now _ (TypeMeaning type) ts c.if-parts-ne2.false found in
    c.least_rendering.ensures u second ∙ sym (ap (λ l. Rendered (lines.negation_rendering (terms l) type)) is ∙ of_truth u type (sym (c.is_truth.ensures type first) ∙ c.if-is_truth.true))

pub returns-else-is_truth : goal.returns-else-is_truth
returns-else-is_truth c type ts found = no_truth ts type (sym (c.is_truth.ensures type (first_found (meanings (nodes_of c.args.nodes.now)) c.args.parts.now _ (TypeMeaning type) (map TermMeaning ts) found)) ∙ c.if-is_truth.false)
