use Rattle.std.proofs.Common.{◌≡◌, None, ap, sym, subst, ◌∙◌}
use Rattle.std.specs.Prelude.{option_map}
use Rattle.law_terms.specs.Nodes.{PlainLabel, TermMeaning}
use Rattle.law_terms.specs.Parts.{label_in}
use Rattle.smt_nodes.specs.View.{plain_label}
use Rattle.smt_spelling.specs.NodeEntries.{head_in, selection_fault}
use Rattle.smt_spelling.specs.Names.{nodes_under}
use Rattle.smt_spelling.specs.Selections.{selected_by, IsHead}
use Rattle.smt_spelling.proofs.Selecting.{selector_handed, taken, taken_head, unselected, unselected_head}
use Rattle.smt_spelling.proofs.names.Names.selector_of.Goals as goal

pub returns-in_default-clause-head : goal.returns-in_default-clause-head
returns-in_default-clause-head g c id t s is_node meant are =
    let label = is_node.label (TermMeaning t) meant in
    let no : selected_by (label_in (TermMeaning t)) ≡ None = ap selected_by (sym label) ∙ (sym c.selected_by.ensures ∙ ap (option_map _) c.in_default.is) in
    subst (λ (l : PlainLabel). IsHead l None (head_in t s)) (sym label) (unselected_head t s no)

pub returns-in_default-clause-fault : goal.returns-in_default-clause-fault
returns-in_default-clause-fault g c id m is_node meant =
    unselected m (ap selected_by (sym (is_node.label m meant)) ∙ (sym c.selected_by.ensures ∙ ap (option_map _) c.in_default.is))

pub selector_behind-requires : goal.selector_behind-requires
selector_behind-requires g c =
    let (id, is_node, some) = c.requires.meant in
    let (m, meant) = some in
    let (t, ts, is, parts) = taken (nodes_under c.args.self.now) id c.args.node.now c.items.result.now m _ is_node meant c.items.ensures (sym c.selected_by.ensures ∙ ap (option_map _) c.in-Some.is) in
    record { meant = (t, ts, parts) }

pub returns-in_err-found-clause-fault : goal.returns-in_err-found-clause-fault
returns-in_err-found-clause-fault g c id m is_node meant =
    let (t, ts, is, parts) = taken (nodes_under c.args.self.now) id c.args.node.now c.items.result.now m _ is_node meant c.items.ensures (sym c.selected_by.ensures ∙ ap (option_map _) c.in-Some.is) in
    selector_handed _ c.in_err-found.field-0.0 c.from_residual.result c.from_residual.ensures.1 (λ f h. ap selection_fault is ∙ c.in_err-found.ensures.fault t ts parts f h)

pub returns-clause-head : goal.returns-clause-head
returns-clause-head g c id t s is_node meant are =
    let (type, ts, is, parts) = taken (nodes_under c.args.self.now) id c.args.node.now c.items.result.now (TermMeaning t) _ is_node meant c.items.ensures (sym c.selected_by.ensures ∙ ap (option_map _) c.in-Some.is) in
    taken_head _ type ts t s (plain_label c.args.node.now.label) c.in_ok-found.found is (is_node.label (TermMeaning t) meant) (c.in_ok-found.ensures.text type ts s parts are)

pub returns-clause-fault : goal.returns-clause-fault
returns-clause-fault g c id m is_node meant =
    let (t, ts, is, parts) = taken (nodes_under c.args.self.now) id c.args.node.now c.items.result.now m _ is_node meant c.items.ensures (sym c.selected_by.ensures ∙ ap (option_map _) c.in-Some.is) in
    ap selection_fault is ∙ c.in_ok-found.ensures.fault t ts parts
