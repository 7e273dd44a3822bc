use Rattle.std.proofs.Common.{◌≡◌, Option, Some, ap, sym, subst, ◌∙◌}
use Rattle.std.specs.Prelude.{bytes_eq, is_some}
use Rattle.std.specs.List.{list_any}
use Rattle.std.specs.Rc.{rc_str_bytes}
use Rattle.law_texts.specs.SharedTexts.{texts}
use Rattle.law_terms.specs.Nodes.{RecordLabel, TypeMeaning}
use Rattle.law_terms.specs.Parts.{label_in}
use Rattle.law_terms.specs.Faults.{Fault, RecordMissingAttr}
use Rattle.smt_nodes.specs.Attributes.{attributes_of}
use Rattle.smt_nodes.specs.Interned.{meaning_in}
use Rattle.smt_nodes.specs.View.{plain_label}
use Rattle.smt_spelling.specs.TextFaults.{Finds}
use Rattle.smt_spelling.specs.SelectorFaults.{selector_fault}
use Rattle.smt_spelling.proofs.Selecting.{labelled, record_faultless, record_lacks}
use Rattle.smt_spelling.proofs.names.Names.selector_at.Goals as goal

pub returns-in-Some-clause-fault : goal.returns-in-Some-clause-fault
returns-in-Some-clause-fault g c t meant =
    let label : label_in (TypeMeaning t) ≡ RecordLabel (texts (attributes_of c.in-Some-TRecord.names)) = labelled _ c.label.result _ _ (TypeMeaning t) c.label.ensures c.in-Some-TRecord.is (ap (λ i. meaning_in i c.args.ty) c.nodes.ensures ∙ meant) ∙ ap plain_label c.in-Some-TRecord.field-0-is in
    let has = ap is_some (sym c.in-Some.is) ∙ (c.attribute_place.ensures.some ∙ ap (λ n. list_any (bytes_eq (rc_str_bytes c.args.attribute.now)) (texts n)) c.items.ensures) in
    subst (λ (f : Option Fault). Finds selector_fault f c.selector_named.result) (sym (record_faultless (rc_str_bytes c.args.attribute.now) t _ label has)) c.selector_named.ensures.fault

pub returns-in_ok-attribute-in-None-clause-fault : goal.returns-in_ok-attribute-in-None-clause-fault
returns-in_ok-attribute-in-None-clause-fault g c t meant f named =
    let label : label_in (TypeMeaning t) ≡ RecordLabel (texts (attributes_of c.in-Some-TRecord.names)) = labelled _ c.label.result _ _ (TypeMeaning t) c.label.ensures c.in-Some-TRecord.is (ap (λ i. meaning_in i c.args.ty) c.nodes.ensures ∙ meant) ∙ ap plain_label c.in-Some-TRecord.field-0-is in
    let lacks = ap is_some (sym c.in-None.is) ∙ (c.attribute_place.ensures.some ∙ ap (λ n. list_any (bytes_eq (rc_str_bytes c.args.attribute.now)) (texts n)) c.items.ensures) in
    record_lacks (rc_str_bytes c.args.attribute.now) t _ label lacks ∙ (ap (λ a. Some (RecordMissingAttr a)) (sym c.in_ok-attribute-in-None.ensures) ∙ named)
