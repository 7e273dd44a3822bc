use Rattle.std.proofs.Common.{◌≡◌, ◌↔◌, true, ◌∙◌, sym, ap}
use Rattle.std.specs.Prelude.{Some}
use Rattle.law_texts.specs.SharedTexts.{texts}
use Rattle.law_terms.specs.Meanings.{meanings}
use Rattle.law_terms.specs.Parts.{field_names}
use Rattle.smt_term.specs.Pairs.{attributes_in}
use Rattle.smt_term.specs.View.{fields_of, plain_fields}
use Rattle.law_terms.specs.Plain.{record_fields}
use Rattle.smt_nodes.proofs.RecordFitting.{other_attributes, record_at, type_of_fields}
use Rattle.smt_nodes.proofs.MapNames.{term_names}
use Rattle.smt_nodes.specs.Attributes.{attributes_of}
use Rattle.smt_nodes.specs.Interned.{meaning_in, nodes_of}
use Rattle.smt_nodes.specs.Kinds.{IsRecordAt}
use Rattle.smt_nodes.specs.View.{plain_label}
use Rattle.smt_nodes.proofs.interner.Interner.is_type_of_record.Goals as goal

pub returns-then-are_attributes_of : goal.returns-then-are_attributes_of
returns-then-are_attributes_of c inner =
    let s = c.args.self.now in
    let own = attributes_of c.in-Some-TRecord.names in
    let at : IsRecordAt (texts own) (meaning_in s c.args.ty) = record_at (meaning_in s c.args.ty) (texts own) (ap (λ l. Some (plain_label l)) (sym c.in-Some-TRecord.field-0-is) ∙ c.in-Some-TRecord.ensures) in
    let names : texts own ≡ field_names (record_fields (plain_fields c.args.fields.now)) =
    ap texts (sym c.items.ensures) ∙ (c.are_attributes_of.ensures.0 c.if-are_attributes_of.true ∙ (ap attributes_in c.items-in-Some-TRecord.ensures.same ∙ term_names (fields_of c.args.fields.now))) in
    type_of_fields (meanings (nodes_of s)) (meaning_in s c.args.ty) (texts own) c.parts.result.now c.args.inner.now (record_fields (plain_fields c.args.fields.now)) c.are_typed.result at names c.parts.ensures.found c.are_typed.ensures inner

pub returns-else-are_attributes_of : goal.returns-else-are_attributes_of
returns-else-are_attributes_of c inner =
    let s = c.args.self.now in
    let own = attributes_of c.in-Some-TRecord.names in
    let at : IsRecordAt (texts own) (meaning_in s c.args.ty) = record_at (meaning_in s c.args.ty) (texts own) (ap (λ l. Some (plain_label l)) (sym c.in-Some-TRecord.field-0-is) ∙ c.in-Some-TRecord.ensures) in
    let names = ap attributes_in c.items-in-Some-TRecord.ensures.same ∙ term_names (fields_of c.args.fields.now) in
    let held = ap texts c.items.ensures in
    let decided : (c.are_attributes_of.result ≡ true) ↔ (texts own ≡ field_names (record_fields (plain_fields c.args.fields.now))) =
    (λ h. sym held ∙ (c.are_attributes_of.ensures.0 h ∙ names), λ h. c.are_attributes_of.ensures.1 (held ∙ (h ∙ sym names))) in
    other_attributes (meaning_in s c.args.ty) (texts own) (record_fields (plain_fields c.args.fields.now)) c.are_attributes_of.result at decided c.if-are_attributes_of.false
