use Rattle.std.proofs.Common.{◌∙◌, sym, ap}
use Rattle.std.specs.Prelude.{Some}
use Rattle.law_texts.specs.SharedTexts.{texts}
use Rattle.smt_nodes.proofs.RecordFitting.{is_record_at, record_at, same_attributes}
use Rattle.smt_nodes.specs.Attributes.{attributes_of}
use Rattle.smt_nodes.specs.Interned.{meaning_in}
use Rattle.smt_nodes.specs.View.{plain_label}
use Rattle.smt_nodes.proofs.interner.Interner.is_record_type_of.Goals as goal

pub returns-in-Some-TRecord : goal.returns-in-Some-TRecord
returns-in-Some-TRecord c =
    let m = meaning_in c.args.self.now c.args.ty in
    let own = attributes_of c.in-Some-TRecord.own in
    is_record_at m own c.args.names.now c.eq.result (c.eq.ensures ∙ ap (λ l. same_attributes l c.args.names.now) c.items.ensures) (record_at m (texts own) (ap (λ l. Some (plain_label l)) (sym c.in-Some-TRecord.field-0-is) ∙ c.in-Some-TRecord.ensures))
