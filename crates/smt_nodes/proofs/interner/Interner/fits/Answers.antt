use Rattle.smt_nodes.specs.Interned.{nodes_of}
use Rattle.smt_bits.specs.Width.{bits_in}
use Rattle.smt_term.specs.Entities.{bytes_of_type}
use Rattle.smt_term.specs.ExtensionView.{plain_kind}
use Rattle.std.specs.Rc.{rc_str_bytes}
use Rattle.std.proofs.Common.{ap, ◌∙◌}
use Rattle.law_texts.specs.SharedTexts.{texts}
use Rattle.law_terms.specs.Meanings.{meanings}
use Rattle.law_terms.specs.Nodes.{RecordLabel, RecordOfLabel}
use Rattle.smt_nodes.proofs.Fitting.{fits_by, Fits}
use Rattle.smt_nodes.proofs.interner.Interner.fits.Goals as goal

pub returns-in-TOption : goal.returns-in-TOption
returns-in-TOption c = fits_by (nodes_of c.args.self.now) c.args.node.now _ c.items-parts.result.now c.fits_around_type.result c.in-TOption.is c.items-parts.ensures (c.fits_around_type.ensures.option)

pub returns-in-TBitvec : goal.returns-in-TBitvec
returns-in-TBitvec c = fits_by (nodes_of c.args.self.now) c.args.node.now _ c.items-parts.result.now c.fits_alone.result c.in-TBitvec.is c.items-parts.ensures (c.fits_alone.ensures.bits (bits_in c.in-TBitvec.field-0))

pub returns-in-TBool : goal.returns-in-TBool
returns-in-TBool c = fits_by (nodes_of c.args.self.now) c.args.node.now _ c.items-parts.result.now c.fits_alone-in-TBool.result c.in-TBool.is c.items-parts.ensures (c.fits_alone-in-TBool.ensures.truths)

pub returns-in-TEntity : goal.returns-in-TEntity
returns-in-TEntity c = fits_by (nodes_of c.args.self.now) c.args.node.now _ c.items-parts.result.now c.fits_alone-in-TEntity.result c.in-TEntity.is c.items-parts.ensures (c.fits_alone-in-TEntity.ensures.entities (bytes_of_type c.in-TEntity.field-0))

pub returns-in-TExt : goal.returns-in-TExt
returns-in-TExt c = fits_by (nodes_of c.args.self.now) c.args.node.now _ c.items-parts.result.now c.fits_alone-in-TExt.result c.in-TExt.is c.items-parts.ensures (c.fits_alone-in-TExt.ensures.extensions (plain_kind c.in-TExt.field-0))

pub returns-in-TString : goal.returns-in-TString
returns-in-TString c = fits_by (nodes_of c.args.self.now) c.args.node.now _ c.items-parts.result.now c.fits_alone-in-TString.result c.in-TString.is c.items-parts.ensures (c.fits_alone-in-TString.ensures.texts)

pub returns-in-TSet : goal.returns-in-TSet
returns-in-TSet c = fits_by (nodes_of c.args.self.now) c.args.node.now _ c.items-parts.result.now c.fits_around_type-in-TSet.result c.in-TSet.is c.items-parts.ensures (c.fits_around_type-in-TSet.ensures.set)

pub returns-in-App : goal.returns-in-App
returns-in-App c = fits_by (nodes_of c.args.self.now) c.args.node.now _ c.items-parts.result.now c.fits_operator.result c.in-App.is c.items-parts.ensures c.fits_operator.ensures

pub returns-in-Fun : goal.returns-in-Fun
returns-in-Fun c = fits_by (nodes_of c.args.self.now) c.args.node.now _ c.items-parts.result.now c.fits_function.result c.in-Fun.is c.items-parts.ensures (c.fits_function.ensures (rc_str_bytes c.in-Fun.field-0))

pub returns-in-Call : goal.returns-in-Call
returns-in-Call c = fits_by (nodes_of c.args.self.now) c.args.node.now _ c.items-parts.result.now c.fits_call.result c.in-Call.is c.items-parts.ensures c.fits_call.ensures

pub returns-in-NoneOf : goal.returns-in-NoneOf
returns-in-NoneOf c = fits_by (nodes_of c.args.self.now) c.args.node.now _ c.items-parts.result.now c.fits_none.result c.in-NoneOf.is c.items-parts.ensures (c.fits_none.ensures)

pub returns-in-Prim : goal.returns-in-Prim
returns-in-Prim c = fits_by (nodes_of c.args.self.now) c.args.node.now _ c.items-parts.result.now c.fits_literal.result c.in-Prim.is c.items-parts.ensures (c.fits_literal.ensures)

pub returns-in-SetOf : goal.returns-in-SetOf
returns-in-SetOf c = fits_by (nodes_of c.args.self.now) c.args.node.now _ c.items-parts.result.now c.fits_set.result c.in-SetOf.is c.items-parts.ensures (c.fits_set.ensures)

pub returns-in-SomeOf : goal.returns-in-SomeOf
returns-in-SomeOf c = fits_by (nodes_of c.args.self.now) c.args.node.now _ c.items-parts.result.now c.fits_some.result c.in-SomeOf.is c.items-parts.ensures (c.fits_some.ensures)

pub returns-in-Var : goal.returns-in-Var
returns-in-Var c = fits_by (nodes_of c.args.self.now) c.args.node.now _ c.items-parts.result.now c.fits_variable.result c.in-Var.is c.items-parts.ensures (c.fits_variable.ensures (rc_str_bytes c.in-Var.field-0))

pub returns-in-TRecord : goal.returns-in-TRecord
returns-in-TRecord c =
    fits_by (nodes_of c.args.self.now) c.args.node.now _ c.items-parts.result.now c.fits_record_type.result c.in-TRecord.is c.items-parts.ensures
    (c.fits_record_type.ensures ∙ ap (λ l. Fits (RecordLabel (texts l)) (meanings (nodes_of c.args.self.now)) c.items-parts.result.now) c.items.ensures)

pub returns-in-RecordOf : goal.returns-in-RecordOf
returns-in-RecordOf c =
    fits_by (nodes_of c.args.self.now) c.args.node.now _ c.items-parts.result.now c.fits_record.result c.in-RecordOf.is c.items-parts.ensures
    (c.fits_record.ensures ∙ ap (λ l. Fits (RecordOfLabel (texts l)) (meanings (nodes_of c.args.self.now)) c.items-parts.result.now) c.items-in-RecordOf.ensures)
