use Rattle.std.proofs.Common.{◌∙◌, sym}
use Rattle.std.proofs.lemmas.Bool.{false≢true}
use Rattle.law_texts.specs.SharedTexts.{texts}
use Rattle.law_terms.specs.Meanings.{meanings}
use Rattle.smt_nodes.proofs.RecordFitting.{record_fits_else, record_fits_then}
use Rattle.smt_nodes.specs.Interned.{nodes_of}
use Rattle.smt_nodes.proofs.interner.Interner.fits_record.Goals as goal

pub returns-then-is_record_type_of : goal.returns-then-is_record_type_of
returns-then-is_record_type_of c =
    let s = c.args.self.now in
    record_fits_then (nodes_of s) s.graph (texts c.args.names.now) c.in-Some.ty.now c.in-Some.fields.now c.args.parts.now c.parts.result.now c.are_typed.result (c.is_record_type_of.ensures.0 c.if-is_record_type_of.true) c.in-Some.ensures.cases.0 c.parts.ensures.found c.are_typed.ensures

pub returns-else-is_record_type_of : goal.returns-else-is_record_type_of
returns-else-is_record_type_of c =
    let s = c.args.self.now in
    c.if-is_record_type_of.false ∙ record_fits_else (meanings (nodes_of s)) (texts c.args.names.now) c.in-Some.ty.now c.in-Some.fields.now c.args.parts.now (λ h. false≢true (sym c.if-is_record_type_of.false ∙ c.is_record_type_of.ensures.1 h)) c.in-Some.ensures.cases.0
