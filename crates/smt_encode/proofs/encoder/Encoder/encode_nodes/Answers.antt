use Rattle.std.proofs.Common.{◌+◌, refl, arith}
use Rattle.law_terms.specs.Faults.{first_fault}
use Rattle.law_lines.specs.Lines.{EncodeCall, encode, lines_of_call}
use Rattle.law_lines.specs.NameTables.{no_names}
use Rattle.law_lines.specs.Text.{names, text}
use Rattle.law_theorem.specs.Fits.{encoding_of}
use Rattle.law_theorem.specs.Headline.{Headline}
use Rattle.law_theorem.specs.WellWritten.{IsWellWritten, most_for_terms}
use Rattle.smt_encode.specs.Encoded.{enums_in, nodes_in}
use Rattle.smt_encode.specs.Errors.{encode_error}
use Rattle.smt_encode.specs.Interrupted.{Interrupted}
use Rattle.smt_encode.specs.declared.error.EncodeError.TheVariants.{Spent}
use Rattle.smt_encode.proofs.Cut.{err_of, interrupted}
use Rattle.smt_encode.proofs.Attributes.{first_is_other, takes}
use Rattle.smt_encode.proofs.Conditions.{node_conditions, node_headline, node_well_written, received}
use Rattle.smt_encode.proofs.Faulted.{at_ok, has_cause, is_complete, ok_without_fault}
use Rattle.smt_encode.proofs.OneCall.{begun_wrote, if_err_is, keeps_fit, keeps_well_written, levels_stay, not_put}
use Rattle.smt_spelling.proofs.Edges.{within_edges}
use Rattle.smt_spelling.proofs.Named.{names_alone, no_tables}
use Rattle.smt_encode.proofs.Scripted.{text_written}
use Rattle.smt_encode.proofs.Writing.{are_texts}
use Rattle.smt_encode.proofs.encoder.Encoder.encode_nodes.Goals as goal

pub returns-clause-put : goal.returns-clause-put
returns-clause-put g c ts s stand has =
    let wrote = at_ok c.put_nodes-outcome.result c.in_ok-outcome.field-0 c.in_ok-outcome.was (c.put_nodes-outcome.ensures.lines ts stand s has) in
    record { got = wrote.contents_are; names = wrote.names; texts = are_texts c.put_nodes-outcome.new.self.names _ (enums_in c.args.self.now) c.put_nodes-outcome.ensures.cause.held.enums wrote.names }

pub returns-clause-stated : goal.returns-clause-stated
returns-clause-stated g c ts stand new =
    let wrote = at_ok c.put_nodes-outcome.result c.in_ok-outcome.field-0 c.in_ok-outcome.was (c.put_nodes-outcome.ensures.lines ts stand no_names (no_tables c.args.self.now.writer.names new.unwritten)) in
    record { text = text_written c.args.self.now.begun (enums_in c.args.self.now) ts new.unbegun wrote; names = names_alone c.put_nodes-outcome.new.self.names _ wrote.names; texts = are_texts c.put_nodes-outcome.new.self.names _ (enums_in c.args.self.now) c.put_nodes-outcome.ensures.cause.held.enums wrote.names }

pub returns-clause-headline : goal.returns-clause-headline
returns-clause-headline g c ts stand new typed =
    let enums = enums_in c.args.self.now in
    let none = ok_without_fault (first_fault enums ts) c.put_nodes-outcome.result c.in_ok-outcome.field-0 c.in_ok-outcome.was (c.put_nodes-outcome.ensures.fault ts stand) in
    let wrote = at_ok c.put_nodes-outcome.result c.in_ok-outcome.field-0 c.in_ok-outcome.was (c.put_nodes-outcome.ensures.lines ts stand no_names (no_tables c.args.self.now.writer.names new.unwritten)) in
    received (λ s bytes. Headline enums s ts bytes) c.put_nodes-outcome.new.self.names (names enums ts) (text enums ts) _ _ (text_written c.args.self.now.begun enums ts new.unbegun wrote) (names_alone c.put_nodes-outcome.new.self.names _ wrote.names) (node_headline c.args.self.now.writer.names.enums.now (nodes_in c.args.self.now) c.args.ids.now ts stand typed none)

pub returns-clause-well_written : goal.returns-clause-well_written
returns-clause-well_written g c ts stand new typed =
    let enums = enums_in c.args.self.now in
    let none = ok_without_fault (first_fault enums ts) c.put_nodes-outcome.result c.in_ok-outcome.field-0 c.in_ok-outcome.was (c.put_nodes-outcome.ensures.fault ts stand) in
    let wrote = at_ok c.put_nodes-outcome.result c.in_ok-outcome.field-0 c.in_ok-outcome.was (c.put_nodes-outcome.ensures.lines ts stand no_names (no_tables c.args.self.now.writer.names new.unwritten)) in
    received (λ s bytes. IsWellWritten enums bytes ts s (1 + most_for_terms ts)) c.put_nodes-outcome.new.self.names (names enums ts) (text enums ts) _ _ (text_written c.args.self.now.begun enums ts new.unbegun wrote) (names_alone c.put_nodes-outcome.new.self.names _ wrote.names) (node_well_written c.args.self.now.writer.names.enums.now (nodes_in c.args.self.now) c.args.ids.now ts stand typed none)

pub returns-clause-models : goal.returns-clause-models
returns-clause-models g c ts stand typed =
    node_headline c.args.self.now.writer.names.enums.now (nodes_in c.args.self.now) c.args.ids.now ts stand typed
    (ok_without_fault (first_fault (enums_in c.args.self.now) ts) c.put_nodes-outcome.result c.in_ok-outcome.field-0 c.in_ok-outcome.was (c.put_nodes-outcome.ensures.fault ts stand))

-- what the call put, wherever the encoder stood
pub returns-clause-called : goal.returns-clause-called
returns-clause-called g c ts stand x has =
    let enums = enums_in c.args.self.now in
    let wrote = at_ok c.put_nodes-outcome.result c.in_ok-outcome.field-0 c.in_ok-outcome.was (c.put_nodes-outcome.ensures.lines ts stand x.tables has.tables) in
    record {
      got = (begun_wrote c.args.self.now.begun x.begun (encode enums ts x.tables).lines has.begun wrote).contents_are;
      stands = record { tables = wrote.names; below = levels_stay c.args.self.now.writer.names c.put_nodes-outcome.new.self.names x.below c.put_nodes-outcome.ensures.cause.held.enums c.put_nodes-outcome.ensures.nodes c.put_nodes-outcome.ensures.levels has.below; begun = refl };
    }

pub returns-clause-fits : goal.returns-clause-fits
returns-clause-fits g c ts stand typed text x f =
    let none = ok_without_fault (first_fault (enums_in c.args.self.now) ts) c.put_nodes-outcome.result c.in_ok-outcome.field-0 c.in_ok-outcome.was (c.put_nodes-outcome.ensures.fault ts stand) in
    keeps_fit g.S.Sink.contents c.args.self.now _ (EncodeCall ts) c.put_nodes-outcome.ensures.cause.held.enums text x f (node_conditions c.args.self.now.writer.names.enums.now (nodes_in c.args.self.now) c.args.ids.now ts stand typed none) (returns-clause-called g c ts stand (encoding_of x) f.stands)

pub returns-clause-keeps_well_written : goal.returns-clause-keeps_well_written
returns-clause-keeps_well_written g c ts stand typed text x most f =
    let none = ok_without_fault (first_fault (enums_in c.args.self.now) ts) c.put_nodes-outcome.result c.in_ok-outcome.field-0 c.in_ok-outcome.was (c.put_nodes-outcome.ensures.fault ts stand) in
    keeps_well_written g.S.Sink.contents c.args.self.now _ (EncodeCall ts) c.put_nodes-outcome.ensures.cause.held.enums text x f (node_conditions c.args.self.now.writer.names.enums.now (nodes_in c.args.self.now) c.args.ids.now ts stand typed none) (returns-clause-called g c ts stand (encoding_of x) f.stands) most

pub returns-clause-by_edges : goal.returns-clause-by_edges
returns-clause-by_edges g c has closed all =
    let few = at_ok c.put_nodes-outcome.result c.in_ok-outcome.field-0 c.in_ok-outcome.was (c.put_nodes-outcome.ensures.steps has closed all) in
    let by = within_edges (nodes_in c.args.self.now) has in
    omega (arith, few, by)

pub returns-clause-written : goal.returns-clause-written
returns-clause-written g c ts stand = at_ok c.put_nodes-outcome.result c.in_ok-outcome.field-0 c.in_ok-outcome.was (c.put_nodes-outcome.ensures.written ts stand)

pub returns-clause-steps : goal.returns-clause-steps
returns-clause-steps g c has closed all = at_ok c.put_nodes-outcome.result c.in_ok-outcome.field-0 c.in_ok-outcome.was (c.put_nodes-outcome.ensures.steps has closed all)

pub returns-clause-complete : goal.returns-clause-complete
returns-clause-complete g c ts stand = record {
  faultless = ok_without_fault (first_fault (enums_in c.args.self.now) ts) c.put_nodes-outcome.result c.in_ok-outcome.field-0 c.in_ok-outcome.was (c.put_nodes-outcome.ensures.fault ts stand);
  answered = λ unspent none quiet. tt;
}

pub returns-in_err-outcome-clause-refused : goal.returns-in_err-outcome-clause-refused
returns-in_err-outcome-clause-refused g c ts stand =
    has_cause (first_fault (enums_in c.args.self.now) ts) c.put_nodes-outcome.result c.in_err-outcome.field-0.0 c.in_err-outcome.was (c.put_nodes-outcome.ensures.fault ts stand) c.put_nodes-outcome.ensures.cause.cause c.from_residual.result c.from_residual.ensures.1

pub returns-in_err-outcome-clause-complete : goal.returns-in_err-outcome-clause-complete
returns-in_err-outcome-clause-complete g c ts stand =
    is_complete (first_fault (enums_in c.args.self.now) ts) c.put_nodes-outcome.result c.in_err-outcome.field-0.0 c.in_err-outcome.was (c.put_nodes-outcome.ensures.fault ts stand) c.put_nodes-outcome.ensures.cause.cause c.from_residual.result c.from_residual.ensures.1

pub returns-in_err-outcome-clause-takes : goal.returns-in_err-outcome-clause-takes
returns-in_err-outcome-clause-takes g c ts stand typed =
    takes (first_fault (enums_in c.args.self.now) ts) c.from_residual.result (first_is_other (enums_in c.args.self.now) ts typed) (returns-in_err-outcome-clause-refused g c ts stand)

pub returns-then-self-clause-stopped : goal.returns-then-self-clause-stopped
returns-then-self-clause-stopped g c ts stand typed text x f = not_put g.S.Sink.contents c.args.self.now c.args.self.now text x _ Spent f refl

pub returns-in_err-outcome-clause-stopped : goal.returns-in_err-outcome-clause-stopped
returns-in_err-outcome-clause-stopped g c ts stand typed text x f =
    if_err_is (Interrupted g.S.Sink.contents c.args.self.now _ text (lines_of_call (enums_in c.args.self.now) (EncodeCall ts) (encoding_of x))) c.from_residual.result (encode_error c.in_err-outcome.field-0.0) c.from_residual.ensures.1
    (interrupted g.S.Sink.contents c.args.self.now _ ts c.in_err-outcome.field-0.0 (encode_error c.in_err-outcome.field-0.0) text x f typed refl
    (err_of _ c.put_nodes-outcome.result c.in_err-outcome.field-0.0 c.in_err-outcome.was (c.put_nodes-outcome.ensures.stopped ts x.now.tables stand f.stands.tables)))

pub returns-clause-names : goal.returns-clause-names
returns-clause-names g c s has =
    let (ts, stand) = c.requires.stand in
    let wrote = at_ok c.put_nodes-outcome.result c.in_ok-outcome.field-0 c.in_ok-outcome.was (c.put_nodes-outcome.ensures.lines ts stand s has) in
    (_, wrote.names)

pub returns-in_err-outcome-clause-names : goal.returns-in_err-outcome-clause-names
returns-in_err-outcome-clause-names g c s has =
    let (ts, stand) = c.requires.stand in
    let st = err_of _ c.put_nodes-outcome.result c.in_err-outcome.field-0.0 c.in_err-outcome.was (c.put_nodes-outcome.ensures.stopped ts s stand has) in
    (st.named, st.names)
