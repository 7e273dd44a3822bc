use Rattle.std.proofs.Common.{None, ap, refl}
use Rattle.law_lines.specs.Line.{Push, spelled_lines}
use Rattle.std.proofs.Common.{[], ◌∷◌, ◌++◌}
use Rattle.law_lines.specs.Lines.{PushCall, beginning, lines_of_call}
use Rattle.law_theorem.specs.Fits.{encoding_of}
use Rattle.smt_encode.specs.Encoded.{enums_in}
use Rattle.smt_encode.specs.Errors.{encode_error}
use Rattle.smt_encode.specs.Interrupted.{Interrupted}
use Rattle.smt_encode.specs.declared.error.EncodeError.TheVariants.{Spent}
use Rattle.smt_encode.proofs.Cut.{on_err}
use Rattle.smt_encode.proofs.Faulted.{at_ok, has_cause, is_complete}
use Rattle.smt_encode.proofs.Stopping.{never, part_along}
use Rattle.smt_encode.proofs.OneCall.{all_cut, begun_wrote, if_err_is, keeps_fit, keeps_well_written, names_none, not_put}
use Rattle.smt_encode.proofs.encoder.Encoder.push.Goals as goal

pub returns-clause-called : goal.returns-clause-called
returns-clause-called g c x has =
    let wrote = at_ok c.push-outcome.result c.in_ok-outcome.field-0 c.in_ok-outcome.was (c.push-outcome.ensures.lines x.tables x.below has.tables has.below) in
    record {
      got = (begun_wrote c.args.self.now.begun x.begun (Push ∷ []) has.begun wrote.0).contents_are;
      stands = record { tables = wrote.0.names; below = wrote.1; begun = refl };
    }

pub returns-clause-fits : goal.returns-clause-fits
returns-clause-fits g c text x f = keeps_fit g.S.Sink.contents c.args.self.now _ PushCall c.push-outcome.ensures.cause.held.enums text x f tt (returns-clause-called g c (encoding_of x) f.stands)

pub returns-clause-well_written : goal.returns-clause-well_written
returns-clause-well_written g c text x most f = keeps_well_written g.S.Sink.contents c.args.self.now _ PushCall c.push-outcome.ensures.cause.held.enums text x f tt (returns-clause-called g c (encoding_of x) f.stands) most

pub returns-in_err-outcome-clause-refused : goal.returns-in_err-outcome-clause-refused
returns-in_err-outcome-clause-refused g c =
    has_cause None c.push-outcome.result c.in_err-outcome.field-0.0 c.in_err-outcome.was c.push-outcome.ensures.fault c.push-outcome.ensures.cause.cause c.from_residual.result c.from_residual.ensures.1

pub returns-in_err-outcome-clause-complete : goal.returns-in_err-outcome-clause-complete
returns-in_err-outcome-clause-complete g c =
    is_complete None c.push-outcome.result c.in_err-outcome.field-0.0 c.in_err-outcome.was c.push-outcome.ensures.fault c.push-outcome.ensures.cause.cause c.from_residual.result c.from_residual.ensures.1

pub returns-then-self-clause-stopped : goal.returns-then-self-clause-stopped
returns-then-self-clause-stopped g c text x f = not_put g.S.Sink.contents c.args.self.now c.args.self.now text x _ Spent f refl

pub returns-in_err-outcome-clause-stopped : goal.returns-in_err-outcome-clause-stopped
returns-in_err-outcome-clause-stopped g c text x f =
    if_err_is (Interrupted g.S.Sink.contents c.args.self.now _ text (lines_of_call (enums_in c.args.self.now) PushCall (encoding_of x))) c.from_residual.result (encode_error c.in_err-outcome.field-0.0) c.from_residual.ensures.1
    (all_cut g.S.Sink.contents c.args.self.now _ PushCall text x c.in_err-outcome.field-0.0 (encode_error c.in_err-outcome.field-0.0) f tt refl (λ k h. never k (names_none c.push-outcome.result c.in_err-outcome.field-0.0 c.in_err-outcome.was c.push-outcome.ensures.fault k h))
    (part_along _ _ _ _ (ap (λ b. spelled_lines (beginning b ++ Push ∷ [])) f.stands.begun) (on_err c.push-outcome.result c.in_err-outcome.field-0.0 c.in_err-outcome.was c.push-outcome.ensures.stopped)))
