use Rattle.std.proofs.Common.{None, append-nil, false, map, refl, sym, ◌∙◌}
use Rattle.law_texts.specs.LineTexts.{pop_text}
use Rattle.law_lines.specs.Lines.{PopCall, lines_of_call}
use Rattle.law_theorem.specs.Fits.{encoding_of}
use Rattle.smt_encode.specs.Encoded.{enums_in}
use Rattle.smt_encode.specs.Errors.{encode_error}
use Rattle.smt_encode.specs.Interrupted.{Interrupted}
use Rattle.smt_encode.specs.Refusals.{IsComplete}
use Rattle.smt_encode.specs.declared.error.EncodeError.TheVariants.{NoScope, Spent}
use Rattle.smt_encode.proofs.Cut.{on_err}
use Rattle.smt_encode.proofs.Faulted.{at_ok, has_cause, is_complete}
use Rattle.smt_encode.proofs.Stopping.{never, part_along}
use Rattle.smt_encode.proofs.OneCall.{all_cut, has_below, if_err_is, keeps_fit, keeps_well_written, names_none, not_put, popped_stands}
use Rattle.smt_encode.proofs.encoder.Encoder.pop.Goals as goal

pub returns-clause-called : goal.returns-clause-called
returns-clause-called g c x has =
    popped_stands g.S.Sink.contents c.args.self.now _ x has (λ none. c.if-levels-eq0.false (c.levels.ensures.count ∙ none)) refl
    (λ s below keep. at_ok c.pop-outcome.result c.in_ok-outcome.field-0 c.in_ok-outcome.was (c.pop-outcome.ensures.lines s below keep))

pub returns-clause-fits : goal.returns-clause-fits
returns-clause-fits g c text x f =
    keeps_fit g.S.Sink.contents c.args.self.now _ PopCall c.pop-outcome.ensures.cause.held.enums text x f
    (has_below c.args.self.now.writer.names (map (λ y. y.tables) x.below) f.stands.below (λ none. c.if-levels-eq0.false (c.levels.ensures.count ∙ none))) (returns-clause-called g c (encoding_of x) f.stands)

pub returns-clause-well_written : goal.returns-clause-well_written
returns-clause-well_written g c text x most f =
    keeps_well_written g.S.Sink.contents c.args.self.now _ PopCall c.pop-outcome.ensures.cause.held.enums text x f
    (has_below c.args.self.now.writer.names (map (λ y. y.tables) x.below) f.stands.below (λ none. c.if-levels-eq0.false (c.levels.ensures.count ∙ none))) (returns-clause-called g c (encoding_of x) f.stands) most

pub returns-in_err-outcome-clause-refused : goal.returns-in_err-outcome-clause-refused
returns-in_err-outcome-clause-refused g c other =
    has_cause None c.pop-outcome.result c.in_err-outcome.field-0.0 c.in_err-outcome.was c.pop-outcome.ensures.fault c.pop-outcome.ensures.cause.cause c.from_residual.result c.from_residual.ensures.1

pub returns-in_err-outcome-clause-complete : goal.returns-in_err-outcome-clause-complete
returns-in_err-outcome-clause-complete g c unspent some quiet =
    let h : IsComplete false _ _ None c.from_residual.result = is_complete None c.pop-outcome.result c.in_err-outcome.field-0.0 c.in_err-outcome.was c.pop-outcome.ensures.fault c.pop-outcome.ensures.cause.cause c.from_residual.result c.from_residual.ensures.1 in
    h.answered refl refl quiet

pub returns-then-self-clause-stopped : goal.returns-then-self-clause-stopped
returns-then-self-clause-stopped g c text x f = not_put g.S.Sink.contents c.args.self.now c.args.self.now text x _ Spent f refl

pub returns-then-levels-eq0-clause-stopped : goal.returns-then-levels-eq0-clause-stopped
returns-then-levels-eq0-clause-stopped g c text x f = not_put g.S.Sink.contents c.args.self.now _ text x _ NoScope f refl

pub returns-in_err-outcome-clause-stopped : goal.returns-in_err-outcome-clause-stopped
returns-in_err-outcome-clause-stopped g c text x f =
    if_err_is (Interrupted g.S.Sink.contents c.args.self.now _ text (lines_of_call (enums_in c.args.self.now) PopCall (encoding_of x))) c.from_residual.result (encode_error c.in_err-outcome.field-0.0) c.from_residual.ensures.1
    (all_cut g.S.Sink.contents c.args.self.now _ PopCall text x c.in_err-outcome.field-0.0 (encode_error c.in_err-outcome.field-0.0) f
    (has_below c.args.self.now.writer.names (map (λ y. y.tables) x.below) f.stands.below (λ none. c.if-levels-eq0.false (c.levels.ensures.count ∙ none))) refl
    (λ k h. never k (names_none c.pop-outcome.result c.in_err-outcome.field-0.0 c.in_err-outcome.was c.pop-outcome.ensures.fault k h))
    (part_along _ _ _ _ (sym (append-nil pop_text)) (on_err c.pop-outcome.result c.in_err-outcome.field-0.0 c.in_err-outcome.was c.pop-outcome.ensures.stopped)))
