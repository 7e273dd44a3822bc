use Rattle.std.proofs.Common.{[], ◌∷◌, append-nil, sym}
use Rattle.law_texts.specs.LineTexts.{push_text}
use Rattle.law_lines.specs.Line.{Push, spelled_lines}
use Rattle.law_lines.specs.Lines.{beginning}
use Rattle.smt_script.proofs.PutsLemmas.{part-of-first, part-then}
use Rattle.smt_encode.proofs.Lines.{lines_append}
use Rattle.smt_encode.proofs.Stopping.{on_error, part_along}
use Rattle.smt_encode.proofs.writer.Writer.push.Goals as goal

pub returns-in_err-begin-clause-stopped : goal.returns-in_err-begin-clause-stopped
returns-in_err-begin-clause-stopped g c =
    on_error c.from_residual-in_err-begin.result
    (part_along _ _ _ _ (sym (lines_append (beginning c.args.begun) (Push ∷ []))) (part-of-first _ _ (spelled_lines (beginning c.args.begun)) (spelled_lines (Push ∷ [])) c.in_err-begin.ensures.part))

pub returns-in_err-push-clause-stopped : goal.returns-in_err-push-clause-stopped
returns-in_err-push-clause-stopped g c =
    on_error c.from_residual-in_err-push.result
    (part_along _ _ _ _ (sym (lines_append (beginning c.args.begun) (Push ∷ [])))
    (part-then _ _ _ (spelled_lines (beginning c.args.begun)) (spelled_lines (Push ∷ [])) c.in_ok-begin.ensures.lines.got (part_along _ _ push_text _ (sym (append-nil push_text)) c.in_err-push.ensures.err)))
