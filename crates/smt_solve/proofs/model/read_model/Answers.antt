use Rattle.std.specs.String.{string_bytes}
use Rattle.smt_script.specs.CommandTexts.{get_model_text}
use Rattle.smt_solve.specs.Model.{ReadsModel}
use Rattle.smt_solve.specs.Question.{Exchanges}
use Rattle.smt_solve.proofs.ModelLemmas.{model_unopened, model_read}
use Rattle.smt_solve.proofs.QuestionLemmas.{exits}
use Rattle.smt_solve.proofs.model.read_model.Goals as goal

pub returns-in_err-read_opening-clause-reads : goal.returns-in_err-read_opening-clause-reads
returns-in_err-read_opening-clause-reads g c =
    let a = g.L.Link.state c.args.link.now in
    let d = g.L.Link.state c.read_opening.new.link in
    exits (ReadsModel {T = Unit {0}} (g.L.Link.allows c.args.link.now) a d (string_bytes c.read_opening.new.model)) _ _ c.from_residual-in_err-read_opening.ensures.1
    (model_unopened _ c.in_ok-send_command.ensures.sends.ok c.send_command.ensures.sends.spared c.in_err-read_opening.ensures.reads)

pub returns-clause-reads : goal.returns-clause-reads
returns-clause-reads g c =
    let a = g.L.Link.state c.args.link.now in
    let b = g.L.Link.state c.send_command.new.link in
    let sent : Exchanges a b get_model_text _ = c.in_ok-send_command.ensures.sends.ok in
    model_read _ c.read_rest.result sent c.send_command.ensures.sends.spared c.send_command.ensures.allows.back c.in_ok-read_opening.ensures.reads c.read_opening.ensures.allows.back c.read_rest.ensures.reads
