use Rattle.std.proofs.Common.{◌∙◌, ap}
use Rattle.std.specs.Io.KnownBytes.{append_known}
use Rattle.smt_cli.proofs.Summarizing.{says_summary}
use Rattle.smt_cli.proofs.generation.put_summary.Goals as goal

pub returns-clause-done : goal.returns-clause-done
returns-clause-done g c =
    c.in_ok-put.ensures.ok
    ∙ ap (append_known (g.W.Sink.contents c.args.out.now)) (says_summary c.as_bytes.result.now c.in-Ok.summary c.args.seed c.args.count (c.as_bytes.ensures.value ∙ c.in-Ok-text.ensures) c.in-Ok.ensures)
