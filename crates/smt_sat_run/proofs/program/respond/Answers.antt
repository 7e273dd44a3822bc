use Rattle.std.proofs.Common.{◌≡◌, ◌∙◌, Option, Some, ap, subst}
use Rattle.std.specs.Io.KnownBytes.{append_known}
use Rattle.law_texts.specs.SharedTexts.{texts}
use Rattle.smt_sat_run.specs.Around.{around}
use Rattle.smt_sat_run.specs.Run.{IsSaid}
use Rattle.smt_sat_run.specs.Words.{commanded, help_text, version_text}
use Rattle.smt_sat_run.specs.declared.command.Command.{Command}
use Rattle.smt_sat_run.specs.declared.command.Command.TheVariants.{Help, Version}
use Rattle.smt_sat_run.specs.declared.verdict.Verdict.TheVariants.{Told}
use Rattle.smt_sat_run.proofs.program.respond.Goals as goal

pub returns-in_ok-put_text-in-Some-Help-clause-said : goal.returns-in_ok-put_text-in-Some-Help-clause-said
returns-in_ok-put_text-in-Some-Help-clause-said g c =
    let asked : Some Help ≡ commanded (texts c.args.words.now) = cc in
    let before = around g.R.Source.remaining g.R.Source.faults g.P.Source.faults g.W.Sink.contents g.W.Sink.faults c.args.source.now c.args.proof.now c.args.out.now in
    let after = around g.R.Source.remaining g.R.Source.faults g.P.Source.faults g.W.Sink.contents g.W.Sink.faults c.args.source.now c.args.proof.now c.put_text.new.out in
    subst (λ (o : Option Command). IsSaid before after o Told) asked (c.in_ok-put_text-in-Some-Help.ensures.puts ∙ ap (append_known before.held) c.as_bytes.ensures.value)

pub returns-in_ok-put_text-in-Some-Version-clause-said : goal.returns-in_ok-put_text-in-Some-Version-clause-said
returns-in_ok-put_text-in-Some-Version-clause-said g c =
    let asked : Some Version ≡ commanded (texts c.args.words.now) = cc in
    let before = around g.R.Source.remaining g.R.Source.faults g.P.Source.faults g.W.Sink.contents g.W.Sink.faults c.args.source.now c.args.proof.now c.args.out.now in
    let after = around g.R.Source.remaining g.R.Source.faults g.P.Source.faults g.W.Sink.contents g.W.Sink.faults c.args.source.now c.args.proof.now c.put_text-in-Some-Version.new.out in
    subst (λ (o : Option Command). IsSaid before after o Told) asked (c.in_ok-put_text-in-Some-Version.ensures.puts ∙ ap (append_known before.held) c.as_bytes-in-Some-Version.ensures.value)
