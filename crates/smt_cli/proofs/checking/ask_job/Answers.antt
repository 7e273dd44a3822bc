use Rattle.std.proofs.Common.{List, subst, sym}
use Rattle.std.specs.Prelude.{IfErr, OnOk}
use Rattle.law_jobs.specs.Steps.{PlainStep}
use Rattle.smt_term.specs.Enums.{enums_of}
use Rattle.smt_script.specs.Sink.{Rose}
use Rattle.smt_solve.specs.Starter.{command_of}
use Rattle.smt_jobs.specs.StepView.{plain_section}
use Rattle.smt_runs.specs.Asking.{AsksSolver, WhyNotAsked}
use Rattle.smt_cli.proofs.Asking.{balanced_in, said, stand_in}
use Rattle.smt_cli.proofs.checking.ask_job.Goals as goal

pub check_steps-requires-clause-stand : goal.check_steps-requires-clause-stand
check_steps-requires-clause-stand g c =
    stand_in c.args.job.steps.nodes (plain_section c.args.job.section) c.args.job.steps.steps.items c.in-Ok.steps.items c.as_slice.result.now c.as_slice.ensures.value (c.in-Ok.ensures.stand c.args.job.steps.nodes) c.args.job.steps.stand

pub check_steps-requires-clause-balanced : goal.check_steps-requires-clause-balanced
check_steps-requires-clause-balanced g c =
    balanced_in c.args.job.steps.nodes (plain_section c.args.job.section) c.args.job.steps.steps.items c.in-Ok.steps.items c.as_slice.result.now c.as_slice.ensures.value (c.in-Ok.ensures.steps c.args.job.steps.nodes) c.requires.balanced

pub returns-clause-asked : goal.returns-clause-asked
returns-clause-asked g c =
    let same = said c.args.job.steps.nodes (plain_section c.args.job.section) c.args.job.steps.steps.items c.in-Ok.steps.items c.as_slice.result.now c.as_slice.ensures.value (c.in-Ok.ensures.steps c.args.job.steps.nodes) in
    subst (λ (steps : List PlainStep). OnOk c.check_steps.result (AsksSolver g.P.L.Link.state (g.P.Starter.allows c.args.starter.now) (g.P.Starter.state c.args.starter.now) (g.P.Starter.state c.check_steps.new.starter) (command_of c.args.solver.now) (enums_of c.args.job.enums) steps (g.W.Sink.contents c.args.out.now) (g.W.Sink.contents c.check_steps.new.out))) (sym same) c.check_steps.ensures.asked

pub returns-clause-refused : goal.returns-clause-refused
returns-clause-refused g c =
    let same = said c.args.job.steps.nodes (plain_section c.args.job.section) c.args.job.steps.steps.items c.in-Ok.steps.items c.as_slice.result.now c.as_slice.ensures.value (c.in-Ok.ensures.steps c.args.job.steps.nodes) in
    subst (λ (steps : List PlainStep). IfErr c.check_steps.result (WhyNotAsked g.P.L.Link.state (g.P.Starter.allows c.args.starter.now) (g.P.Starter.state c.args.starter.now) (g.P.Starter.state c.check_steps.new.starter) (command_of c.args.solver.now) (enums_of c.args.job.enums) steps (g.W.Sink.contents c.args.out.now) (g.W.Sink.contents c.check_steps.new.out) (Rose (g.W.Sink.faults c.args.out.now) (g.W.Sink.faults c.check_steps.new.out)))) (sym same) c.check_steps.ensures.refused
