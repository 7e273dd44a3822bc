use Rattle.std.proofs.Common.{◌≡◌, ◌∙◌, Err, ap, inl, refl, subst, sym, arith}
use Rattle.law_theorem.specs.Fits.{new_stages}
use Rattle.smt_term.specs.Enums.{enums_of}
use Rattle.smt_script.specs.Memory.{list_bytes}
use Rattle.smt_script.specs.Sink.{Rose}
use Rattle.smt_solve.specs.Link.{LinkState}
use Rattle.smt_solve.specs.Session.{session_link}
use Rattle.smt_solve.specs.Starter.{command_of}
use Rattle.smt_encode.specs.Encoded.{enums_in, nodes_in}
use Rattle.smt_jobs.specs.Numbers.{steps_by}
use Rattle.smt_runs.specs.Asking.{SpokeAtLeast, WhyNotAsked}
use Rattle.smt_runs.proofs.Starting.{asked_anyway, at_there, begun_at, first_balanced, handed_err, handed_ok, lost, not_started, print_cause_there, refused_anyway, so_far_at, spoke_anyway, spoke_too, stopped_at_start}
use Rattle.smt_runs.proofs.Verdicts.{by_refusal}
use Rattle.smt_runs.proofs.check.check_steps.Goals as goal

pub next_piece-encoder-requires-clause-balanced : goal.next_piece-encoder-requires-clause-balanced
next_piece-encoder-requires-clause-balanced g c = (new_stages, c.with_nodes-encoder.ensures.stands, first_balanced (nodes_in c.with_nodes-encoder.result) c.args.nodes c.args.steps.now c.with_nodes-encoder.ensures.nodes c.requires.balanced)

pub returns-in_err-lines-clause-refused : goal.returns-in_err-lines-clause-refused
returns-in_err-lines-clause-refused g c =
    let told = g.P.Starter.state c.args.starter.now in
    let held = g.W.Sink.contents c.args.out.now in
    let failed = Rose (g.W.Sink.faults c.args.out.now) (g.W.Sink.faults c.args.out.now) in
    let enums = enums_of c.args.enums.now in
    let steps = steps_by c.args.nodes c.args.steps.now in
    by_refusal (WhyNotAsked g.P.L.Link.state (g.P.Starter.allows c.args.starter.now) told told (command_of c.args.solver.now) enums steps held held failed) c.from_residual.result c.in_err-lines.field-0.0 c.from_residual.ensures.1
    (not_started g.P.L.Link.state (g.P.Starter.allows c.args.starter.now) told told (command_of c.args.solver.now) enums steps held held failed c.in_err-lines.field-0.0 refl refl
    (print_cause_there (enums_in c.with_nodes-encoder.result) enums (nodes_in c.with_nodes-encoder.result) c.args.nodes c.args.steps.now c.next_piece-encoder.result.1 c.in_err-lines.field-0.0 c.with_nodes-encoder.ensures.enums c.with_nodes-encoder.ensures.nodes c.in_err-lines.was c.next_piece-encoder.ensures.refused))

pub converse-answer-requires-clause-at : goal.converse-answer-requires-clause-at
converse-answer-requires-clause-at g c = (
  steps_by c.args.nodes c.args.steps.now,
  at_there (enums_of c.args.enums.now) (enums_in c.next_piece-encoder.result.0) c.args.nodes (nodes_in c.next_piece-encoder.result.0) c.next_piece-encoder.result.0 (steps_by c.args.nodes c.args.steps.now) c.in_ok-lines.left.now (list_bytes c.in_ok-lines.lines)
      (sym (c.next_piece-encoder.ensures.enums ∙ c.with_nodes-encoder.ensures.enums)) (sym (c.next_piece-encoder.ensures.numbers ∙ c.with_nodes-encoder.ensures.nodes))
      (begun_at (enums_in c.with_nodes-encoder.result) (enums_of c.args.enums.now) (nodes_in c.with_nodes-encoder.result) c.args.nodes c.next_piece-encoder.result.0 c.args.steps.now c.next_piece-encoder.result.1 (c.in_ok-lines.lines, c.in_ok-lines.left) c.with_nodes-encoder.ensures.enums c.with_nodes-encoder.ensures.nodes c.in_ok-lines.was (c.next_piece-encoder.ensures.puts new_stages c.with_nodes-encoder.ensures.stands) c.requires.balanced),
)

pub returns-in-Err-Io-clause-refused : goal.returns-in-Err-Io-clause-refused
returns-in-Err-Io-clause-refused g c = (
  (c.from_command.ensures.starts.io (c.in-Err-Io.is ∙ ap (λ e. Err e) c.in-Err-Io.field-0-is)).1,
  (list_bytes c.in_ok-lines.lines, so_far_at (enums_of c.args.enums.now) c.next_piece-encoder.result.0 (steps_by c.args.nodes c.args.steps.now) (steps_by c.args.nodes c.in_ok-lines.left.now) (list_bytes c.in_ok-lines.lines) (begun_at (enums_in c.with_nodes-encoder.result) (enums_of c.args.enums.now) (nodes_in c.with_nodes-encoder.result) c.args.nodes c.next_piece-encoder.result.0 c.args.steps.now c.next_piece-encoder.result.1 (c.in_ok-lines.lines, c.in_ok-lines.left) c.with_nodes-encoder.ensures.enums c.with_nodes-encoder.ensures.nodes c.in_ok-lines.was (c.next_piece-encoder.ensures.puts new_stages c.with_nodes-encoder.ensures.stands) c.requires.balanced)),
  refl,
)

pub returns-in-Err : goal.returns-in-Err
returns-in-Err g c = record {
  asked = tt;
  refused = inl (stopped_at_start (g.P.Starter.state c.args.starter.now) (g.P.Starter.state c.from_command.new.starter) (command_of c.args.solver.now) (g.W.Sink.contents c.args.out.now) c.from_command.result c.in-Err.field-0 c.in-Err.is c.from_command.ensures.starts);
  later = omega arith;
  allows = c.from_command.ensures.allows;
}

pub returns-in-Ok-finish-clause-asked : goal.returns-in-Ok-finish-clause-asked
returns-in-Ok-finish-clause-asked g c =
    let enums = enums_of c.args.enums.now in
    let steps = steps_by c.args.nodes c.args.steps.now in
    let at = at_there (enums_of c.args.enums.now) (enums_in c.next_piece-encoder.result.0) c.args.nodes (nodes_in c.next_piece-encoder.result.0) c.next_piece-encoder.result.0 (steps_by c.args.nodes c.args.steps.now) c.in_ok-lines.left.now (list_bytes c.in_ok-lines.lines)
    (sym (c.next_piece-encoder.ensures.enums ∙ c.with_nodes-encoder.ensures.enums)) (sym (c.next_piece-encoder.ensures.numbers ∙ c.with_nodes-encoder.ensures.nodes))
    (begun_at (enums_in c.with_nodes-encoder.result) (enums_of c.args.enums.now) (nodes_in c.with_nodes-encoder.result) c.args.nodes c.next_piece-encoder.result.0 c.args.steps.now c.next_piece-encoder.result.1 (c.in_ok-lines.lines, c.in_ok-lines.left) c.with_nodes-encoder.ensures.enums c.with_nodes-encoder.ensures.nodes c.in_ok-lines.was (c.next_piece-encoder.ensures.puts new_stages c.with_nodes-encoder.ensures.stands) c.requires.balanced) in
    let same : enums_in c.next_piece-encoder.result.0 ≡ enums = c.next_piece-encoder.ensures.enums ∙ c.with_nodes-encoder.ensures.enums in
    asked_anyway g.P.L.Link.state (g.P.Starter.allows c.args.starter.now) (g.P.Starter.state c.args.starter.now) (g.P.Starter.state c.finish.new.self) (command_of c.args.solver.now) enums steps (g.W.Sink.contents c.args.out.now) (g.W.Sink.contents c.converse-answer.new.out)
    (g.P.Starter.state c.from_command.new.starter) c.into_link.result c.in-Ok.session c.in-Ok.ensures.starts c.in-Ok-finish.ensures.finishes (g.P.L.Link.allows (session_link c.in-Ok.session)) (Rose (g.W.Sink.faults c.args.out.now) (g.W.Sink.faults c.converse-answer.new.out)) c.converse-answer.result c.in-Ok.ensures.honest
    (handed_ok (enums_in c.next_piece-encoder.result.0) enums (g.P.L.Link.state (session_link c.converse-answer.new.session)) (g.P.L.Link.state c.into_link.result) steps (g.W.Sink.contents c.args.out.now) (g.W.Sink.contents c.converse-answer.new.out) c.converse-answer.result same (ap g.P.L.Link.state (sym c.into_link.ensures)) (g.P.L.Link.allows (session_link c.in-Ok.session)) (c.converse-answer.ensures.asked steps at))

pub returns-in-Ok-finish-clause-refused : goal.returns-in-Ok-finish-clause-refused
returns-in-Ok-finish-clause-refused g c =
    let enums = enums_of c.args.enums.now in
    let steps = steps_by c.args.nodes c.args.steps.now in
    let at = at_there (enums_of c.args.enums.now) (enums_in c.next_piece-encoder.result.0) c.args.nodes (nodes_in c.next_piece-encoder.result.0) c.next_piece-encoder.result.0 (steps_by c.args.nodes c.args.steps.now) c.in_ok-lines.left.now (list_bytes c.in_ok-lines.lines)
    (sym (c.next_piece-encoder.ensures.enums ∙ c.with_nodes-encoder.ensures.enums)) (sym (c.next_piece-encoder.ensures.numbers ∙ c.with_nodes-encoder.ensures.nodes))
    (begun_at (enums_in c.with_nodes-encoder.result) (enums_of c.args.enums.now) (nodes_in c.with_nodes-encoder.result) c.args.nodes c.next_piece-encoder.result.0 c.args.steps.now c.next_piece-encoder.result.1 (c.in_ok-lines.lines, c.in_ok-lines.left) c.with_nodes-encoder.ensures.enums c.with_nodes-encoder.ensures.nodes c.in_ok-lines.was (c.next_piece-encoder.ensures.puts new_stages c.with_nodes-encoder.ensures.stands) c.requires.balanced) in
    let same : enums_in c.next_piece-encoder.result.0 ≡ enums = c.next_piece-encoder.ensures.enums ∙ c.with_nodes-encoder.ensures.enums in
    refused_anyway g.P.L.Link.state (g.P.Starter.allows c.args.starter.now) (g.P.Starter.state c.args.starter.now) (g.P.Starter.state c.finish.new.self) (command_of c.args.solver.now) enums steps (g.W.Sink.contents c.args.out.now) (g.W.Sink.contents c.converse-answer.new.out)
    (g.P.Starter.state c.from_command.new.starter) c.into_link.result c.in-Ok.session c.in-Ok.ensures.starts c.in-Ok-finish.ensures.finishes (g.P.L.Link.allows (session_link c.in-Ok.session)) (Rose (g.W.Sink.faults c.args.out.now) (g.W.Sink.faults c.converse-answer.new.out)) c.converse-answer.result c.in-Ok.ensures.honest
    (handed_err (enums_in c.next_piece-encoder.result.0) enums (g.P.L.Link.state (session_link c.converse-answer.new.session)) (g.P.L.Link.state c.into_link.result) steps (g.W.Sink.contents c.args.out.now) (g.W.Sink.contents c.converse-answer.new.out) c.converse-answer.result same (ap g.P.L.Link.state (sym c.into_link.ensures)) (Rose (g.W.Sink.faults c.args.out.now) (g.W.Sink.faults c.converse-answer.new.out)) (g.P.L.Link.allows (session_link c.in-Ok.session)) (c.converse-answer.ensures.refused steps at))

pub returns-in-Err-finish-clause-refused : goal.returns-in-Err-finish-clause-refused
returns-in-Err-finish-clause-refused g c =
    let at = at_there (enums_of c.args.enums.now) (enums_in c.next_piece-encoder.result.0) c.args.nodes (nodes_in c.next_piece-encoder.result.0) c.next_piece-encoder.result.0 (steps_by c.args.nodes c.args.steps.now) c.in_ok-lines.left.now (list_bytes c.in_ok-lines.lines)
    (sym (c.next_piece-encoder.ensures.enums ∙ c.with_nodes-encoder.ensures.enums)) (sym (c.next_piece-encoder.ensures.numbers ∙ c.with_nodes-encoder.ensures.nodes))
    (begun_at (enums_in c.with_nodes-encoder.result) (enums_of c.args.enums.now) (nodes_in c.with_nodes-encoder.result) c.args.nodes c.next_piece-encoder.result.0 c.args.steps.now c.next_piece-encoder.result.1 (c.in_ok-lines.lines, c.in_ok-lines.left) c.with_nodes-encoder.ensures.enums c.with_nodes-encoder.ensures.nodes c.in_ok-lines.was (c.next_piece-encoder.ensures.puts new_stages c.with_nodes-encoder.ensures.stands) c.requires.balanced) in
    let held = g.W.Sink.contents c.args.out.now in
    let now = g.W.Sink.contents c.converse-answer.new.out in
    let allows = g.P.L.Link.allows (session_link c.in-Ok.session) in
    let spoke = spoke_anyway (enums_in c.next_piece-encoder.result.0) (steps_by c.args.nodes c.args.steps.now) held now (Rose (g.W.Sink.faults c.args.out.now) (g.W.Sink.faults c.converse-answer.new.out)) allows (g.P.L.Link.state (session_link c.converse-answer.new.session)) c.converse-answer.result
    (c.converse-answer.ensures.asked (steps_by c.args.nodes c.args.steps.now) at) (c.converse-answer.ensures.refused (steps_by c.args.nodes c.args.steps.now) at) in
    lost g.P.L.Link.state (g.P.Starter.allows c.args.starter.now) (g.P.Starter.state c.args.starter.now) (g.P.Starter.state c.finish.new.self) (command_of c.args.solver.now) (enums_of c.args.enums.now) (steps_by c.args.nodes c.args.steps.now) held now
    (g.P.Starter.state c.from_command.new.starter) c.into_link.result c.in-Ok.session c.in-Err-finish.field-0 c.in-Ok.ensures.starts c.in-Err-finish.ensures.finishes
    (spoke_too allows (g.P.Starter.allows c.args.starter.now) c.in-Ok.ensures.honest (g.P.L.Link.state c.into_link.result) held now (subst (λ (s : LinkState). SpokeAtLeast allows s held now) (ap g.P.L.Link.state (sym c.into_link.ensures)) spoke))
