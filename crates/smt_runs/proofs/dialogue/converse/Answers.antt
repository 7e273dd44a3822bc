use Rattle.std.proofs.Common.{◌∙◌, [], ap, refl, sym, arith}
use Rattle.std.specs.Prelude.{is_err}
use Rattle.law_terms.specs.Faults.{first_fault}
use Rattle.law_jobs.specs.Steps.{asserted}
use Rattle.smt_script.specs.Memory.{list_bytes}
use Rattle.smt_script.specs.Sink.{Rose}
use Rattle.smt_solve.specs.Session.{session_link}
use Rattle.smt_encode.specs.Encoded.{enums_in, nodes_in}
use Rattle.smt_jobs.specs.Numbers.{steps_by}
use Rattle.smt_runs.specs.Asking.{StopsAsking}
use Rattle.smt_runs.specs.Jobs.{HasPrintCause}
use Rattle.smt_runs.specs.Refusal.{check_refusal}
use Rattle.smt_runs.proofs.AtLeast.{at_least_nothing}
use Rattle.smt_runs.proofs.Between.{none_left}
use Rattle.smt_runs.proofs.Loop.{known_nothing}
use Rattle.smt_runs.proofs.Talking.{behind_balanced, fewer_steps, none_sent, no_lines, piece_at, piece_refused, refused_with, rest_refused, rest_sent, stand_of, stops_sending, talking_from, underway_on, word_refused}
use Rattle.smt_runs.proofs.Verdicts.{by_refusal}
use Rattle.smt_runs.proofs.dialogue.converse.Goals as goal

pub returns-in_err-begin_dialogue-clause-refused : goal.returns-in_err-begin_dialogue-clause-refused
returns-in_err-begin_dialogue-clause-refused g c steps start =
    let new = g.K.Link.state (session_link c.begin_dialogue.new.session) in
    let held = g.W.Sink.contents c.args.out.now in
    let failed = Rose (g.W.Sink.faults c.args.out.now) (g.W.Sink.faults c.args.out.now) in
    by_refusal (StopsAsking (enums_in c.args.encoder) steps held held failed (g.K.Link.allows (session_link c.args.session.now)) new) c.from_residual.result (check_refusal c.in_err-begin_dialogue.field-0.0) c.from_residual.ensures.1
    (stops_sending (enums_in c.args.encoder) steps c.args.encoder (steps_by (nodes_in c.args.encoder) c.args.left.now) (list_bytes c.args.lines) (g.K.Link.allows (session_link c.args.session.now)) held new held failed [] start c.in_err-begin_dialogue.field-0.0
    (at_least_nothing (g.K.Link.allows (session_link c.args.session.now)) new) (sym (known_nothing held)) c.in_err-begin_dialogue.ensures.unsent)

pub loop-behind-init : goal.loop-behind-init
loop-behind-init g c = record {
  same_nodes = refl;
  same_enums = refl;
  unspent = c.requires.unspent;
  stand = c.requires.stand;
  unfailed = c.in_ok-begin_dialogue.ensures.failed;
  same_allows = c.begin_dialogue.ensures.allows;
  later = omega arith;
  talks = λ steps start. talking_from (enums_in c.args.encoder) steps c.args.encoder (steps_by (nodes_in c.args.encoder) c.args.left.now) (list_bytes c.args.lines) (g.K.Link.allows (session_link c.args.session.now)) (g.K.Link.state (session_link c.begin_dialogue.new.session)) (g.W.Sink.contents c.args.out.now) start c.in_ok-begin_dialogue.ensures.begun c.in_ok-begin_dialogue.ensures.allowed;
}

pub returns-in_err-put_verdict-clause-refused : goal.returns-in_err-put_verdict-clause-refused
returns-in_err-put_verdict-clause-refused g c steps start =
    by_refusal (StopsAsking (enums_in c.args.encoder) steps (g.W.Sink.contents c.args.out.now) (g.W.Sink.contents c.put_verdict.new.out) (Rose (g.W.Sink.faults c.args.out.now) (g.W.Sink.faults c.put_verdict.new.out)) (g.K.Link.allows (session_link c.args.session.now)) (g.K.Link.state (session_link c.put_verdict.new.session)))
    c.from_residual-in_err-put_verdict.result c.in_err-put_verdict.field-0.0 c.from_residual-in_err-put_verdict.ensures.1
    (word_refused g.K.Link.state g.K.Link.allows g.W.Sink.contents g.W.Sink.faults c.args.encoder c.args.left.now (list_bytes c.args.lines) c.args.session.now c.args.out.now c.loop-behind.encoder c.loop-behind.left.now (list_bytes c.loop-behind.lines) c.loop-behind.session c.loop-behind.out c.loop-behind.invariant steps start (g.K.Link.state (session_link c.put_verdict.new.session)) (g.W.Sink.contents c.put_verdict.new.out) (g.W.Sink.faults c.put_verdict.new.out) c.bytes.result.now c.in_err-put_verdict.field-0.0 c.bytes.ensures c.in_err-put_verdict.ensures.refused)

pub next_piece-next-requires-clause-balanced : goal.next_piece-next-requires-clause-balanced
next_piece-next-requires-clause-balanced g c = behind_balanced g.K.Link.state g.K.Link.allows g.W.Sink.contents g.W.Sink.faults c.args.encoder c.args.left.now (list_bytes c.args.lines) c.args.session.now c.args.out.now c.loop-behind.encoder c.loop-behind.left.now (list_bytes c.loop-behind.lines) c.loop-behind.session c.loop-behind.out c.loop-behind.invariant c.in-Some.field-0-0.now c.in-Some.behind.now c.in-Some.ensures.cases.0 c.requires.at.0 c.requires.at.1

pub returns-in_err-more-clause-refused : goal.returns-in_err-more-clause-refused
returns-in_err-more-clause-refused g c steps start =
    let failed = Rose (g.W.Sink.faults c.args.out.now) (g.W.Sink.faults c.put_verdict.new.out) in
    by_refusal (StopsAsking (enums_in c.args.encoder) steps (g.W.Sink.contents c.args.out.now) (g.W.Sink.contents c.put_verdict.new.out) failed (g.K.Link.allows (session_link c.args.session.now)) (g.K.Link.state (session_link c.put_verdict.new.session)))
    c.from_residual-in_err-more.result c.in_err-more.field-0.0 c.from_residual-in_err-more.ensures.1
    (piece_refused g.K.Link.state g.K.Link.allows g.W.Sink.contents g.W.Sink.faults c.args.encoder c.args.left.now (list_bytes c.args.lines) c.args.session.now c.args.out.now c.loop-behind.encoder c.loop-behind.left.now (list_bytes c.loop-behind.lines) c.loop-behind.session c.loop-behind.out c.loop-behind.invariant c.in-Some.field-0-0.now c.in-Some.behind.now c.in-Some.ensures.cases.0 c.put_verdict.new.session c.put_verdict.new.out c.bytes.result.now c.bytes.ensures c.in_ok-put_verdict.ensures.asked steps start failed c.in_err-more.field-0.0
    (refused_with c.next_piece-next.result.1 c.in_err-more.field-0.0 (HasPrintCause (first_fault (enums_in c.loop-behind.encoder) (asserted (steps_by (nodes_in c.loop-behind.encoder) c.in-Some.behind.now))) ⊥) c.in_err-more.was c.next_piece-next.ensures.refused))

pub loop-behind-smaller : goal.loop-behind-smaller
loop-behind-smaller g c =
    let b = behind_balanced g.K.Link.state g.K.Link.allows g.W.Sink.contents g.W.Sink.faults c.args.encoder c.args.left.now (list_bytes c.args.lines) c.args.session.now c.args.out.now c.loop-behind.encoder c.loop-behind.left.now (list_bytes c.loop-behind.lines) c.loop-behind.session c.loop-behind.out c.loop-behind.invariant c.in-Some.field-0-0.now c.in-Some.behind.now c.in-Some.ensures.cases.0 c.requires.at.0 c.requires.at.1 in
    fewer_steps g.K.Link.state g.K.Link.allows g.W.Sink.contents g.W.Sink.faults c.args.encoder c.args.left.now (list_bytes c.args.lines) c.args.session.now c.args.out.now c.loop-behind.encoder c.loop-behind.left.now (list_bytes c.loop-behind.lines) c.loop-behind.session c.loop-behind.out c.loop-behind.invariant c.in-Some.field-0-0.now c.in-Some.behind.now c.in-Some.ensures.cases.0 c.put_verdict.new.session c.put_verdict.new.out c.bytes.result.now c.bytes.ensures c.in_ok-put_verdict.ensures.asked c.next_piece-next.result.0 c.in_ok-more.later.now (list_bytes c.in_ok-more.more) b.0 (piece_at g.K.Link.state g.K.Link.allows g.W.Sink.contents g.W.Sink.faults c.args.encoder c.args.left.now (list_bytes c.args.lines) c.args.session.now c.args.out.now c.loop-behind.encoder c.loop-behind.left.now (list_bytes c.loop-behind.lines) c.loop-behind.session c.loop-behind.out c.loop-behind.invariant c.in-Some.behind.now c.next_piece-next.result.0 b.0 c.next_piece-next.result.1 (c.in_ok-more.more, c.in_ok-more.later) c.in_ok-more.was (c.next_piece-next.ensures.puts b.0 b.1))

pub loop-behind-preserved : goal.loop-behind-preserved
loop-behind-preserved g c =
    underway_on g.K.Link.state g.K.Link.allows g.W.Sink.contents g.W.Sink.faults c.args.encoder c.args.left.now (list_bytes c.args.lines) c.args.session.now c.args.out.now c.loop-behind.encoder c.loop-behind.left.now (list_bytes c.loop-behind.lines) c.loop-behind.session c.loop-behind.out c.loop-behind.invariant c.in-Some.field-0-0.now c.in-Some.behind.now c.in-Some.ensures.cases.0 c.put_verdict.new.session c.put_verdict.new.out c.bytes.result.now c.bytes.ensures c.in_ok-put_verdict.ensures.asked c.next_piece-next.result.0 c.in_ok-more.later.now (list_bytes c.in_ok-more.more) c.next_piece-next.ensures.numbers c.next_piece-next.ensures.enums (c.next_piece-next.ensures.unspent ∙ ap is_err c.in_ok-more.was)
    (stand_of (nodes_in c.loop-behind.encoder) c.next_piece-next.result.1 (c.in_ok-more.more, c.in_ok-more.later) c.in_ok-more.was c.next_piece-next.ensures.stand)
    c.in_ok-put_verdict.ensures.unfailed c.put_verdict.ensures.allows c.put_verdict.ensures.later
    (λ x stands. piece_at g.K.Link.state g.K.Link.allows g.W.Sink.contents g.W.Sink.faults c.args.encoder c.args.left.now (list_bytes c.args.lines) c.args.session.now c.args.out.now c.loop-behind.encoder c.loop-behind.left.now (list_bytes c.loop-behind.lines) c.loop-behind.session c.loop-behind.out c.loop-behind.invariant c.in-Some.behind.now c.next_piece-next.result.0 x c.next_piece-next.result.1 (c.in_ok-more.more, c.in_ok-more.later) c.in_ok-more.was (c.next_piece-next.ensures.puts x stands))

pub returns-then-is_empty-clause-asked : goal.returns-then-is_empty-clause-asked
returns-then-is_empty-clause-asked g c steps start =
    let u = c.loop-behind.invariant in
    ((u.talks steps start).checks, [], none_sent g.K.Link.state g.K.Link.allows g.W.Sink.contents g.W.Sink.faults c.args.encoder c.args.left.now (list_bytes c.args.lines) c.args.session.now c.args.out.now c.loop-behind.encoder c.loop-behind.left.now (list_bytes c.loop-behind.lines) c.loop-behind.session c.loop-behind.out c.loop-behind.invariant steps start (none_left c.loop-behind.left.now c.in_default.ensures.cases) (no_lines c.bytes-2.result.now (list_bytes c.loop-behind.lines) c.if-is_empty.ensures c.bytes-2.ensures))

pub returns-in_err-send_more-clause-refused : goal.returns-in_err-send_more-clause-refused
returns-in_err-send_more-clause-refused g c steps start =
    let failed = Rose (g.W.Sink.faults c.args.out.now) (g.W.Sink.faults c.loop-behind.out) in
    by_refusal (StopsAsking (enums_in c.args.encoder) steps (g.W.Sink.contents c.args.out.now) (g.W.Sink.contents c.loop-behind.out) failed (g.K.Link.allows (session_link c.args.session.now)) (g.K.Link.state (session_link c.send_more.new.session)))
    c.from_residual-in_err-send_more.result (check_refusal c.in_err-send_more.field-0.0) c.from_residual-in_err-send_more.ensures.1
    (rest_refused g.K.Link.state g.K.Link.allows g.W.Sink.contents g.W.Sink.faults c.args.encoder c.args.left.now (list_bytes c.args.lines) c.args.session.now c.args.out.now c.loop-behind.encoder c.loop-behind.left.now (list_bytes c.loop-behind.lines) c.loop-behind.session c.loop-behind.out c.loop-behind.invariant steps start (g.K.Link.state (session_link c.send_more.new.session)) failed c.bytes-3.result.now c.in_err-send_more.field-0.0 c.in_err-send_more.ensures.first_part c.in_err-send_more.ensures.unsent)

pub returns-clause-asked : goal.returns-clause-asked
returns-clause-asked g c steps start =
    let u = c.loop-behind.invariant in
    ((u.talks steps start).checks, list_bytes c.loop-behind.lines, rest_sent g.K.Link.state g.K.Link.allows g.W.Sink.contents g.W.Sink.faults c.args.encoder c.args.left.now (list_bytes c.args.lines) c.args.session.now c.args.out.now c.loop-behind.encoder c.loop-behind.left.now (list_bytes c.loop-behind.lines) c.loop-behind.session c.loop-behind.out c.loop-behind.invariant steps start (none_left c.loop-behind.left.now c.in_default.ensures.cases) (g.K.Link.state (session_link c.send_more.new.session)) c.bytes-3.result.now c.bytes-3.ensures c.in_ok-send_more.ensures.sent c.in_ok-send_more.ensures.allowed)
