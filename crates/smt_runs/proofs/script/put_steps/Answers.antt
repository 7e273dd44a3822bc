use Rattle.std.proofs.Common.{◌∷◌, refl, ap, ◌∙◌}
use Rattle.std.specs.Prelude.{is_err}
use Rattle.law_theorem.specs.Fits.{new_stages}
use Rattle.smt_runs.specs.JobTexts.{stages_behind}
use Rattle.smt_term.specs.Enums.{enums_of}
use Rattle.smt_encode.specs.Encoded.{enums_in, nodes_in}
use Rattle.smt_runs.proofs.Between.{all_put, cause_left, fewer_left, left_balanced, none_left, piece_at, stand_at, underway_from, underway_then}
use Rattle.smt_runs.proofs.Loop.{passed_on}
use Rattle.smt_runs.proofs.script.put_steps.Goals as goal

pub loop-encoder-init : goal.loop-encoder-init
loop-encoder-init g c =
    underway_from (enums_of c.args.enums.now) c.args.nodes c.args.steps.now (g.W.Sink.contents c.args.out.now) (g.W.Sink.faults c.args.out.now) c.with_nodes-encoder.result
    c.with_nodes-encoder.ensures.nodes c.with_nodes-encoder.ensures.enums c.with_nodes-encoder.ensures.unspent c.requires.stand c.with_nodes-encoder.ensures.stands

pub loop-encoder-smaller : goal.loop-encoder-smaller
loop-encoder-smaller g c =
    let u = c.loop-encoder.invariant in
    let x = stages_behind (enums_of c.args.enums.now) u.between.done new_stages in
    let piece = piece_at (enums_in c.loop-encoder.encoder) (nodes_in c.loop-encoder.encoder) (g.W.Sink.contents c.loop-encoder.out) (g.W.Sink.contents c.put_piece-next.new.out) c.put_piece-next.result.0 x c.loop-encoder.left.now c.put_piece-next.result.1 c.in_ok-outcome.field-0 (c.in-Some.field-0-0.now ∷ c.in-Some.behind.now) c.in_ok-outcome.was c.in-Some.ensures.cases.0 (c.put_piece-next.ensures.puts x u.between.stands) in
    fewer_left (enums_of c.args.enums.now) c.args.nodes c.args.steps.now (g.W.Sink.contents c.args.out.now) (g.W.Sink.faults c.args.out.now) c.loop-encoder.encoder c.put_piece-next.result.0 c.loop-encoder.left.now c.in-Some.field-0-0.now c.in-Some.behind.now (nodes_in c.loop-encoder.encoder) x _ _ piece

pub loop-encoder-preserved : goal.loop-encoder-preserved
loop-encoder-preserved g c =
    let u = c.loop-encoder.invariant in
    let x = stages_behind (enums_of c.args.enums.now) u.between.done new_stages in
    let piece = piece_at (enums_in c.loop-encoder.encoder) (nodes_in c.loop-encoder.encoder) (g.W.Sink.contents c.loop-encoder.out) (g.W.Sink.contents c.put_piece-next.new.out) c.put_piece-next.result.0 x c.loop-encoder.left.now c.put_piece-next.result.1 c.in_ok-outcome.field-0 (c.in-Some.field-0-0.now ∷ c.in-Some.behind.now) c.in_ok-outcome.was c.in-Some.ensures.cases.0 (c.put_piece-next.ensures.puts x u.between.stands) in
    let stand = stand_at (nodes_in c.loop-encoder.encoder) c.put_piece-next.result.1 c.in_ok-outcome.field-0 (c.in-Some.field-0-0.now ∷ c.in-Some.behind.now) c.in_ok-outcome.was c.in-Some.ensures.cases.0 c.put_piece-next.ensures.stand in
    underway_then (enums_of c.args.enums.now) c.args.nodes c.args.steps.now (g.W.Sink.contents c.args.out.now) (g.W.Sink.faults c.args.out.now) c.loop-encoder.encoder c.put_piece-next.result.0 c.loop-encoder.left.now c.in-Some.field-0-0.now c.in-Some.behind.now
    (g.W.Sink.contents c.loop-encoder.out) (g.W.Sink.contents c.put_piece-next.new.out) (g.W.Sink.contents c.check_sat.new.self) (g.W.Sink.faults c.loop-encoder.out) (g.W.Sink.faults c.put_piece-next.new.out) (g.W.Sink.faults c.check_sat.new.self) u
    c.put_piece-next.ensures.numbers c.put_piece-next.ensures.enums (c.put_piece-next.ensures.spent ∙ ap is_err c.in_ok-outcome.was) stand piece c.put_piece-next.ensures.later c.in_ok-check_sat.ensures.ok c.check_sat.ensures.later

pub returns-in_default-clause-puts : goal.returns-in_default-clause-puts
returns-in_default-clause-puts g c =
    let u = c.loop-encoder.invariant in
    let x = stages_behind (enums_of c.args.enums.now) u.between.done new_stages in
    let piece = piece_at (enums_in c.loop-encoder.encoder) (nodes_in c.loop-encoder.encoder) (g.W.Sink.contents c.loop-encoder.out) (g.W.Sink.contents c.put_piece-next.new.out) c.put_piece-next.result.0 x c.loop-encoder.left.now c.put_piece-next.result.1 c.in_ok-outcome.field-0 c.in_ok-outcome.field-0.now c.in_ok-outcome.was refl (c.put_piece-next.ensures.puts x u.between.stands) in
    all_put (enums_of c.args.enums.now) c.args.nodes c.args.steps.now (g.W.Sink.contents c.args.out.now) (g.W.Sink.faults c.args.out.now) c.loop-encoder.encoder c.put_piece-next.result.0 c.loop-encoder.left.now c.in_ok-outcome.field-0.now (g.W.Sink.contents c.loop-encoder.out) (g.W.Sink.contents c.put_piece-next.new.out) (g.W.Sink.faults c.loop-encoder.out) u
    (none_left c.in_ok-outcome.field-0.now c.in_default.ensures.cases) piece

pub returns-in_err-outcome-clause-refused : goal.returns-in_err-outcome-clause-refused
returns-in_err-outcome-clause-refused g c balanced =
    let u = c.loop-encoder.invariant in
    let x = stages_behind (enums_of c.args.enums.now) u.between.done new_stages in
    cause_left (enums_of c.args.enums.now) c.args.nodes c.args.steps.now c.loop-encoder.encoder c.loop-encoder.left.now u.between (g.W.Sink.faults c.args.out.now) (g.W.Sink.faults c.loop-encoder.out) (g.W.Sink.faults c.put_piece-next.new.out) c.put_piece-next.result.1 c.from_residual.result c.in_err-outcome.field-0.0
    u.later c.in_err-outcome.was (passed_on c.from_residual.result c.in_err-outcome.field-0.0 c.from_residual.ensures.1)
    (c.put_piece-next.ensures.refused x u.between.stands (left_balanced (enums_of c.args.enums.now) c.args.nodes c.args.steps.now c.loop-encoder.encoder c.loop-encoder.left.now u.between balanced))
