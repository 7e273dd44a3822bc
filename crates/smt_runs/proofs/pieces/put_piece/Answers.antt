use Rattle.std.proofs.Common.{length, rules, subst, sym}
use Rattle.law_theorem.specs.Fits.{encoding_of}
use Rattle.law_jobs.specs.Steps.{AreBalanced}
use Rattle.smt_nodes.specs.declared.interner.Interner.{Interner}
use Rattle.smt_jobs.specs.Numbers.{steps_by}
use Rattle.smt_encode.specs.Encoded.{enums_in, nodes_in, sink_of}
use Rattle.smt_runs.proofs.Loop.{cause_handed, piece_handed}
use Rattle.smt_runs.proofs.pieces.put_piece.Goals as goal

pub returns-clause-puts : goal.returns-clause-puts
returns-clause-puts g c x stands =
    piece_handed (λ s. g.W.Sink.contents s.now) c.attach-encoder.result c.put_until_check-outcome.new.encoder c.detach-encoder.result.0 (enums_in c.args.encoder) (nodes_in c.args.encoder) x c.args.steps.now (g.W.Sink.contents c.args.out.now) _ c.put_until_check-outcome.result
    c.attach-encoder.ensures.enums c.attach-encoder.ensures.nodes (search rules) (search rules) c.detach-encoder.ensures.stands (c.put_until_check-outcome.ensures.puts x (c.attach-encoder.ensures.stands (encoding_of x) stands))

pub returns-clause-refused : goal.returns-clause-refused
returns-clause-refused g c x stands balanced =
    let there = subst (λ (n : Interner). AreBalanced (length x.below) (steps_by n c.args.steps.now)) (sym c.attach-encoder.ensures.nodes) balanced in
    cause_handed c.put_until_check-outcome.result c.args.steps.now (g.W.Sink.faults (sink_of c.attach-encoder.result).now) (g.W.Sink.faults (sink_of c.put_until_check-outcome.new.encoder).now) (g.W.Sink.faults c.args.out.now) _
    (enums_in c.attach-encoder.result) (enums_in c.args.encoder) (nodes_in c.attach-encoder.result) (nodes_in c.args.encoder) c.attach-encoder.ensures.enums c.attach-encoder.ensures.nodes (search rules) (search rules)
    (c.put_until_check-outcome.ensures.refused x (c.attach-encoder.ensures.stands (encoding_of x) stands) there)
