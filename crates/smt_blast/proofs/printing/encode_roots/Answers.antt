use Rattle.std.proofs.Common.{rules, ◌∙◌, ap}
use Rattle.smt_nodes.specs.View.{ids_of}
use Rattle.smt_blast.proofs.Written.{encode_refused, stand_there, written}
use Rattle.smt_blast.proofs.printing.encode_roots.Goals as goal

pub returns-clause-puts : goal.returns-clause-puts
returns-clause-puts g c ts e =
    let begun = c.with_nodes-encoder.ensures in
    written (λ s. g.W.Sink.contents s.now) c.with_nodes-encoder.result c.encode_nodes-outcome.new.self c.encode_nodes-outcome.result ts _ _ (begun.enums ∙ c.new-enums.ensures) (ap (λ s. g.W.Sink.contents s.now) begun.sink) (let last = ap (λ s. g.W.Sink.contents s.now) c.into_script-lent.ensures in (search rules))
    (c.encode_nodes-outcome.ensures.stated ts (stand_there c.args.blasted.nodes _ (ids_of c.args.blasted.roots) c.items.result.now ts (begun.nodes ∙ c.replace-nodes.ensures.value) c.items.ensures e) begun.fresh)

pub returns-clause-refused : goal.returns-clause-refused
returns-clause-refused g c ts e none =
    let begun = c.with_nodes-encoder.ensures in
    encode_refused (λ s. g.W.Sink.faults s.now) c.with_nodes-encoder.result c.encode_nodes-outcome.new.self c.encode_nodes-outcome.result ts _ _ (begun.enums ∙ c.new-enums.ensures) (ap (λ s. g.W.Sink.faults s.now) begun.sink) (let last = ap (λ s. g.W.Sink.faults s.now) c.into_script-lent.ensures in (search rules))
    none begun.unspent (c.encode_nodes-outcome.ensures.refused ts (stand_there c.args.blasted.nodes _ (ids_of c.args.blasted.roots) c.items.result.now ts (begun.nodes ∙ c.replace-nodes.ensures.value) c.items.ensures e)) c.encode_nodes-outcome.ensures.spent
