use Rattle.std.proofs.Common.{◌≡◌, Option, None, ap, subst, sym}
use Rattle.std.specs.Prelude.{OnOk}
use Rattle.law_terms.specs.Faults.{Fault}
use Rattle.law_lines.specs.Lines.{EncodeCall, PopCall, PushCall}
use Rattle.law_theorem.specs.Fits.{encoding_of}
use Rattle.smt_encode.specs.Encoded.{enums_in, nodes_in, sink_of}
use Rattle.smt_encode.specs.Refusals.{HasCause}
use Rattle.smt_jobs.specs.Numbers.{step_by, terms_of}
use Rattle.smt_runs.proofs.StepCalls.{assertion_stands, fault_alone, step_got, step_stands_then}
use Rattle.smt_runs.proofs.pieces.put_step.Goals as goal

pub encode_nodes-requires : goal.encode_nodes-requires
encode_nodes-requires g c =
    let nodes = nodes_in c.args.encoder.now in
    record { stand = (terms_of nodes c.in-Assert.ids.items, assertion_stands nodes c.args.step.now c.in-Assert.ids c.as_slice.result.now c.in-Assert.is c.requires.stands c.as_slice.ensures.value) }

pub returns-in-Assert-clause-got : goal.returns-in-Assert-clause-got
returns-in-Assert-clause-got g c x stands =
    let nodes = nodes_in c.args.encoder.now in
    let ts = terms_of nodes c.in-Assert.ids.items in
    step_got g.S.Sink.contents c.args.encoder.now c.encode_nodes.new.self c.encode_nodes.result (EncodeCall ts) (step_by nodes c.args.step.now) x (ap (step_by nodes) c.in-Assert.is)
    (c.encode_nodes.ensures.called ts (assertion_stands nodes c.args.step.now c.in-Assert.ids c.as_slice.result.now c.in-Assert.is c.requires.stands c.as_slice.ensures.value) (encoding_of x) stands)

pub returns-in-Assert-clause-stands : goal.returns-in-Assert-clause-stands
returns-in-Assert-clause-stands g c x stands =
    let nodes = nodes_in c.args.encoder.now in
    let ts = terms_of nodes c.in-Assert.ids.items in
    step_stands_then g.S.Sink.contents c.args.encoder.now c.encode_nodes.new.self c.encode_nodes.result (EncodeCall ts) (step_by nodes c.args.step.now) x (ap (step_by nodes) c.in-Assert.is)
    (c.encode_nodes.ensures.called ts (assertion_stands nodes c.args.step.now c.in-Assert.ids c.as_slice.result.now c.in-Assert.is c.requires.stands c.as_slice.ensures.value) (encoding_of x) stands)

pub returns-in-Assert-clause-faultless : goal.returns-in-Assert-clause-faultless
returns-in-Assert-clause-faultless g c =
    let nodes = nodes_in c.args.encoder.now in
    let ts = terms_of nodes c.in-Assert.ids.items in
    let complete = c.encode_nodes.ensures.complete ts (assertion_stands nodes c.args.step.now c.in-Assert.ids c.as_slice.result.now c.in-Assert.is c.requires.stands c.as_slice.ensures.value) in
    subst (λ (f : Option Fault). OnOk c.encode_nodes.result (f ≡ None)) (sym (fault_alone (enums_in c.args.encoder.now) (step_by nodes c.args.step.now) ts (ap (step_by nodes) c.in-Assert.is))) complete.faultless

pub returns-in-Assert-clause-refused : goal.returns-in-Assert-clause-refused
returns-in-Assert-clause-refused g c x stands balanced =
    let nodes = nodes_in c.args.encoder.now in
    let ts = terms_of nodes c.in-Assert.ids.items in
    subst (λ (f : Option Fault). HasCause (g.S.Sink.faults (sink_of c.args.encoder.now)) (g.S.Sink.faults (sink_of c.encode_nodes.new.self)) f c.encode_nodes.result)
    (sym (fault_alone (enums_in c.args.encoder.now) (step_by nodes c.args.step.now) ts (ap (step_by nodes) c.in-Assert.is)))
    (c.encode_nodes.ensures.refused ts (assertion_stands nodes c.args.step.now c.in-Assert.ids c.as_slice.result.now c.in-Assert.is c.requires.stands c.as_slice.ensures.value))

pub returns-in-Push-clause-got : goal.returns-in-Push-clause-got
returns-in-Push-clause-got g c x stands =
    let nodes = nodes_in c.args.encoder.now in
    step_got g.S.Sink.contents c.args.encoder.now c.push.new.self c.push.result PushCall (step_by nodes c.args.step.now) x (ap (step_by nodes) c.in-Push.is) (c.push.ensures.called (encoding_of x) stands)

pub returns-in-Push-clause-stands : goal.returns-in-Push-clause-stands
returns-in-Push-clause-stands g c x stands =
    let nodes = nodes_in c.args.encoder.now in
    step_stands_then g.S.Sink.contents c.args.encoder.now c.push.new.self c.push.result PushCall (step_by nodes c.args.step.now) x (ap (step_by nodes) c.in-Push.is) (c.push.ensures.called (encoding_of x) stands)

pub returns-in-Pop-clause-got : goal.returns-in-Pop-clause-got
returns-in-Pop-clause-got g c x stands =
    let nodes = nodes_in c.args.encoder.now in
    step_got g.S.Sink.contents c.args.encoder.now c.pop.new.self c.pop.result PopCall (step_by nodes c.args.step.now) x (ap (step_by nodes) c.in-Pop.is) (c.pop.ensures.called (encoding_of x) stands)

pub returns-in-Pop-clause-stands : goal.returns-in-Pop-clause-stands
returns-in-Pop-clause-stands g c x stands =
    let nodes = nodes_in c.args.encoder.now in
    step_stands_then g.S.Sink.contents c.args.encoder.now c.pop.new.self c.pop.result PopCall (step_by nodes c.args.step.now) x (ap (step_by nodes) c.in-Pop.is) (c.pop.ensures.called (encoding_of x) stands)
