use Rattle.std.proofs.Common.{◌≡◌, IsTrue, ap, refl, subst, ◌∙◌}
use Rattle.std.specs.Prelude.{IfErr}
use Rattle.law_lines.specs.Lines.{Enums}
use Rattle.smt_nodes.specs.Interned.{meaning_in}
use Rattle.smt_nodes.specs.Subject.{meaning_of}
use Rattle.smt_spelling.specs.Spelled.{IsSpelled}
use Rattle.smt_spelling.specs.TextFaults.{Finds}
use Rattle.smt_spelling.specs.Names.{enums_under}
use Rattle.smt_spelling.specs.NodeLines.{encode_meaning, meaning_fault}
use Rattle.smt_encode.specs.Refusals.{write_fault}
use Rattle.smt_spelling.specs.Whole.{is_typed}
use Rattle.smt_encode.specs.Steps.{WritesHere}
use Rattle.smt_encode.specs.Stopped.{AreObeyed, Stopped}
use Rattle.smt_encode.proofs.Lines.{written_here}
use Rattle.smt_encode.proofs.Stopping.{of_errors, stopped_if_here, unput}
use Rattle.smt_encode.proofs.Stopping.{named_after}
use Rattle.smt_encode.proofs.writer.Writer.put_subject.Goals as goal

pub put_node-requires-clause-meant : goal.put_node-requires-clause-meant
put_node-requires-clause-meant g c = (meaning_of c.args.subject, ap (λ i. meaning_in i c.in_ok-id.id) c.in_ok-make_room.ensures.nodes ∙ c.in_ok-id.ensures.meaning)

pub returns-clause-lines : goal.returns-clause-lines
returns-clause-lines g c s has =
    let m = meaning_of c.args.subject in
    let meant = ap (λ i. meaning_in i c.in_ok-id.id) c.in_ok-make_room.ensures.nodes ∙ c.in_ok-id.ensures.meaning in
    let enums : enums_under c.make_room.new.self ≡ enums_under c.args.self.now.names = c.in_ok-make_room.ensures.enums ∙ c.intern_subject.ensures.enums in
    subst (λ (e : Enums). WritesHere g.S.Sink.contents c.args.self.now c.put_node.new.self (encode_meaning e m s) IsSpelled c.put_node.result) enums
    (written_here g.S.Sink.contents c.args.self.now _ c.put_node.new.self (encode_meaning (enums_under c.make_room.new.self) m s) IsSpelled c.put_node.result refl
    (c.put_node.ensures.lines m meant s (c.in_ok-make_room.ensures.tables s (c.intern_subject.ensures.tables s has))))

pub returns-clause-fault : goal.returns-clause-fault
returns-clause-fault g c =
    let m = meaning_of c.args.subject in
    let meant = ap (λ i. meaning_in i c.in_ok-id.id) c.in_ok-make_room.ensures.nodes ∙ c.in_ok-id.ensures.meaning in
    let enums : enums_under c.make_room.new.self ≡ enums_under c.args.self.now.names = c.in_ok-make_room.ensures.enums ∙ c.intern_subject.ensures.enums in
    subst (λ (e : Enums). Finds write_fault (meaning_fault e m) c.put_node.result) enums (c.put_node.ensures.fault m meant)

pub returns-in_err-id-clause-stopped : goal.returns-in_err-id-clause-stopped
returns-in_err-id-clause-stopped g c s has = of_errors _ c.from_residual.result (λ e. unput c.args.self.now _ _ e refl (c.intern_subject.ensures.tables s has))

pub returns-in_err-make_room-clause-stopped : goal.returns-in_err-make_room-clause-stopped
returns-in_err-make_room-clause-stopped g c s has = of_errors _ c.from_residual-in_err-make_room.result (λ e. unput c.args.self.now _ _ e refl (c.make_room.ensures.tables s (c.intern_subject.ensures.tables s has)))

pub returns-clause-stopped : goal.returns-clause-stopped
returns-clause-stopped g c s has =
    let m = meaning_of c.args.subject in
    let meant = ap (λ i. meaning_in i c.in_ok-id.id) c.in_ok-make_room.ensures.nodes ∙ c.in_ok-id.ensures.meaning in
    let enums : enums_under c.make_room.new.self ≡ enums_under c.args.self.now.names = c.in_ok-make_room.ensures.enums ∙ c.intern_subject.ensures.enums in
    subst (λ (k : Enums). IfErr c.put_node.result (λ e. Stopped g.S.Sink.contents (AreObeyed k (IsTrue (is_typed m)) s) c.args.self.now c.put_node.new.self (encode_meaning k m s).lines e)) enums
    (stopped_if_here g.S.Sink.contents (AreObeyed (enums_under c.make_room.new.self) (IsTrue (is_typed m)) s) c.args.self.now _ c.put_node.new.self (encode_meaning (enums_under c.make_room.new.self) m s).lines c.put_node.result refl
    (c.put_node.ensures.stopped m meant s (c.in_ok-make_room.ensures.tables s (c.intern_subject.ensures.tables s has))))

pub returns-clause-named : goal.returns-clause-named
returns-clause-named g c s has =
    let m = meaning_of c.args.subject in
    let meant = ap (λ i. meaning_in i c.in_ok-id.id) c.in_ok-make_room.ensures.nodes ∙ c.in_ok-id.ensures.meaning in
    let roomy = c.in_ok-make_room.ensures.tables s (c.intern_subject.ensures.tables s has) in
    named_after g.S.Sink.contents _ _ s _ c.put_node.new.self (encode_meaning (enums_under c.make_room.new.self) m s) IsSpelled c.put_node.result (c.put_node.ensures.lines m meant s roomy) (c.put_node.ensures.stopped m meant s roomy)
