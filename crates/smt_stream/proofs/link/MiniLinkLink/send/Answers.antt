use Rattle.std.proofs.Common.{sym, ◌∙◌}
use Rattle.smt_stream.proofs.Linked.{sends}
use Rattle.smt_stream.proofs.link.MiniLinkLink.send.Goals as goal

pub returns-clause-sends : goal.returns-clause-sends
returns-clause-sends c = sends c.args.self.now c.take.new.self c.args.bytes.now c.take.result (sym c.end.ensures ∙ c.in-Running.is) c.take.ensures.sent c.take.ensures.broken c.take.ensures.refusal
