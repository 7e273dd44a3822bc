use Rattle.std.proofs.Common.{IsTrue}
use Rattle.smt_spelling.specs.Whole.{is_typed}
use Rattle.smt_spelling.specs.Names.{enums_under}
use Rattle.smt_spelling.specs.NodeLines.{encode_meaning}
use Rattle.smt_spelling.specs.Spelled.{IsSpelled}
use Rattle.smt_encode.proofs.Stopping.{stopped_if_err, written_if_ok}
use Rattle.smt_encode.proofs.writer.Writer.put_node.Goals as goal

pub returns-clause-lines : goal.returns-clause-lines
returns-clause-lines g c m meant s has =
    let enums = enums_under c.args.self.now.names in
    written_if_ok g.S.Sink.contents enums (IsTrue (is_typed m)) s c.args.self.now c.encode_node.new.self (encode_meaning enums m s) IsSpelled c.encode_node.result (c.encode_node.ensures.lines m meant s has)

pub returns-clause-stopped : goal.returns-clause-stopped
returns-clause-stopped g c m meant s has =
    let enums = enums_under c.args.self.now.names in
    stopped_if_err g.S.Sink.contents enums (IsTrue (is_typed m)) s c.args.self.now c.encode_node.new.self (encode_meaning enums m s) IsSpelled c.encode_node.result (c.encode_node.ensures.lines m meant s has)
