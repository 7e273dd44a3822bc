use Rattle.smt_script.specs.Bytes.{bytes_in}
use Rattle.smt_stream.proofs.Linked.{reads}
use Rattle.smt_stream.proofs.link.MiniLinkLink.read_line.Goals as goal

pub returns-in-Ok-clause-reads : goal.returns-in-Ok-clause-reads
returns-in-Ok-clause-reads c =
    reads c.args.self.now c.left-left.result.now (bytes_in c.args.line.now) (bytes_in c.append.new.self) c.next_line-count.result.0 c.args.limit c.next_line-count.result.1 c.left-left.ensures c.next_line-count.ensures.ending c.in-Ok.ensures.ok
