use Rattle.smt_script.specs.Bytes.{bytes_in}
use Rattle.smt_solve.proofs.LineLemmas.{HasPart}
use Rattle.smt_solve.proofs.child_line.append_line.Given as goal

abbrev pub invariant-loop : goal.invariant-loop
invariant-loop g l = HasPart (g.B.Read.remaining l.fn.reader) (g.B.Read.remaining l.reader) (bytes_in l.fn.line) (bytes_in l.line) l.limit l.room
