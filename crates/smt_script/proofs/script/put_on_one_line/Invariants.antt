use Rattle.std.proofs.Common.{map, length}
use Rattle.law_texts.specs.LineTexts.{in_comment}
use Rattle.smt_script.proofs.PutsLemmas.{Going}
use Rattle.smt_script.proofs.script.put_on_one_line.Given as goal

abbrev pub invariant-loop-end : goal.invariant-loop-end
invariant-loop-end g l = Going g.S.Sink.contents g.S.Sink.faults g.S.Sink.has_room g.S.Sink.place l.fn.sink l.sink (map in_comment l.left) (map in_comment l.fn.text)

abbrev pub decreases-loop-end : goal.decreases-loop-end
decreases-loop-end g l = length l.left
