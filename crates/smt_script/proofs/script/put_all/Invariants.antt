use Rattle.std.proofs.Common.{drop}
use Rattle.law_texts.specs.SharedTexts.{joined}
use Rattle.smt_script.proofs.PutsLemmas.{Going}
use Rattle.smt_script.proofs.script.put_all.Given as goal

abbrev pub invariant-loop-piece : goal.invariant-loop-piece
invariant-loop-piece g l = Going g.S.Sink.contents g.S.Sink.faults g.S.Sink.has_room g.S.Sink.place l.initial.sink l.sink (joined (λ p. p.now) (drop l.piece-index l.pieces)) (joined (λ p. p.now) l.pieces)
