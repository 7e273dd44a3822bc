use Rattle.std.proofs.Common.{◌≡◌, Ok, List, map, take}
use Rattle.law_texts.specs.Reading.{Expression}
use Rattle.law_lines.specs.Line.{Assert}
use Rattle.law_lines.specs.NameTables.{Tables}
use Rattle.smt_encode.specs.Steps.{FaultCounted, HasTables, Wrote}
use Rattle.smt_spelling.specs.Spelled.{AreSpelled}
use Rattle.smt_script.specs.declared.sink.SinkError.TheVariants.{Fault}
use Rattle.smt_encode.proofs.writer.Writer.put_assertions.Given as goal

abbrev pub invariant-loop-text : goal.invariant-loop-text
invariant-loop-text g l = record {
  cause : FaultCounted {T = Unit {0}} g.S.Sink.faults g.S.Sink.place Fault l.fn.self l.self (Ok tt);
  names : l.self.names ≡ l.fn.self.names;
  going : (s : Tables) (es : List Expression) → HasTables l.fn.self s → AreSpelled es l.texts → Wrote g.S.Sink.contents l.fn.self l.self (map Assert (take l.text-index es)) s;
}
