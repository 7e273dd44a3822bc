use denote.Text.{Utf8}
use denote.Shadow.{shadow}
use Rattle.std.proofs.Common.{drop, codes, []}
use Rattle.law_texts.specs.LineTexts.{sorted_name}
use Rattle.law_texts.specs.SharedTexts.{text_pairs}
use Rattle.law_texts.proofs.Joined.{joined_from}
use Rattle.smt_script.proofs.PutsLemmas.{Going}
use Rattle.smt_script.proofs.script.put_variables.Given as goal

abbrev pub invariant-loop-name : goal.invariant-loop-name
invariant-loop-name g l = record {
  is_text : shadow (Utf8 l.gap);
  going : Going g.S.Sink.contents g.S.Sink.faults g.S.Sink.has_room g.S.Sink.place l.fn.sink l.sink
      (joined_from sorted_name l.gap (codes " ") (text_pairs (drop l.name-index l.variables))) (joined_from sorted_name [] (codes " ") (text_pairs l.variables));
}
