use denote.Text.{Utf8}
use denote.Shadow.{shadow}
use Rattle.std.proofs.Common.{drop, []}
use Rattle.law_texts.specs.SharedTexts.{texts}
use Rattle.law_texts.proofs.Joined.{joined_from}
use Rattle.smt_script.proofs.PutsLemmas.{Going}
use Rattle.smt_script.proofs.script.put_joined.Given as goal

abbrev pub invariant-loop-item : goal.invariant-loop-item
invariant-loop-item g l = record {
  is_text : shadow (Utf8 l.gap);
  going : Going g.S.Sink.contents g.S.Sink.faults g.S.Sink.has_room g.S.Sink.place l.fn.sink l.sink
      (joined_from (λ x. x) l.gap l.separator (texts (drop l.item-index l.items))) (joined_from (λ x. x) [] l.separator (texts l.items));
}
