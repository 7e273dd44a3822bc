use Rattle.std.proofs.Common.{◌≡◌, ◌++◌, drop, List}
use Rattle.law_texts.specs.SharedTexts.{texts}
use Rattle.law_texts.specs.Reading.{Expression}
use Rattle.smt_spelling.specs.Spelled.{AreSpelled}
use Rattle.smt_spelling.proofs.Records.{selectors}
use Rattle.smt_spelling.proofs.record.selector_texts.Given as goal

-- what is made so far and what is left are all
abbrev pub invariant-loop-sort : goal.invariant-loop-sort
invariant-loop-sort l = record {
  counted : l.place ≡ l.sort-index;
  made : (es : List Expression) → AreSpelled es l.sorts → texts l.selectors.items ++ selectors l.name l.place (drop l.place es) ≡ selectors l.name 0 es;
}
