use Rattle.std.proofs.Common.{◌≡◌, take}
use Rattle.law_texts.specs.SharedTexts.{texts}
use Rattle.smt_term.specs.Pairs.{attributes_in}
use Rattle.smt_spelling.specs.Spelled.{AreSpelled}
use Rattle.smt_encode.specs.Alone.{sorts_given}
use Rattle.smt_encode.proofs.alone.attributes_and_sorts.Given as goal

-- the attributes and the sorts so far are those of the pairs so far
abbrev pub invariant-loop-attribute : goal.invariant-loop-attribute
invariant-loop-attribute l = record {
  attributes : texts l.attributes.items ≡ attributes_in (take l.attribute-index l.pairs);
  sorts : AreSpelled (sorts_given (take l.attribute-index l.pairs)) l.sorts.items;
}
