use Rattle.std.proofs.Common.{◌≡◌, map, take}
use Rattle.smt_term.specs.View.{plain_term}
use Rattle.smt_term.proofs.term.TermList.of_references.Given as goal

abbrev pub invariant-loop-item : goal.invariant-loop-item
invariant-loop-item l = map plain_term l.all.items ≡ map (λ item. plain_term item.now) (take l.item-index l.items)
