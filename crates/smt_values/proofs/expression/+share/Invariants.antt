use Rattle.std.proofs.Common.{◌≡◌, map, take}
use Rattle.smt_values.specs.ValueView.{plain_expression}
use Rattle.smt_values.proofs.expression.+share.Given as goal

-- what is made says what those so far say
abbrev pub invariant-ExprList::share-loop-item : goal.invariant-ExprList::share-loop-item
invariant-ExprList::share-loop-item l = map plain_expression l.items.items ≡ map plain_expression (take l.item-index l.item-items)
