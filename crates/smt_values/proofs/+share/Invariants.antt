use Rattle.std.proofs.Common.{◌≡◌, map, take}
use Rattle.smt_values.specs.TypeView.{named_attribute}
use Rattle.smt_values.proofs.+share.Given as goal

-- what is made says what those so far say
abbrev pub invariant-attributes::Attributes::share-loop-name : goal.invariant-attributes::Attributes::share-loop-name
invariant-attributes::Attributes::share-loop-name l = map named_attribute l.pairs.items ≡ map named_attribute (take l.name-index l.name-items)
