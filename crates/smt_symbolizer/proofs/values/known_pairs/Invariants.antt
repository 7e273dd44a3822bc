use Rattle.std.proofs.Common.{drop, map}
use Rattle.smt_values.specs.ValueView.{known_field, named_field}
use Rattle.law_cedar.specs.Tables as stated
use Rattle.smt_values.proofs.Walks.{Walking}
use Rattle.smt_symbolizer.proofs.values.known_pairs.Given as goal

-- what is made and what is left are all
abbrev pub invariant-loop-name : goal.invariant-loop-name
invariant-loop-name l = Walking (λ p. stated.known_field (known_field p)) (map named_field l.pairs.items) (drop l.name-index l.name-items) l.name-items
