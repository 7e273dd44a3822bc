use Rattle.std.proofs.Common.{◌≡◌, map, drop}
use Rattle.law_terms.specs.TermSets.{sorted_terms}
use Rattle.smt_term.specs.View.{plain_term}
use Rattle.law_terms.proofs.SortedSets.{put_all}
use Rattle.smt_term.proofs.term.TermSet.new.Given as goal

-- what is found, with what is left put in its place, is the whole in order
abbrev pub invariant-loop-item : goal.invariant-loop-item
invariant-loop-item l = put_all (map plain_term l.found.keys) (map plain_term (drop l.item-index l.items)) ≡ sorted_terms (map plain_term l.items)
