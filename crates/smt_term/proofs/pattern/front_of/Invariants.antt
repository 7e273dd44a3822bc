use Rattle.std.proofs.Common.{length, map}
use Rattle.std.specs.Str.{IsUtf8, chars}
use Rattle.smt_term.specs.PatternSearch.{Passes}
use Rattle.smt_term.specs.PatternView.{plain_part}
use Rattle.smt_term.proofs.pattern.front_of.Given as goal

-- the characters passed so far are equal
abbrev pub invariant-loop-first : goal.invariant-loop-first
invariant-loop-first l = record { passed : Passes (map plain_part l.elems) (chars l.text) (map plain_part l.left) (chars l.rest); text : IsUtf8 l.rest }

abbrev pub decreases-loop-first : goal.decreases-loop-first
decreases-loop-first l = length l.left
