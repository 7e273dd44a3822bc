use Rattle.std.proofs.Common.{◌≡◌, ℕ, ◌≤◌, [], length, List}
use Rattle.law_texts.specs.Reads.{skip_space}
use Rattle.law_texts.specs.Tokens.{Spans}
use Rattle.smt_sexpr.proofs.front.without_blanks.Given as goal

abbrev pub invariant-loop-after : goal.invariant-loop-after
invariant-loop-after l = Spans l.src [] l.rest × ((from : List ℕ) × (l.rest ≡ skip_space from)) × (length l.rest ≤ length l.src)

abbrev pub decreases-loop-after : goal.decreases-loop-after
decreases-loop-after l = length l.rest
