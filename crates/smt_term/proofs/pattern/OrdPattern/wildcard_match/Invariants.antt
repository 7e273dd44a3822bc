use Rattle.std.proofs.Common.{◌≡◌}
use Rattle.std.specs.Str.{chars}
use Rattle.law_terms.specs.Patterns.{matches}
use Rattle.smt_term.specs.PatternSearch.{LeavesText, front_matches, front_size}
use Rattle.smt_term.specs.PatternView.{plain_ord_pattern}
use Rattle.smt_term.proofs.pattern.OrdPattern.wildcard_match.Given as goal

-- what is left decides it of all
abbrev pub invariant-loop-front : goal.invariant-loop-front
invariant-loop-front l = record { same : front_matches l.front ≡ matches (plain_ord_pattern l.self) (chars l.s); text : LeavesText l.front }

abbrev pub decreases-loop-front : goal.decreases-loop-front
decreases-loop-front l = front_size l.front
