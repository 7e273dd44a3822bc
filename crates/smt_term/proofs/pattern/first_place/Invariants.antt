use Rattle.std.proofs.Common.{◌≡◌, ◌∷◌, length, map}
use Rattle.std.specs.Str.{IsUtf8, chars}
use Rattle.law_terms.specs.Patterns.{matches}
use Rattle.smt_term.specs.PatternView.{plain_part}
use Rattle.law_terms.specs.Plain.{Wildcard}
use Rattle.smt_term.proofs.pattern.first_place.Given as goal

-- the elements stand at no place before the start
abbrev pub invariant-starts : goal.invariant-starts
invariant-starts l = record { same : matches (Wildcard ∷ map plain_part l.elems) (chars l.start) ≡ matches (Wildcard ∷ map plain_part l.elems) (chars l.text); text : IsUtf8 l.start }

abbrev pub decreases-starts : goal.decreases-starts
decreases-starts l = length (chars l.start)
