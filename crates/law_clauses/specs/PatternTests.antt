-- Tests on two patterns: whether one takes each text of the other, and whether they have a text in common.
use Rattle.std.specs.Prelude.{ℕ, Bool, true, false, ◌&&◌, ◌||◌, ◌==◌, List, [], ◌∷◌, IsFalse, IsTrue}
use Rattle.std.specs.List.{list_all}
use Rattle.law_terms.specs.Plain.{PatternPart, Character, Wildcard}
use Rattle.law_clauses.specs.Strings.{ArePatternsApart, ArePatternsWithin}

-- some end of a pattern passes the test
abbrev pub some_end_of : (List PatternPart → Bool) → List PatternPart → Bool
some_end_of test [] = test []
some_end_of test (x ∷ p) = test (x ∷ p) || some_end_of test p

-- Whether a pattern takes each text of another, found out as if this were a text: a character takes the same character alone, and a
-- wildcard any parts, wildcards among them.
abbrev pub takes_all : List PatternPart → List PatternPart → Bool
takes_all [] [] = true
takes_all [] (x ∷ p) = false
takes_all (Character c ∷ q) [] = false
takes_all (Character c ∷ q) (Character d ∷ p) = c == d && takes_all q p
takes_all (Character c ∷ q) (Wildcard ∷ p) = false
takes_all (Wildcard ∷ q) p = some_end_of (λ rest. takes_all q rest) p

-- a part that may stand for nothing
abbrev pub is_wildcard : PatternPart → Bool
is_wildcard Wildcard = true
is_wildcard (Character c) = false

-- what is left of a pattern behind a character that it takes passes the test, in some way to take it: after a wildcard that takes it
-- the wildcard is still there
abbrev pub some_after : ℕ → (List PatternPart → Bool) → List PatternPart → Bool
some_after c test [] = false
some_after c test (Character d ∷ q) = c == d && test q
some_after c test (Wildcard ∷ q) = test (Wildcard ∷ q) || some_after c test q

-- whether two patterns have a text in common
abbrev pub may_meet : List PatternPart → List PatternPart → Bool
may_meet [] q = list_all is_wildcard q
may_meet (Character c ∷ p) q = some_after c (λ rest. may_meet p rest) q
may_meet (Wildcard ∷ p) q = some_end_of (λ rest. may_meet p rest) q

-- Patterns that the tests find within another, or without a text in common, are so. What they do not find is left open.
pub record PatternTestsHold : Type 0 where
  pub within : (p q : List PatternPart) → IsTrue (takes_all q p) → ArePatternsWithin p q
  pub apart : (p q : List PatternPart) → IsFalse (may_meet p q) → ArePatternsApart p q
