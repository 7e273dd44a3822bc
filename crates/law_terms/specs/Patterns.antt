-- Patterns over lists of code points: a regular expression of the theory UnicodeStrings that joins single characters
-- and (re.* re.allchar).
use Rattle.std.specs.Prelude.{◌≡◌, ℕ, Bool, true, false, ◌&&◌, ◌||◌, ◌==◌, List, [], ◌∷◌, ◌++◌, Decides}
use Rattle.law_terms.specs.Plain.{PatternPart, Character, Wildcard}

-- The list is one that the pattern takes: a character is itself, and a wildcard any list of characters.
abbrev pub Matches : List PatternPart → List ℕ → Type 0
Matches [] s = s ≡ []
Matches (Character c ∷ p) s = (rest : List ℕ) × (s ≡ c ∷ rest) × Matches p rest
Matches (Wildcard ∷ p) s = (skipped : List ℕ) × (rest : List ℕ) × (s ≡ skipped ++ rest) × Matches p rest

-- some end of the list passes the test
abbrev pub some_end : (List ℕ → Bool) → List ℕ → Bool
some_end test [] = test []
some_end test (c ∷ s) = test (c ∷ s) || some_end test s

-- whether the pattern takes the list, as a test; the meaning of terms and that of scripts both have it from here
abbrev pub matches : List PatternPart → List ℕ → Bool
matches [] [] = true
matches [] (c ∷ s) = false
matches (Character c ∷ p) [] = false
matches (Character c ∷ p) (d ∷ s) = c == d && matches p s
matches (Wildcard ∷ p) s = some_end (λ rest. matches p rest) s

-- the test says exactly when a pattern matches
abbrev pub MatchingIsDecided : Type 0
MatchingIsDecided = (p : List PatternPart) (s : List ℕ) → Decides (matches p s) (Matches p s)
