-- Clauses of strings and patterns.
use Rattle.std.specs.Prelude.{◌≡◌, ℕ, true, List, [], ◌∷◌, map}
use Rattle.std.specs.Str.{chars}
use Rattle.law_terms.specs.Patterns.{matches}
use Rattle.law_terms.specs.Plain.{PatternPart, Character, StringLiteral, StringType, Wildcard, PlainTerm, LiteralTerm}
use Rattle.law_terms.specs.TypeValues.{Enums}
use Rattle.law_clauses.specs.Applications.{like_term}
use Rattle.law_clauses.specs.Sequents.{IsAlwaysValid, IsValid, Sequent, always, implies, ◌⊢◌}
use Rattle.law_clauses.specs.Shapes.{HasShape}
use Rattle.law_clauses.specs.Statements.{TruthOf, same_terms}

-- a wildcard matches anything
abbrev pub like_anything : PlainTerm → Sequent
like_anything t = always (TruthOf (like_term (Wildcard ∷ []) t))

-- what matches the characters of a literal is the literal; that it matches itself is known (`Known`)
abbrev pub like_literal : List ℕ → PlainTerm → Sequent
like_literal s t = implies (TruthOf (like_term (map Character (chars s)) t)) (same_terms t (LiteralTerm (StringLiteral s)))

-- what matches one pattern matches another
abbrev pub like_within : List PatternPart → List PatternPart → PlainTerm → Sequent
like_within p q t = implies (TruthOf (like_term p t)) (TruthOf (like_term q t))

-- nothing matches both patterns
abbrev pub like_apart : List PatternPart → List PatternPart → PlainTerm → Sequent
like_apart p q t = (TruthOf (like_term p t) ∷ TruthOf (like_term q t) ∷ []) ⊢ []

-- each text of one pattern is a text of another
abbrev pub ArePatternsWithin : List PatternPart → List PatternPart → Type 0
ArePatternsWithin p q = (s : List ℕ) → matches p s ≡ true → matches q s ≡ true

-- two patterns have no text in common
abbrev pub ArePatternsApart : List PatternPart → List PatternPart → Type 0
ArePatternsApart p q = (s : List ℕ) → matches p s ≡ true → matches q s ≡ true → ⊥

-- all of these are valid, the last two where the patterns are so
pub record StringsAreValid : Type 0 where
  pub anything : (t : PlainTerm) → IsAlwaysValid (like_anything t)
  pub literal :
      (enums : Enums) (roots : List PlainTerm) (s : List ℕ) (t : PlainTerm)
      → HasShape enums roots t StringType → IsValid enums roots (like_literal s t)
  pub within : (p q : List PatternPart) (t : PlainTerm) → ArePatternsWithin p q → IsAlwaysValid (like_within p q t)
  pub apart : (p q : List PatternPart) (t : PlainTerm) → ArePatternsApart p q → IsAlwaysValid (like_apart p q t)
