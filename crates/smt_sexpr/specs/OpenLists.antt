-- Lists that are open while a text is read, and what a token makes of them (SMT-LIB 2.7, chapter 3, S-expressions).
use Rattle.std.specs.Prelude.{◌≡◌, ℕ, ◌+◌, ◌≤◌, max, Bool, true, false, Option, Some, None, List, [], ◌∷◌, ◌++◌}
use Rattle.law_texts.specs.Lexicon.{Piece, Token, tokens}
use Rattle.law_texts.specs.Reading.{Expression, brackets, deepest, expressions, nesting}
use Rattle.law_texts.specs.Tokens.{IsCut, AreHeld}
use Rattle.smt_sexpr.specs.Refusals.{IsBracketFault, open_lists}
use Rattle.smt_sexpr.specs.View.{plain}
use Rattle.smt_sexpr.specs.declared.error.SExprParseError.{SExprParseError}
use Rattle.smt_sexpr.specs.declared.error.SExprParseError.TheVariants.{Memory, TrailingTokens}
use Rattle.smt_sexpr.specs.declared.expression.SExpr.{SExpr}

-- How many brackets are open at the deepest place of open lists, the outermost first.
abbrev pub levels : List (List Expression) → ℕ
levels [] = 0
levels (es ∷ lists) = max (deepest (expressions es)) (levels lists) + 1

-- The innermost list has one more expression.
pub record Adds (e : Expression) (old new : List (List Expression)) : Type 0 where
  pub outer : List (List Expression)
  pub inner : List Expression
  pub before : old ≡ outer ++ inner ∷ []
  pub after : new ≡ outer ++ (inner ++ e ∷ []) ∷ []

-- What tokens make of open lists: other open lists, or a whole expression.
abbrev pub IsNext : Option SExpr → ℕ → List (List Expression) → List Token → List (List Expression) → Type 0
IsNext None depth old ts new = (open_lists old ++ ts ≡ open_lists new) × (levels new ≤ depth)
IsNext (Some e) depth old ts new = (open_lists old ++ ts ≡ brackets (plain e)) × (nesting (plain e) ≤ depth)

-- Or they are refused, whatever follows them. Nothing that follows an expression is looked at.
abbrev pub IsStepFault : SExprParseError → ℕ → List Token → Type 0
IsStepFault Memory depth ts = Unit {0}
IsStepFault TrailingTokens depth ts = ⊥
IsStepFault e depth ts = (more : List Token) → IsBracketFault e depth (ts ++ more)

-- The bytes up to the rest are cut into pieces that are held, without a token or with one.
pub record IsScanned (blank : Bool) (bytes rest : List ℕ) : Type 0 where
  pub pieces : List Piece
  pub cut : IsCut pieces bytes rest
  pub held : AreHeld (tokens pieces)
  pub none : blank ≡ true → tokens pieces ≡ []
  pub some : blank ≡ false → (t : Token) × (ts : List Token) × (tokens pieces ≡ t ∷ ts)

-- The bytes up to the rest are cut into pieces that are held, and their tokens are those of open lists within the depth.
pub record IsOpenAt (bytes rest : List ℕ) (depth : ℕ) (lists : List (List Expression)) : Type 0 where
  pub pieces : List Piece
  pub cut : IsCut pieces bytes rest
  pub held : AreHeld (tokens pieces)
  pub tokens_are : tokens pieces ≡ open_lists lists
  pub shallow : levels lists ≤ depth
