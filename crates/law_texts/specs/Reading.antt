-- S-expressions: brackets and atoms.
use Rattle.std.specs.Prelude.{◌≡◌, ℕ, ◌+◌, max, List, [], ◌∷◌, ◌++◌}
use Rattle.std.specs.List.{flat_map}
use Rattle.law_texts.specs.Lexicon.{Piece, Token, Begin, End, Word, Atom, IsCutInto, tokens}

mutual
  -- An S-expression: an atom, or a list between brackets (SMT-LIB 2.7, chapter 3, "S-expressions").
  pub data Expression : Type 0 where
    Leaf : Atom → Expression
    Node : Expressions → Expression

  -- the expressions of a list, in order
  pub data Expressions : Type 0 where
    Nil : Expressions
    Cons : Expression → Expressions → Expressions

-- the expressions of a list, and then others
abbrev pub followed_by : List Expression → Expressions → Expressions
followed_by [] others = others
followed_by (e ∷ es) others = Cons e (followed_by es others)

-- the expressions of a list
abbrev pub expressions : List Expression → Expressions
expressions es = followed_by es Nil

abbrev mutual
  -- the brackets and atoms of an expression
  pub brackets : Expression → List Token
  brackets (Leaf a) = Word a ∷ []
  brackets (Node es) = Begin ∷ (inside es ++ End ∷ [])

  -- the brackets and atoms of several expressions
  pub inside : Expressions → List Token
  inside Nil = []
  inside (Cons e es) = brackets e ++ inside es

abbrev mutual
  -- How many brackets are open at the deepest place: none at a leaf, and one more than inside.
  pub nesting : Expression → ℕ
  nesting (Leaf a) = 0
  nesting (Node es) = deepest es + 1

  -- how many brackets are open at the deepest place of several expressions
  pub deepest : Expressions → ℕ
  deepest Nil = 0
  deepest (Cons e es) = max (nesting e) (deepest es)

-- The tokens of the text are these expressions: the text can be cut into pieces that have exactly their brackets and atoms.
pub record Reads (bytes : List ℕ) (es : List Expression) : Type 0 where
  pub pieces : List Piece
  pub cut : IsCutInto bytes pieces
  pub tokens_are : tokens pieces ≡ flat_map brackets es

-- A text has at most one reading.
abbrev pub OneReading : Type 0
OneReading = (bytes : List ℕ) (es fs : List Expression) → Reads bytes es → Reads bytes fs → es ≡ fs
