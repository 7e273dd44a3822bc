-- Texts as tokens within the limits of a reader (SMT-LIB 2.7, chapter 3, Lexicon and S-expressions).
use Rattle.std.specs.Prelude.{◌≡◌, ℕ, ◌^◌, ◌≤◌, nat_le, nat_lt, Bool, true, IsTrue, List, [], ◌∷◌, ◌++◌}
use Rattle.std.specs.List.{list_all}
use Rattle.std.proofs.Math.Utf8.{scalars}
use Rattle.law_texts.specs.Lexicon.{Piece, spelling, is_piece, stops, Bits, Number, Text, Name, Token, Begin, End, Word, tokens}
use Rattle.law_texts.specs.Reading.{Expression, brackets, nesting, Reads}

-- The piece stands at the front of the bytes, the longest that stands there, and the rest follows it.
pub record StandsFirst (bytes : List ℕ) (x : Piece) (rest : List ℕ) : Type 0 where
  pub spelled : bytes ≡ spelling x ++ rest
  pub is_one : IsTrue (is_piece x)
  pub longest : IsTrue (stops x rest)

-- The bytes are cut into these pieces, each the longest that stands there, and the rest follows them.
abbrev pub IsCut : List Piece → List ℕ → List ℕ → Type 0
IsCut [] bytes rest = bytes ≡ rest
IsCut (x ∷ xs) bytes rest = (after : List ℕ) × StandsFirst bytes x after × IsCut xs after rest

-- What is held: literals of at most 128 bits, numerals below 2 to the 128, and strings of characters, which no surrogate is.
abbrev pub is_held : Token → Bool
is_held Begin = true
is_held End = true
is_held (Word (Bits width n)) = nat_le width 128
is_held (Word (Number n)) = nat_lt n (2 ^ 128)
is_held (Word (Text points)) = scalars points
is_held (Word (Name bytes)) = true

-- Each of the tokens is held.
abbrev pub AreHeld : List Token → Type 0
AreHeld ts = IsTrue (list_all is_held ts)

-- The bytes before the rest are these tokens, and each is held.
pub record Spans (bytes : List ℕ) (ts : List Token) (rest : List ℕ) : Type 0 where
  pub pieces : List Piece
  pub cut : IsCut pieces bytes rest
  pub tokens_are : tokens pieces ≡ ts
  pub held : AreHeld ts

-- The whole text is these tokens, and each is held.
abbrev pub HasTokens : List ℕ → List Token → Type 0
HasTokens bytes ts = Spans bytes ts []

-- The text is this one expression, each atom is held, and at most so many brackets are open at a place.
pub record IsReadWithin (bytes : List ℕ) (depth : ℕ) (e : Expression) : Type 0 where
  pub reads : Reads bytes (e ∷ [])
  pub held : AreHeld (brackets e)
  pub shallow : nesting e ≤ depth

-- The same, however many brackets are open.
pub record IsRead (bytes : List ℕ) (e : Expression) : Type 0 where
  pub reads : Reads bytes (e ∷ [])
  pub held : AreHeld (brackets e)
