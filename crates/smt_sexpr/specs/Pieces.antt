-- The pieces at the front of a text (SMT-LIB 2.7, chapter 3, Lexicon).
use Rattle.std.specs.Prelude.{◌≡◌, ℕ, Bool, false, not, ◌&&◌, ◌||◌, ◌==◌, nat_lt, IsTrue, List, [], ◌∷◌}
use Rattle.std.specs.List.{list_all}
use Rattle.law_texts.specs.Lexicon.{Piece, Quoted, Token, token, is_space, is_digit, is_symbol_byte}
use Rattle.law_texts.specs.Tokens.{StandsFirst, AreHeld, Spans}

-- A piece with these tokens stands at the front, and they are held.
pub record StandsFor (ts : List Token) (bytes rest : List ℕ) : Type 0 where
  pub piece : Piece
  pub first : StandsFirst bytes piece rest
  pub tokens_are : token piece ≡ ts
  pub held : AreHeld ts

-- white space or a comment begins
abbrev pub begins_blank : List ℕ → Bool
begins_blank [] = false
begins_blank (b ∷ bs) = is_space b || (b == 59)

-- neither white space nor a bracket nor a comment begins
abbrev pub begins_atom : List ℕ → Bool
begins_atom [] = false
begins_atom (b ∷ bs) = not (is_space b || (b == 40) || (b == 41) || (b == 59))

-- a symbol begins: a byte of a symbol that is no digit
abbrev pub begins_symbol : List ℕ → Bool
begins_symbol [] = false
begins_symbol (b ∷ bs) = not (is_digit b) && is_symbol_byte b

-- a character of ASCII that stands as itself between the quotes of a string: neither a quote nor a backslash
abbrev pub stands_as_itself : ℕ → Bool
stands_as_itself b = nat_lt b 128 && (not (b == 34) && not (b == 92))

-- A string stands at the front of a text, behind white space and comments, each of whose characters is ASCII and stands as itself,
-- and the rest follows it.
pub record HasPlainText (bytes text rest : List ℕ) : Type 0 where
  pub front : List ℕ
  pub blank : Spans bytes [] front
  pub first : StandsFirst front (Quoted text) rest
  pub plain : IsTrue (list_all stands_as_itself text)
