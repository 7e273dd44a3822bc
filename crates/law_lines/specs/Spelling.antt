-- Expressions, as scripts have them, and their bytes.
use Rattle.std.specs.Prelude.{ℕ, codes, List, [], ◌++◌}
pub use Rattle.law_scripts.specs.Numerals.{numeral}
use Rattle.law_texts.specs.Quoting.{quoted}
use Rattle.law_texts.specs.Lexicon.{Atom, Bits, Name, Number, Text}
use Rattle.law_texts.specs.Reading.{Expression, Leaf, Node, Expressions, Nil, Cons}

-- The bytes of an atom (SMT-LIB 2.7, chapter 3, "Lexicon"): a name as it is, a numeral in base 10, a string between quotes.
abbrev pub spelled_atom : Atom → List ℕ
-- no line has one
spelled_atom (Bits width n) = []
spelled_atom (Name text) = text
spelled_atom (Number n) = numeral n
spelled_atom (Text characters) = quoted characters

abbrev mutual
  -- The bytes of an expression. One space stands between parts, and behind a head that stands alone.
  pub spelled : Expression → List ℕ
  spelled (Leaf a) = spelled_atom a
  spelled (Node es) = codes "(" ++ (spelled_inside es ++ codes ")")

  -- the bytes between the parentheses of a list: its head, and what stands behind it
  pub spelled_inside : Expressions → List ℕ
  spelled_inside Nil = []
  spelled_inside (Cons e es) = spelled e ++ spelled_operands es

  -- the bytes behind a head
  pub spelled_operands : Expressions → List ℕ
  spelled_operands Nil = codes " "
  spelled_operands (Cons e es) = codes " " ++ (spelled e ++ spelled_others es)

  -- the bytes behind the first operand
  pub spelled_others : Expressions → List ℕ
  spelled_others Nil = []
  spelled_others (Cons e es) = codes " " ++ (spelled e ++ spelled_others es)
