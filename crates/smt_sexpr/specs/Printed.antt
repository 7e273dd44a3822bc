-- The printed texts of expressions.
use Rattle.std.specs.Prelude.{ℕ, List, [], ◌∷◌, ◌++◌, codes, encode_utf8_all}
use Rattle.std.specs.Fmt.{decimal}
use Rattle.law_texts.specs.Lexicon.{Atom, Bits, Number, Text, Name}
use Rattle.law_texts.specs.Reading.{Expression, Leaf, Node, Expressions, Nil, Cons}
use Rattle.law_texts.specs.LineTexts.{spaced}

-- the text of a bitvector literal: `BitVec { width: 2, v: 1 }`
abbrev pub bitvector_text : (width number : ℕ) → List ℕ
bitvector_text width number = codes "BitVec { width: " ++ (decimal width ++ (codes ", v: " ++ (decimal number ++ codes " }")))

-- the characters of these code points between quotes, as they are
abbrev pub string_text : (points : List ℕ) → List ℕ
string_text points = codes "\"" ++ (encode_utf8_all points ++ codes "\"")

-- a literal, a number in decimal, a string between quotes, or a name
abbrev pub atom_text : Atom → List ℕ
atom_text (Bits width n) = bitvector_text width n
atom_text (Number n) = decimal n
atom_text (Text points) = string_text points
atom_text (Name name) = name

-- texts in brackets, with a space between each two: `(a b)`, or `()`
abbrev pub list_text : List (List ℕ) → List ℕ
list_text texts = codes "(" ++ (spaced texts ++ codes ")")

abbrev mutual
  -- the text of an expression: an atom, or its parts in brackets with a space between each two, as `(a b)` or `()`
  pub expression_text : Expression → List ℕ
  expression_text (Leaf a) = atom_text a
  expression_text (Node es) = list_text (expression_texts es)

  -- the texts of expressions, in order
  pub expression_texts : Expressions → List (List ℕ)
  expression_texts Nil = []
  expression_texts (Cons e es) = expression_text e ∷ expression_texts es
