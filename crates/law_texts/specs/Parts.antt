-- The parts of S-expressions (SMT-LIB 2.7, chapter 3, S-expressions): what an expression is, and what stands in a list of them.
use Rattle.std.specs.Prelude.{ℕ, bytes_eq, encode_utf8_all, List, Option, Some, None}
use Rattle.std.specs.Bool.{then_some}
use Rattle.std.specs.Option.{option_and_then}
use Rattle.std.proofs.Math.Utf8.{scalars}
use Rattle.law_texts.specs.Lexicon.{Name, Number, Text}
use Rattle.law_texts.specs.Reading.{Expression, Leaf, Node, Expressions, Nil, Cons}

-- the name that an expression is, if it is a symbol
abbrev pub name_in : Expression → Option (List ℕ)
name_in (Leaf (Name n)) = Some n
name_in e = None

-- what stands between the quotes of a string, in UTF-8; nothing of a string with a surrogate, which is no character
abbrev pub text_in : Expression → Option (List ℕ)
text_in (Leaf (Text points)) = then_some (scalars points) (encode_utf8_all points)
text_in e = None

-- the number that an expression is, if it is a numeral
abbrev pub number_in : Expression → Option ℕ
number_in (Leaf (Number n)) = Some n
number_in e = None

-- what stands in brackets, if the expression is a list
abbrev pub inside_of : Expression → Option Expressions
inside_of (Node es) = Some es
inside_of e = None

-- the one expression of a list that has exactly one
abbrev pub sole : Expressions → Option Expression
sole (Cons e Nil) = Some e
sole es = None

-- the two expressions of a list that has exactly two
abbrev pub both : Expressions → Option (Expression × Expression)
both (Cons d (Cons e Nil)) = Some (d, e)
both es = None

-- the three expressions of a list that has exactly three
abbrev pub three : Expressions → Option (Expression × Expression × Expression)
three (Cons d (Cons e (Cons f Nil))) = Some (d, e, f)
three es = None

-- the first expression of a list
abbrev pub first_in : Expressions → Option Expression
first_in (Cons e es) = Some e
first_in Nil = None

-- the first expression of a list, and those behind it
abbrev pub first_apart : Expressions → Option (Expression × Expressions)
first_apart Nil = None
first_apart (Cons e es) = Some (e, es)

-- the one expression in brackets
abbrev pub sole_in : Expression → Option Expression
sole_in e = option_and_then sole (inside_of e)

-- the two expressions in brackets, if there are exactly two
abbrev pub pair_in : Expression → Option (Expression × Expression)
pair_in e = option_and_then both (inside_of e)

-- the three expressions in brackets, if there are exactly three
abbrev pub triple_in : Expression → Option (Expression × Expression × Expression)
triple_in e = option_and_then three (inside_of e)

-- the text of the one expression of a list
abbrev pub sole_text : Expressions → Option (List ℕ)
sole_text (Cons e Nil) = text_in e
sole_text es = None

-- what stands behind this head in brackets: `..` of `(head ..)`
abbrev pub section : List ℕ → Expression → Option Expressions
section head (Node (Cons (Leaf (Name n)) es)) = then_some (bytes_eq head n) es
section head e = None
