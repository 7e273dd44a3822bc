-- What an expression of the program says, without where it lies in memory.
use Rattle.std.specs.Prelude.{◌≡◌, ℕ, List, [], ◌∷◌, map, refl}
use Rattle.std.proofs.Common.{ap, ◌∙◌}
use Rattle.std.specs.Rc.{rc_str_bytes}
use Rattle.std.specs.Str.{chars}
use Rattle.std.specs.declared.alloc.Global.{Global}
use Rattle.std.specs.declared.rc.RcStr.{RcStr}
use Rattle.smt_bits.specs.BitVec.{width_of, number_of}
use Rattle.smt_bits.specs.declared.bitvec.BitVec.{BitVec as Bitvector}
use Rattle.law_texts.specs.Lexicon.{Bits, Number, Text, Name, Token, Begin, End}
use Rattle.law_texts.specs.Reading.{Expression, Leaf, Node, Expressions, Nil, Cons, expressions, brackets, nesting}
use Rattle.smt_sexpr.specs.declared.expression.SExpr.{SExpr, BitVec, Numeral, String, Symbol, App, App', Row_of-SExpr, end_of-SExpr}
use Rattle.smt_sexpr.specs.declared.expression.SExpr.{more_of-SExpr, items-the_row-SExpr, items_hidden-the_row-SExpr-0}
use Rattle.smt_sexpr.specs.declared.expression.SExpr.TheBlock.{hidden-the_row-SExpr-0}
use Rattle.smt_sexpr.specs.declared.expression.SExprs.{SExprs}
use Rattle.smt_sexpr.specs.declared.token.Lexeme.{Lexeme}
use Rattle.smt_sexpr.specs.declared.token.Lexeme.TheVariants.{Blank, Open, Close, Atom}

unfoldable mutual
  -- what an expression of the program says: a string is its code points, a name its bytes
  pub plain : SExpr → Expression
  plain (BitVec b) = Leaf (Bits (width_of b) (number_of b))
  plain (Numeral n) = Leaf (Number n)
  plain (String s) = Leaf (Text (chars (rc_str_bytes s)))
  plain (Symbol s) = Leaf (Name (rc_str_bytes s))
  plain (App' shape row) = Node (plain_row row)

  -- what the expressions of a row say, in order
  pub plain_row : {m : _} → Row_of-SExpr m → Expressions
  plain_row end_of-SExpr = Nil
  plain_row (more_of-SExpr e rest) = Cons (plain e) (plain_row rest)

-- the expressions of a list, in order
abbrev pub items_of : SExprs → List SExpr
items_of xs = xs.items.items

-- what the expressions of a list say, in order
abbrev pub plains : SExprs → List Expression
plains xs = map plain (items_of xs)

-- what expressions say, one behind the other
abbrev pub plain_list : List SExpr → Expressions
plain_list es = expressions (map plain es)

-- What a row says is what its expressions say. This and the next are the equations of the view, by which a proof reads it.
pub plain_row-items : {m : _} (row : Row_of-SExpr m) → plain_row row ≡ expressions (map plain (items-the_row-SExpr m row))
unfolding plain plain_row
plain_row-items end_of-SExpr = refl
plain_row-items (more_of-SExpr e rest) = ap (Cons (plain e)) (plain_row-items rest)

-- what a bitvector literal says
pub plain-BitVec : (b : Bitvector) → plain (BitVec b) ≡ Leaf (Bits (width_of b) (number_of b))
unfolding plain
plain-BitVec b = refl

-- what a numeral says
pub plain-Numeral : (n : ℕ) → plain (Numeral n) ≡ Leaf (Number n)
unfolding plain
plain-Numeral n = refl

-- what a string says
pub plain-String : (s : RcStr Global) → plain (String s) ≡ Leaf (Text (chars (rc_str_bytes s)))
unfolding plain
plain-String s = refl

-- what a symbol says
pub plain-Symbol : (s : RcStr Global) → plain (Symbol s) ≡ Leaf (Name (rc_str_bytes s))
unfolding plain
plain-Symbol s = refl

-- what a list says
pub plain-App : (xs : SExprs) → plain (App xs) ≡ Node (expressions (plains xs))
unfolding plain plain_row
plain-App xs =
    ap Node
    (plain_row-items (hidden-the_row-SExpr-0 xs.items) ∙ ap (λ l. expressions (map plain l)) (items_hidden-the_row-SExpr-0 xs.items))

-- these equations together, for proofs that rewrite with them
pub ruleset views = (plain-BitVec, plain-Numeral, plain-String, plain-Symbol, plain-App)

-- the tokens of a piece
abbrev pub lexeme_tokens : Lexeme → List Token
lexeme_tokens Blank = []
lexeme_tokens Open = Begin ∷ []
lexeme_tokens Close = End ∷ []
lexeme_tokens (Atom e) = brackets (plain e)

-- what lists of expressions say
abbrev pub lists_in : List SExprs → List (List Expression)
lists_in lists = map plains lists

-- how many brackets are open at the deepest place of a piece's expression
abbrev pub lexeme_nesting : Lexeme → ℕ
lexeme_nesting Blank = 0
lexeme_nesting Open = 0
lexeme_nesting Close = 0
lexeme_nesting (Atom e) = nesting (plain e)
