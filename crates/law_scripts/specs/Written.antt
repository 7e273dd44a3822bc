-- Texts that write an expression, and lines.
use Rattle.std.specs.Prelude.{◌≡◌, ℕ, Bool, true, false, not, ◌&&◌, ◌||◌, IsTrue, ◌==◌, codes, map, List, [], ◌∷◌, ◌++◌, Some}
use Rattle.std.specs.List.{flat_map, list_all}
use Rattle.law_texts.specs.Lexicon.{is_printable, quote_twice, decoded, some_all, is_digit, number_in, Text, Number, Piece, spell, tokens}
use Rattle.law_texts.specs.Lexicon.{each_longest, in_script, is_plain_symbol, is_symbol, is_line_end}
use Rattle.law_texts.specs.Reading.{Leaf, Expression, brackets}
use Rattle.law_scripts.specs.Script.{Defined, is_taken, has_sort, is_sort, knows, with_name, with_assertion, Command, DeclareDatatype}
use Rattle.law_scripts.specs.Script.{DeclareConst, DefineFun, Assert, State, Script, Holds, HasWholeLines, IsWhole, group, name, stated}
use Rattle.law_scripts.specs.Script.{step}

-- nothing, white space or a bracket
abbrev pub is_apart : List ℕ → Bool
is_apart [] = true
is_apart (b ∷ rest) = (b == 32) || (b == 10) || (b == 40) || (b == 41)

-- The text is read as this expression, wherever white space or a bracket follows.
pub record ReadsAs (text : List ℕ) (e : Expression) : Type 0 where
  pub pieces : List Piece
  pub spelled : text ≡ spell pieces
  pub plain : IsTrue (list_all in_script pieces)
  pub tokens_are : tokens pieces ≡ brackets e
  pub longest : (rest : List Piece) → IsTrue (each_longest rest) → IsTrue (is_apart (spell rest)) → IsTrue (each_longest (pieces ++ rest))

-- an expression's text behind white space
pub record Item : Type 0 where
  pub gap : List ℕ
  pub text : List ℕ
  pub expr : Expression

-- spaces and line feeds
abbrev pub is_gap : List ℕ → Bool
is_gap gap = list_all (λ b. (b == 32) || (b == 10)) gap

-- at least one space or line feed, and nothing else
abbrev pub is_wide_gap : List ℕ → Bool
is_wide_gap [] = false
is_wide_gap (b ∷ gap) = is_gap (b ∷ gap)

-- the items one after the other, and what stands behind them
abbrev pub laid : List Item → List ℕ → List ℕ
laid [] end = end
laid (i ∷ is) end = i.gap ++ (i.text ++ laid is end)

-- items that are read as their expressions, each behind white space
abbrev pub AreSpread : List Item → Type 0
AreSpread [] = Unit {0}
AreSpread (i ∷ is) = IsTrue (is_wide_gap i.gap) × ReadsAs i.text i.expr × AreSpread is

-- white space may stand before the first, and stands before each other
abbrev pub AreItems : List Item → Type 0
AreItems [] = Unit {0}
AreItems (i ∷ is) = IsTrue (is_gap i.gap) × ReadsAs i.text i.expr × AreSpread is

-- items between brackets, and a gap before the closing one
abbrev pub bracketed : List Item → List ℕ → List ℕ
bracketed items gap = codes "(" ++ laid items (gap ++ codes ")")

-- the expressions of items between brackets
abbrev pub listed : List Item → Expression
listed items = group (map (λ i. i.expr) items)

-- a name as scripts may have it
abbrev pub is_name : List ℕ → Bool
is_name n = is_symbol n && is_plain_symbol n

-- A line of these commands, of which a comment has none.
pub record IsLine (line : List ℕ) (commands : List Command) : Type 0 where
  pub ends : (front : List ℕ) × (line ≡ front ++ codes "\n")
  pub holds : Holds line commands

-- ---- the laws

-- Items between brackets are read as their expressions between brackets.
abbrev pub BracketsWrite : Type 0
BracketsWrite = (items : List Item) (gap : List ℕ) → AreItems items → IsTrue (is_gap gap) → ReadsAs (bracketed items gap) (listed items)

-- A name is read as that name.
abbrev pub NamesWrite : Type 0
NamesWrite = (n : List ℕ) → IsTrue (is_name n) → ReadsAs n (name n)

-- a string, each quote in it twice
abbrev pub between_quotes : List ℕ → List ℕ
between_quotes text = codes "\"" ++ flat_map quote_twice text ++ codes "\""

-- Printable bytes between quotes, each quote in them doubled, are read as the string to which they decode.
abbrev pub StringsWrite : Type 0
StringsWrite = (text : List ℕ) → IsTrue (list_all is_printable text) → ReadsAs (between_quotes text) (Leaf (Text (decoded 0 text)))

-- Digits are read as the number that they stand for in decimal.
abbrev pub NumeralsWrite : Type 0
NumeralsWrite = (digits : List ℕ) → IsTrue (some_all is_digit digits) → ReadsAs digits (Leaf (Number (number_in 10 digits)))

-- a command's text and a line feed
abbrev pub CommandsAreLines : Type 0
CommandsAreLines = (text : List ℕ) (c : Command) → ReadsAs text (stated c) → IsLine (text ++ codes "\n") (c ∷ [])

-- A semicolon, bytes that end no line, and a line feed are a line without command.
abbrev pub CommentsAreLines : Type 0
CommentsAreLines = (text : List ℕ) → IsTrue (list_all (λ b. not (is_line_end b)) text) → IsLine (codes ";" ++ text ++ codes "\n") []

-- A line behind a whole script adds its command to what the script comes to, and nothing else.
abbrev pub LinesAdd : Type 0
LinesAdd = (text line : List ℕ) (c : Command) (s t : State) → HasWholeLines text → Script text s → IsLine line (c ∷ [])
    → (step c s ≡ Some t → Script (text ++ line) t × HasWholeLines (text ++ line)) × (Script (text ++ line) t → step c s ≡ Some t)

-- A comment behind a script with whole lines leaves what the script comes to.
abbrev pub CommentsAdd : Type 0
CommentsAdd =
    (text line : List ℕ) (s : State) → HasWholeLines text → Script text s → IsLine line [] →
    Script (text ++ line) s × HasWholeLines (text ++ line)

-- A text comes to at most one state.
abbrev pub OneState : Type 0
OneState = (bytes : List ℕ) (s t : State) → Script bytes s → Script bytes t → s ≡ t

-- ---- lines of the first commands

-- The text is a name as scripts may have it.
abbrev pub IsName : List ℕ → Type 0
IsName n = IsTrue (is_name n)

-- The line `(declare-const n S)` is read as that command.
abbrev pub DeclareConstLine : Type 0
DeclareConstLine = (n sort : List ℕ) (s : Expression) → IsName n → ReadsAs sort s
    → IsLine (codes "(declare-const " ++ n ++ codes " " ++ sort ++ codes ")\n") (DeclareConst n s ∷ [])

-- The line `(define-fun n () S e)` is read as that command.
abbrev pub DefineFunLine : Type 0
DefineFunLine = (n sort body : List ℕ) (s b : Expression) → IsName n → ReadsAs sort s → ReadsAs body b
    → IsLine (codes "(define-fun " ++ n ++ codes " () " ++ sort ++ codes " " ++ body ++ codes ")\n") (DefineFun n s b ∷ [])

-- The line `(assert e)` is read as that command.
abbrev pub AssertLine : Type 0
AssertLine = (e : List ℕ) (x : Expression) → ReadsAs e x → IsLine (codes "(assert " ++ e ++ codes ")\n") (Assert x ∷ [])

-- The text `(f x)` is read as f applied to one argument.
abbrev pub AppliedText : Type 0
AppliedText =
    (f x : List ℕ) (e : Expression) → IsName f → ReadsAs x e →
    ReadsAs (codes "(" ++ f ++ codes " " ++ x ++ codes ")") (group (name f ∷ e ∷ []))

-- the first lines of each script, which declare the datatype of options
abbrev pub option_lines : List ℕ
option_lines = codes "(declare-datatype Option (par (X) (\n  (none)\n  (some (val X)))))\n"

-- the command of those lines: the datatype `Option`, with `none`, and `some` with the selector `val`
abbrev pub option_command : Command
option_command = DeclareDatatype (codes "Option") (codes "X" ∷ [])
    (record { name = codes "none"; selectors = [] } ∷ record { name = codes "some"; selectors = (codes "val", name (codes "X")) ∷ [] } ∷ [])

-- The first lines of each script are read as that command.
abbrev pub OptionLines : Type 0
OptionLines = IsLine option_lines (option_command ∷ [])

-- ---- what the encoder uses at each line: the rules of declarations are its premises

-- a text with whole lines that is a script, comes to s, and can go on
pub record IsOpenScript (text : List ℕ) (s : State) : Type 0 where
  pub whole : HasWholeLines text
  pub script : Script text s
  pub running : IsTrue (not s.ended)

-- An open script is whole.
abbrev pub OpenScriptsAreWhole : Type 0
OpenScriptsAreWhole = (text : List ℕ) (s : State) → IsOpenScript text s → IsWhole text

-- A line `(define-fun n () S e)`, of a name that is not taken and of names that are there, leaves an open script with it.
abbrev pub DefinitionsExtend : Type 0
DefinitionsExtend =
    (text n sort body : List ℕ) (s : State) (x b : Expression) → IsOpenScript text s → IsName n → ReadsAs sort x → ReadsAs body b
    → IsTrue (not (is_taken s n)) → IsTrue (is_sort (has_sort s) x) → IsTrue (knows s b)
    → IsOpenScript (text ++ (codes "(define-fun " ++ n ++ codes " () " ++ sort ++ codes " " ++ body ++ codes ")\n"))
    (with_name n (Defined x b) s)

-- A line `(assert e)` of names that are there leaves an open script with that assertion.
abbrev pub AssertionsExtend : Type 0
AssertionsExtend = (text e : List ℕ) (s : State) (x : Expression) → IsOpenScript text s → ReadsAs e x → IsTrue (knows s x)
    → IsOpenScript (text ++ (codes "(assert " ++ e ++ codes ")\n")) (with_assertion x s)

-- A comment leaves an open script in the state in which it was.
abbrev pub CommentsExtend : Type 0
CommentsExtend = (text comment : List ℕ) (s : State) → IsOpenScript text s → IsTrue (list_all (λ b. not (is_line_end b)) comment)
    → IsOpenScript (text ++ (codes ";" ++ comment ++ codes "\n")) s
