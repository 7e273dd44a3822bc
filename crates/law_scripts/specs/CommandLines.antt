-- The texts of sorts and expressions, and the lines of all commands.
use Rattle.std.specs.Prelude.{◌≡◌, ℕ, true, not, IsTrue, codes, map, List, [], ◌∷◌, ◌++◌, Option, Some, None}
use Rattle.law_scripts.specs.ScriptValues.{BitsOf}
use Rattle.law_texts.specs.Lexicon.{Number}
use Rattle.law_texts.specs.Reading.{Expression, Leaf}
use Rattle.law_scripts.specs.Numerals.{numbered, numeral}
use Rattle.law_scripts.specs.Script.{Command, Constructor, DeclareDatatype, DeclareFun, SetLogic, SetOption, CheckSat, GetModel, Reset}
use Rattle.law_scripts.specs.Script.{Exit, Push, Pop, DefineFun, Assert, constructor, group, name, start, State, Script, HasWholeLines}
use Rattle.law_scripts.specs.Script.{obey, step}
use Rattle.law_numbers.specs.Widths.{are_bits}
use Rattle.law_scripts.specs.Sorts.{Entries, bit_sort, bool_sort, expression_sort}
use Rattle.law_scripts.specs.Value.{Meaning, evaluate}
use Rattle.law_scripts.specs.Written.{ReadsAs, IsLine, IsName, is_gap, IsOpenScript}

-- ---- any number of arguments

-- a text, and what it writes
pub record Part : Type 0 where
  pub text : List ℕ
  pub expr : Expression

-- Each part's text is read as its expression.
abbrev pub AreWritten : List Part → Type 0
AreWritten [] = Unit {0}
AreWritten (p ∷ ps) = ReadsAs p.text p.expr × AreWritten ps

-- a space before each, and what stands behind them
abbrev pub spaced_parts : List Part → List ℕ → List ℕ
spaced_parts [] end = end
spaced_parts (p ∷ ps) end = codes " " ++ (p.text ++ spaced_parts ps end)

-- `(f x y)`, and `(f )` by a gap
abbrev pub GroupsWrite : Type 0
GroupsWrite = (head : List ℕ) (h : Expression) (ps : List Part) (gap : List ℕ) → ReadsAs head h → AreWritten ps → IsTrue (is_gap gap)
    → ReadsAs (codes "(" ++ (head ++ spaced_parts ps (gap ++ codes ")"))) (group (h ∷ map (λ p. p.expr) ps))

-- ---- literals and their sorts

-- `(_ bvX n)` as a text: the number X at n bits
abbrev pub bits_text : (width number : ℕ) → List ℕ
bits_text width number = codes "(_ bv" ++ (numeral number ++ (codes " " ++ (numeral width ++ codes ")")))

-- a literal of bits: `(_ bvX n)`, the number X at n bits (logic QF_BV)
abbrev pub bits : (width number : ℕ) → Expression
bits width number = group (name (codes "_") ∷ name (numbered (codes "bv") number) ∷ Leaf (Number width) ∷ [])

-- The text of a literal of bits is read as that literal.
abbrev pub BitsWrite : Type 0
BitsWrite = (width number : ℕ) → ReadsAs (bits_text width number) (bits width number)

-- The text `(_ BitVec n)` is read as the sort of n bits.
abbrev pub BitSortsWrite : Type 0
BitSortsWrite = (width : ℕ) → ReadsAs (codes "(_ BitVec " ++ (numeral width ++ codes ")")) (bit_sort width)

-- A literal of bits has its number as its value, whatever is declared, where that is a number of the width.
abbrev pub BitsHaveValues : Type 0
BitsHaveValues =
    (here : Entries) (env : Meaning) (width number : ℕ) → are_bits width number ≡ true →
    evaluate here env (bits width number) ≡ Some (BitsOf width number)

-- ---- lines

-- a constructor's text
pub record ConstructorPart : Type 0 where
  pub text : List ℕ
  pub built : Constructor

-- Each text is read as the declaration of its constructor.
abbrev pub AreConstructors : List ConstructorPart → Type 0
AreConstructors [] = Unit {0}
AreConstructors (c ∷ cs) = ReadsAs c.text (constructor c.built) × AreConstructors cs

-- each on a line of its own, behind two spaces
abbrev pub below_each : List ConstructorPart → List ℕ → List ℕ
below_each [] end = end
below_each (c ∷ cs) end = codes "\n  " ++ (c.text ++ below_each cs end)

-- each constructor on a line of its own behind two spaces; where there is none, one such start of a line alone
abbrev pub constructor_lines : List ConstructorPart → List ℕ → List ℕ
constructor_lines [] end = codes "\n  " ++ end
constructor_lines (c ∷ cs) end = below_each (c ∷ cs) end

-- The line `(declare-datatype d (C ..))` is read as that command, for a datatype without parameters.
abbrev pub DatatypeLine : Type 0
DatatypeLine = (d : List ℕ) (cs : List ConstructorPart) → IsName d → AreConstructors cs
    → IsLine (codes "(declare-datatype " ++ (d ++ (codes " (" ++ constructor_lines cs (codes "))\n"))))
    (DeclareDatatype d [] (map (λ c. c.built) cs) ∷ [])

-- `(c (s S) ..)`; behind a gap where there is no selector, `(c )`
abbrev pub SelectorsWrite : Type 0
SelectorsWrite =
    (c : Constructor) (ps : List Part) (gap : List ℕ) → IsName c.name → AreWritten ps → IsTrue (is_gap gap) →
    map (λ p. p.expr) ps ≡ map (λ s. group (name s.0 ∷ s.1 ∷ [])) c.selectors
    → ReadsAs (codes "(" ++ (c.name ++ spaced_parts ps (gap ++ codes ")"))) (constructor c)

-- The line `(declare-fun f (A) S)` is read as that command.
abbrev pub DeclareFunLine : Type 0
DeclareFunLine = (f argument sort : List ℕ) (a s : Expression) → IsName f → ReadsAs argument a → ReadsAs sort s
    → IsLine (codes "(declare-fun " ++ (f ++ (codes " (" ++ (argument ++ (codes ") " ++ (sort ++ codes ")\n")))))) (DeclareFun f a s ∷ [])

-- The line `(set-logic L)` is read as that command.
abbrev pub SetLogicLine : Type 0
SetLogicLine = (l : List ℕ) → IsName l → IsLine (codes "(set-logic " ++ l ++ codes ")\n") (SetLogic l ∷ [])

-- The line `(set-option :o v)` is read as that command.
abbrev pub SetOptionLine : Type 0
SetOptionLine =
    (o v : List ℕ) (e : Expression) → IsName (codes ":" ++ o) → ReadsAs v e →
    IsLine (codes "(set-option " ++ (codes ":" ++ o) ++ codes " " ++ v ++ codes ")\n") (SetOption o e ∷ [])

-- The lines of the commands that have no operand, and those of `(push 1)` and `(pop 1)`, are read as these commands.
abbrev pub PlainLines : Type 0
PlainLines =
    IsLine (codes "(check-sat)\n") (CheckSat ∷ []) × IsLine (codes "(get-model)\n") (GetModel ∷ [])
    × IsLine (codes "(reset)\n") (Reset ∷ [])
    × IsLine (codes "(exit)\n") (Exit ∷ []) × IsLine (codes "(push 1)\n") (Push ∷ []) × IsLine (codes "(pop 1)\n") (Pop ∷ [])

-- a line at the end of an open script, whose command is obeyed, leaves an open script
abbrev pub CommandsExtend : Type 0
CommandsExtend =
    (text line : List ℕ) (c : Command) (s t : State) → IsOpenScript text s → IsLine line (c ∷ []) → obey c s ≡ Some t →
    IsTrue (not t.ended) → IsOpenScript (text ++ line) t

-- ---- well-sorted scripts

-- A script is well sorted command by command: each body has its definition's sort by the declarations that stand before
-- it, and each assertion the sort Bool by the declarations that are live where it stands. This is the one notion of a
-- well-sorted script. The last state would not do, since `(pop 1)` and `(reset)` take names and assertions away.

-- a definition's body has the definition's sort, and an assertion the sort Bool, in the state before the command
abbrev pub IsSortedCommand : State → Command → Type 0
IsSortedCommand s (DefineFun f sort body) = expression_sort s body ≡ Some sort
IsSortedCommand s (Assert e) = expression_sort s e ≡ Some bool_sort
IsSortedCommand s c = Unit {0}

-- there is a state, and P holds of it
abbrev pub OnState : (State → Type 0) → Option State → Type 0
OnState P None = ⊥
OnState P (Some s) = P s

-- Each of the commands is well sorted in the state in which it stands, from a state on, and each is obeyed.
abbrev pub AreSorted : List Command → State → Type 0
AreSorted [] s = Unit {0}
AreSorted (c ∷ cs) s = IsSortedCommand s c × OnState (AreSorted cs) (step c s)

-- The text is a well-sorted script, and this is what it comes to.
pub record SortedScript (bytes : List ℕ) (state : State) : Type 0 where
  pub script : Script bytes state
  pub sorted : AreSorted script.commands start

-- A line behind a well-sorted script with whole lines, whose command is well sorted and obeyed, leaves a well-sorted script.
abbrev pub SortedLinesAdd : Type 0
SortedLinesAdd =
    (text line : List ℕ) (c : Command) (s t : State) → HasWholeLines text → SortedScript text s → IsLine line (c ∷ []) → step c s ≡ Some t →
    IsSortedCommand s c → SortedScript (text ++ line) t

-- A comment behind a well-sorted script with whole lines leaves it well sorted, and in the same state.
abbrev pub SortedCommentsAdd : Type 0
SortedCommentsAdd =
    (text line : List ℕ) (s : State) → HasWholeLines text → SortedScript text s → IsLine line [] → SortedScript (text ++ line) s
