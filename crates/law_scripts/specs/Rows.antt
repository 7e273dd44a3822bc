-- Samples of what is a script and what is none.
use Rattle.std.specs.Prelude.{◌≡◌, ℕ, Bool, true, false, codes, map, List, [], ◌∷◌, ◌++◌, Option, Some, None, is_some}
use Rattle.law_scripts.specs.ScriptValues.{ScriptValue, TruthOf, BitsOf, TextOf, ConstructorOf, SetOf, no_script_values, one_script_value}
use Rattle.law_texts.specs.Lexicon.{is_space, is_digit, is_hexadecimal, Piece, Space, Comment, Open, Close, Quoted, Binary, Hexadecimal}
use Rattle.law_texts.specs.Lexicon.{Numeral, Symbol, is_symbol, is_piece, spell, each_longest, decoded, Bits, Number, Text, Name, Begin}
use Rattle.law_texts.specs.Lexicon.{End, Word, tokens, in_script}
use Rattle.law_texts.specs.Reading.{Expression, Leaf}
use Rattle.law_scripts.specs.Script.{State, Script, Command, DeclareDatatype, DeclareConst, DefineFun, Assert, DeclareFun, Reset, Exit}
use Rattle.law_scripts.specs.Script.{Push, Pop, Builds, start, empty_level, run, name, group, look_up, assertions_of}
use Rattle.law_scripts.specs.Sorts.{Entries, bit_sort, bool_sort, string_sort, set_sort, option_sort, sort_in, has_sort_in}
use Rattle.law_scripts.specs.Value.{Table, ScriptInterpretation, Meaning, IsScriptInterpretation, IsModel, applied_selectors, in_table}
use Rattle.law_scripts.specs.Value.{expression_value, evaluate, is_table, is_other}
use Rattle.law_scripts.specs.Written.{option_lines, option_command}
use Rattle.law_scripts.specs.CommandLines.{AreSorted, SortedScript}
use Rattle.law_scripts.specs.Meanings.{indexed_by}

-- a Boolean constant, a name defined as its negation, and an assertion of that name
abbrev pub sample : List ℕ
sample =
    option_lines
    ++ (codes "; \"b\"\n" ++ (codes "(declare-const t0 Bool)\n" ++ (codes "(define-fun t1 () Bool (not t0))\n" ++ codes "(assert t1)\n")))

-- this script has exactly one model on t0
abbrev pub SampleIsScript : Type 0
SampleIsScript = (s : State) × Script sample s × (assertions_of s ≡ name (codes "t1") ∷ [])
    × ((j : ScriptInterpretation) → j.constants (codes "t0") ≡ TruthOf false → IsModel j s)
    ×
    ((j : ScriptInterpretation) → j.constants (codes "t0") ≡ TruthOf true → expression_value j s (name (codes "t1")) ≡ Some (TruthOf false))

-- an enum type, and a variable of it that is the second member
abbrev pub enum_sample : List ℕ
enum_sample = option_lines ++ (codes "; Color::[a, b]\n" ++ (codes "(declare-datatype E0 (\n  (E0_m0)\n  (E0_m1)))\n" ++ (codes "; \"c\"\n"
    ++ (codes "(declare-const t0 E0)\n" ++ (codes "(define-fun t2 () Bool (= t0 E0_m1))\n" ++ codes "(assert t2)\n")))))

-- its models are just those in which t0 is that member, and one is there
abbrev pub EnumSampleIsScript : Type 0
EnumSampleIsScript = (s : State) × SortedScript enum_sample s × (assertions_of s ≡ name (codes "t2") ∷ [])
    × ((j : ScriptInterpretation) → IsModel j s → j.constants (codes "t0") ≡ ConstructorOf 1 (codes "E0_m1") no_script_values)
    × ((j : ScriptInterpretation) → j.constants (codes "t0") ≡ ConstructorOf 1 (codes "E0_m1") no_script_values →
    IsScriptInterpretation j s × IsModel j s)

-- a record type without attributes: every interpretation is a model
abbrev pub record_sample : List ℕ
record_sample =
    option_lines
    ++ (codes "; {}\n"
    ++ (codes "(declare-datatype R0 (\n  (R0 )))\n"
    ++ (codes "; \"r\"\n"
    ++ (codes "(declare-const t0 R0)\n"
    ++ (codes "(define-fun t1 () R0 R0)\n" ++ (codes "(define-fun t2 () Bool (= t0 t1))\n" ++ codes "(assert t2)\n"))))))

-- its interpretations are those that give t0 the one record there is, and each is a model
abbrev pub RecordSampleIsScript : Type 0
RecordSampleIsScript = (s : State) × SortedScript record_sample s × (assertions_of s ≡ name (codes "t2") ∷ [])
    × ((j : ScriptInterpretation) → j.constants (codes "t0") ≡ ConstructorOf 0 (codes "R0") no_script_values → IsScriptInterpretation j s)
    × ((j : ScriptInterpretation) → IsScriptInterpretation j s →
    (j.constants (codes "t0") ≡ ConstructorOf 0 (codes "R0") no_script_values) × IsModel j s)

-- a level and its names go with `(pop 1)`
abbrev pub level_sample : List ℕ
level_sample =
    option_lines
    ++ (codes "; \"b\"\n"
    ++ (codes "(declare-const t0 Bool)\n"
    ++ (codes "(assert t0)\n"
    ++ (codes "(push 1)\n"
    ++ (codes "(define-fun t1 () Bool (not t0))\n"
    ++ (codes "(assert t1)\n"
    ++ (codes "(pop 1)\n" ++ (codes "; \"c\"\n" ++ (codes "(declare-const t1 Bool)\n" ++ codes "(assert t1)\n")))))))))

-- it asserts t0 and the second t1; behind one more `(pop 1)` it would be no script, since level 0 stays
abbrev pub LevelSampleIsScript : Type 0
LevelSampleIsScript = (s : State) × SortedScript level_sample s × (assertions_of s ≡ name (codes "t0") ∷ name (codes "t1") ∷ [])
    × ((t : State) → Script (level_sample ++ codes "(pop 1)\n") t → ⊥)

-- a constant of this sort and an assertion on it, in a level that goes
abbrev pub gone_sample : List ℕ → List ℕ
gone_sample sort =
    codes "(push 1)\n" ++ (codes "(declare-const t0 " ++ (sort ++ (codes ")\n" ++ (codes "(assert t0)\n" ++ codes "(pop 1)\n"))))

-- a definition whose body is of another sort
abbrev pub body_sample : List ℕ
body_sample = codes "(define-fun t0 () Bool \"\")\n"

-- a script that comes to this state, and is not well sorted
abbrev pub IsIllSorted : List ℕ → State → Type 0
IsIllSorted text s = Script text s × ((t : State) → SortedScript text t → ⊥)

-- Samples of a script that is well sorted, and of two that are not.
pub record SortedSamples : Type 0 where
  -- Both leave nothing, so the last state does not tell which one is well sorted. The assertion on a Bool is, though its
  -- constant is gone at the end. The assertion on a String is not, though it is gone itself.
  pub sorted : SortedScript (gone_sample (codes "Bool")) start
  pub ill_sorted : IsIllSorted (gone_sample (codes "String")) start
  pub body : (s : State) × IsIllSorted body_sample s

-- a name that nothing declares is used
abbrev pub UseBeforeDeclarationIsNone : Type 0
UseBeforeDeclarationIsNone = (s : State) → Script (codes "(assert t0)\n") s → ⊥

-- a name is declared twice
abbrev pub TwiceDeclaredIsNone : Type 0
TwiceDeclaredIsNone = (s : State) → Script (codes "(declare-const t0 Bool)\n" ++ codes "(declare-const t0 Bool)\n") s → ⊥

-- whether commands are obeyed
abbrev pub is_obeyed : List Command → Bool
is_obeyed cs = is_some (run cs start)

-- `(declare-const x Bool)`
abbrev pub declare_x : Command
declare_x = DeclareConst (codes "x") bool_sort

-- a datatype d with one constructor c, which has these selectors
abbrev pub declare_d : List (List ℕ × Expression) → Command
declare_d selectors = DeclareDatatype (codes "d") [] (record { name = codes "c"; selectors = selectors } ∷ [])

-- a datatype d that has the constructor c twice
abbrev pub twice_c : Command
twice_c = DeclareDatatype (codes "d") [] (record { name = codes "c"; selectors = [] } ∷ record { name = codes "c"; selectors = [] } ∷ [])

-- a constant whose sort is that of bits of this width
abbrev pub of_width : ℕ → List Command
of_width n = DeclareConst (codes "x") (bit_sort n) ∷ []

-- Samples of commands that are obeyed from the empty state, and of commands that are not.
pub record CommandRows : Type 0 where
  -- a level's names go with it, and all go with `reset`; a sort and a constructor may have one name
  pub obeyed :
      map is_obeyed ((declare_x ∷ Assert (name (codes "x")) ∷ []) ∷ (Push ∷ declare_x ∷ Pop ∷ declare_x ∷ [])
      ∷ (declare_x ∷ Reset ∷ declare_x ∷ []) ∷ (DeclareDatatype (codes "x") [] (record { name = codes "x"; selectors = [] } ∷ []) ∷ [])
      ∷ (option_command ∷ DeclareConst (codes "o") (option_sort bool_sort) ∷ []) ∷ []) ≡ true ∷ true ∷ true ∷ true ∷ true ∷ []
  -- a name declared twice, also by another command or in one datatype; a sort declared twice
  pub twice :
      map is_obeyed ((declare_x ∷ declare_x ∷ []) ∷ (declare_x ∷ DeclareFun (codes "x") bool_sort bool_sort ∷ [])
      ∷ (declare_x ∷ Push ∷ declare_x ∷ []) ∷ (twice_c ∷ [])
      ∷ (declare_d [] ∷ DeclareDatatype (codes "d") [] (record { name = codes "e"; selectors = [] } ∷ []) ∷ []) ∷ [])
      ≡ false ∷ false ∷ false ∷ false ∷ false ∷ []
  -- a name that is not there yet, or no longer: in a body, in its own body, in its own datatype, behind `pop`
  pub absent :
      map is_obeyed ((DefineFun (codes "f") bool_sort (name (codes "x")) ∷ []) ∷ (DefineFun (codes "f") bool_sort (name (codes "f")) ∷ [])
      ∷ (declare_d ((codes "s", name (codes "d")) ∷ []) ∷ []) ∷ (Push ∷ declare_x ∷ Pop ∷ Assert (name (codes "x")) ∷ [])
      ∷ (DeclareConst (codes "x") (name (codes "d")) ∷ []) ∷ (Pop ∷ []) ∷ []) ≡ false ∷ false ∷ false ∷ false ∷ false ∷ false ∷ []
  -- keywords and words of the grammar, and a sort without its argument
  pub reserved :
      map is_obeyed ((DeclareConst (codes ":x") bool_sort ∷ []) ∷ (DeclareConst (codes "_") bool_sort ∷ [])
      ∷ (DeclareConst (codes "as") bool_sort ∷ []) ∷ (option_command ∷ DeclareConst (codes "o") (name (codes "Option")) ∷ []) ∷ [])
      ≡ false ∷ false ∷ false ∷ false ∷ []
  -- no built-in name can be declared
  pub built_in :
      map (λ n. is_obeyed (DeclareConst n bool_sort ∷ [])) (codes "true" ∷ codes "false" ∷ codes "not" ∷ codes "and" ∷ codes "or"
      ∷ codes "=" ∷ codes "ite" ∷ codes "zero_extend" ∷ codes "bvsmulo" ∷ codes "str.in_re" ∷ codes "str.to_re" ∷ codes "re.++"
      ∷ codes "re.*" ∷ codes "re.allchar" ∷ codes "set.empty" ∷ codes "set.insert" ∷ codes "set.inter" ∷ [])
      ≡ false ∷ false ∷ false ∷ false ∷ false ∷ false ∷ false ∷ false ∷ false ∷ false ∷ false ∷ false ∷ false ∷ false ∷ false ∷ false
      ∷ false ∷ []
  -- nor a built-in sort; d is none
  pub built_in_sort :
      map (λ n. is_obeyed (DeclareDatatype n [] (record { name = codes "c"; selectors = [] } ∷ []) ∷ []))
      (codes "Bool" ∷ codes "String" ∷ codes "Set" ∷ codes "BitVec" ∷ codes "d" ∷ []) ≡ false ∷ false ∷ false ∷ false ∷ true ∷ []
  -- the widths are those from 1 to 128
  pub widths : map (λ n. is_obeyed (of_width n)) (0 ∷ 1 ∷ 128 ∷ 129 ∷ []) ≡ false ∷ true ∷ true ∷ false ∷ []
  -- nothing behind `exit` is obeyed, and `reset` leaves nothing
  pub exit : run (Exit ∷ Assert (name (codes "x")) ∷ []) start ≡ Some (record { last = empty_level; below = []; ended = true })
  pub reset : run (declare_x ∷ Push ∷ Assert (name (codes "x")) ∷ Reset ∷ []) start ≡ Some start
  -- assertions stand in the order of the script, over all levels
  pub asserted : (s : State) →
      run (Assert (name (codes "true")) ∷ Push ∷ Assert (name (codes "false")) ∷ Push ∷ Assert (name (codes "true")) ∷ []) start ≡ Some s
      → assertions_of s ≡ name (codes "true") ∷ name (codes "false") ∷ name (codes "true") ∷ []

-- a built-in name or sort is declared
abbrev pub BuiltInDeclaredIsNone : Type 0
BuiltInDeclaredIsNone = ((s : State) → Script (codes "(declare-const bvadd Bool)\n") s → ⊥)
    × ((s : State) → Script (codes "(declare-datatype String (\n  (a)))\n") s → ⊥)
    × CommandRows

-- a piece of each kind but a numeral, with white space where the text needs it
abbrev pub mixed_pieces : List Piece
mixed_pieces =
    Comment (codes "x") ∷ Space 10 ∷ Open ∷ Quoted (codes "a\"b") ∷ Binary (codes "01") ∷ Space 32 ∷ Hexadecimal (codes "fF")
    ∷ Symbol (codes "s") ∷ Close ∷ []

-- Samples of the lexicon: of bytes, pieces and tokens (SMT-LIB 2.7, chapter 3, "Lexicon").
pub record LexiconRows : Type 0 where
  -- tab, LF, form feed, CR and the space; vertical tab and the no-break space are none
  pub spaces : map is_space (9 ∷ 10 ∷ 11 ∷ 12 ∷ 13 ∷ 32 ∷ 160 ∷ []) ≡ true ∷ true ∷ false ∷ true ∷ true ∷ true ∷ false ∷ []
  -- the bytes on both sides of each range
  pub digits : map is_digit (codes "/09:") ≡ false ∷ true ∷ true ∷ false ∷ []
  pub hexadecimal :
      map is_hexadecimal (codes "09afAF/:@G`g")
      ≡ true ∷ true ∷ true ∷ true ∷ true ∷ true ∷ false ∷ false ∷ false ∷ false ∷ false ∷ false ∷ []
  pub symbols :
      map is_symbol (codes "a1" ∷ codes "<=" ∷ codes "1a" ∷ [] ∷ codes "a b" ∷ codes "a;" ∷ codes "a\"" ∷ codes "a(" ∷ [])
      ≡ true ∷ true ∷ false ∷ false ∷ false ∷ false ∷ false ∷ false ∷ []
  -- a symbol is UTF-8: e with an accent is two bytes, of which one alone is none
  pub utf8 :
      map is_piece
      (Symbol (195 ∷ 169 ∷ []) ∷ Symbol (97 ∷ 195 ∷ 169 ∷ 49 ∷ []) ∷ Symbol (195 ∷ []) ∷ Symbol (233 ∷ []) ∷ Symbol (97 ∷ 255 ∷ []) ∷ [])
      ≡ true ∷ true ∷ false ∷ false ∷ false ∷ []
  -- vertical tab; line ends in a comment; literals without digits or with others
  pub no_pieces :
      map is_piece (Space 11 ∷ Comment (codes "x\n") ∷ Comment (codes "x\r") ∷ Binary [] ∷ Binary (codes "2") ∷ Hexadecimal (codes "g")
      ∷ Numeral [] ∷ []) ≡ false ∷ false ∷ false ∷ false ∷ false ∷ false ∷ false ∷ []
  pub spelled : spell mixed_pieces ≡ codes ";x\n(\"a\"\"b\"#b01 #xfFs)"
  -- a CR ends a comment, and a quote ends a symbol
  pub longest :
      map each_longest (mixed_pieces ∷ (Comment (codes "x") ∷ Space 13 ∷ []) ∷ (Symbol (codes "a") ∷ Quoted (codes "b") ∷ []) ∷ [])
      ≡ true ∷ true ∷ true ∷ []
  -- each of these texts is one piece
  pub cut_short :
      map each_longest ((Symbol (codes "a") ∷ Symbol (codes "b") ∷ []) ∷ (Numeral (codes "1") ∷ Numeral (codes "2") ∷ [])
      ∷ (Quoted (codes "a") ∷ Quoted (codes "b") ∷ []) ∷ (Comment (codes "x") ∷ Symbol (codes "y") ∷ [])
      ∷ (Binary (codes "0") ∷ Numeral (codes "1") ∷ []) ∷ (Hexadecimal (codes "0") ∷ Symbol (codes "f") ∷ []) ∷ [])
      ≡ false ∷ false ∷ false ∷ false ∷ false ∷ false ∷ []
  pub tokens_of :
      tokens (Space 32 ∷ Comment (codes "x") ∷ Open ∷ Binary (codes "110") ∷ Hexadecimal (codes "1f") ∷ Hexadecimal (codes "F")
      ∷ Numeral (codes "120") ∷ Quoted (codes "\\u{41}\"") ∷ Symbol (codes "a") ∷ Close ∷ [])
      ≡ Begin ∷ Word (Bits 3 6) ∷ Word (Bits 8 31) ∷ Word (Bits 4 15) ∷ Word (Number 120) ∷ Word (Text (codes "A\""))
      ∷ Word (Name (codes "a")) ∷ End ∷ []
  -- the last code point and the first past it; no digit; two digits without braces; one digit in braces
  pub last_escape : decoded 0 (codes "\\u{2ffff}\\u{30000}\\u{}\\u41\\u{A}") ≡ 196607 ∷ (codes "\\u{30000}\\u{}\\u41" ++ 10 ∷ [])
  pub in_scripts :
      map in_script (Comment (233 ∷ []) ∷ Symbol (codes "~!@$%^&*_-+=<>.?/a1") ∷ Symbol (codes ":a") ∷ Quoted (codes " ~") ∷ [])
      ≡ true ∷ true ∷ true ∷ true ∷ []
  -- form feed; bytes outside 32 to 126 in a string; bars, a colon inside and an apostrophe in a symbol
  pub in_no_script :
      map in_script (Space 12 ∷ Quoted (codes "\n") ∷ Quoted (127 ∷ []) ∷ Quoted (233 ∷ []) ∷ Symbol (codes "|a|") ∷ Symbol (codes "a:b")
      ∷ Symbol (codes "a'") ∷ []) ≡ false ∷ false ∷ false ∷ false ∷ false ∷ false ∷ false ∷ []

-- Escapes of four digits and in braces are decoded; another letter, a value above 2FFFF and six digits are no escapes.
abbrev pub EscapesDecode : Type 0
EscapesDecode =
    (decoded 0 (codes "a\\u{5c}\\u0041\\x\\u{32344}") ≡ codes "a\\A\\x\\u{32344}") × (decoded 0 (codes "\\u{01dcef}") ≡ codes "\\u{01dcef}")
    × LexiconRows

-- ---- values

-- nothing is declared
abbrev pub nothing_there : Entries
nothing_there n = None

-- no declared name has a value
abbrev pub nothing_meant : Meaning
nothing_meant n s vs = None

-- `(f e ..)`
abbrev pub sample_application : List ℕ → List Expression → Expression
sample_application f es = group (name f ∷ es)

-- `(_ bvX n)`, by the name `bvX` and the width n
abbrev pub sample_bits : List ℕ → ℕ → Expression
sample_bits number width = group (name (codes "_") ∷ name number ∷ Leaf (Number width) ∷ [])

-- The expression has this value, or none, where nothing is declared.
abbrev pub SampleHasValue : Expression → Option ScriptValue → Type 0
SampleHasValue e v = evaluate nothing_there nothing_meant e ≡ v

-- The expression is true where nothing is declared.
abbrev pub Yes : Expression → Type 0
Yes e = SampleHasValue e (Some (TruthOf true))

-- The expression is false where nothing is declared.
abbrev pub No : Expression → Type 0
No e = SampleHasValue e (Some (TruthOf false))

-- `(f a b)` at two literals of 8 bits
abbrev pub two : List ℕ → List ℕ → List ℕ → Expression
two f a b = sample_application f (sample_bits a 8 ∷ sample_bits b 8 ∷ [])

-- `(str.to_re "c")`, the pattern of one character
abbrev pub character : ℕ → Expression
character c = sample_application (codes "str.to_re") (Leaf (Text (c ∷ [])) ∷ [])

-- `(re.* re.allchar)`, the pattern that any text matches
abbrev pub wildcard : Expression
wildcard = sample_application (codes "re.*") (name (codes "re.allchar") ∷ [])

-- `(str.in_re "text" r)`
abbrev pub like : List ℕ → Expression → Expression
like text r = sample_application (codes "str.in_re") (Leaf (Text text) ∷ r ∷ [])

-- `(as set.empty (Set Bool))`
abbrev pub empty_set : Expression
empty_set = sample_application (codes "as") (name (codes "set.empty") ∷ sample_application (codes "Set") (name (codes "Bool") ∷ []) ∷ [])

-- `(f a b)`
abbrev pub of_two : List ℕ → Expression → Expression → Expression
of_two f a b = sample_application f (a ∷ b ∷ [])

-- `(set.insert e .. (as set.empty (Set Bool)))`
abbrev pub set_of : List Expression → Expression
set_of es = sample_application (codes "set.insert") (es ++ empty_set ∷ [])

-- `true`
abbrev pub t : Expression
t = name (codes "true")

-- `false`
abbrev pub f : Expression
f = name (codes "false")

-- a string of this text
abbrev pub word : List ℕ → Expression
word text = Leaf (Text text)

-- the values of expressions where nothing is declared
abbrev pub values : List Expression → List (Option ScriptValue)
values es = map (evaluate nothing_there nothing_meant) es

-- these truths, as the values of expressions
abbrev pub truths_are : List Bool → List (Option ScriptValue)
truths_are bs = map (λ b. Some (TruthOf b)) bs

-- two entries with one key, of which the first counts
abbrev pub a_table : Table
a_table = record { pairs = (TruthOf true, BitsOf 8 1) ∷ (TruthOf true, BitsOf 8 2) ∷ []; default = BitsOf 8 3 }

-- Samples of what operators give, and of what a table gives.
pub record ScriptValueRows : Type 0 where
  pub negated :
      values (sample_application (codes "not") (t ∷ []) ∷ sample_application (codes "not") (f ∷ []) ∷ []) ≡ truths_are (false ∷ true ∷ [])
  pub both :
      values (of_two (codes "and") t t ∷ of_two (codes "and") t f ∷ of_two (codes "and") f t ∷ of_two (codes "and") f f ∷ [])
      ≡ truths_are (true ∷ false ∷ false ∷ false ∷ [])
  pub either :
      values (of_two (codes "or") t t ∷ of_two (codes "or") t f ∷ of_two (codes "or") f t ∷ of_two (codes "or") f f ∷ [])
      ≡ truths_are (true ∷ true ∷ true ∷ false ∷ [])
  pub equal :
      values (of_two (codes "=") (word (codes "a")) (word (codes "a")) ∷ of_two (codes "=") (word (codes "a")) (word (codes "b")) ∷ [])
      ≡ truths_are (true ∷ false ∷ [])
  pub chosen :
      values (sample_application (codes "ite") (t ∷ word (codes "a") ∷ word (codes "b") ∷ [])
      ∷ sample_application (codes "ite") (f ∷ word (codes "a") ∷ word (codes "b") ∷ []) ∷ [])
      ≡ Some (TextOf (codes "a")) ∷ Some (TextOf (codes "b")) ∷ []
  -- at two equal numbers, and at 3 and -7
  pub equal_bits :
      values (map (λ o. two o (codes "bv3") (codes "bv3")) (codes "bvult" ∷ codes "bvule" ∷ codes "bvslt" ∷ codes "bvsle" ∷ []))
      ≡ truths_are (false ∷ true ∷ false ∷ true ∷ [])
  pub signed_bits :
      values (map (λ o. two o (codes "bv3") (codes "bv249")) (codes "bvult" ∷ codes "bvule" ∷ codes "bvslt" ∷ codes "bvsle" ∷ []))
      ≡ truths_are (true ∷ true ∷ false ∷ false ∷ [])
  pub members :
      values (of_two (codes "set.member") t (set_of (t ∷ [])) ∷ of_two (codes "set.member") f (set_of (t ∷ [])) ∷ [])
      ≡ truths_are (true ∷ false ∷ [])
  pub subsets :
      values (of_two (codes "set.subset") (set_of (t ∷ [])) (set_of (t ∷ f ∷ []))
      ∷ of_two (codes "set.subset") (set_of (t ∷ f ∷ [])) (set_of (t ∷ [])) ∷ []) ≡ truths_are (true ∷ false ∷ [])
  pub common :
      values (of_two (codes "set.inter") (set_of (t ∷ f ∷ [])) (set_of (t ∷ [])) ∷ [])
      ≡ Some (SetOf (one_script_value (TruthOf true) no_script_values)) ∷ []
  -- a wrong number of arguments, or arguments of another kind
  pub nothing :
      values (sample_application (codes "and") (t ∷ []) ∷ of_two (codes "and") t (word (codes "a"))
      ∷ of_two (codes "bvadd") (sample_bits (codes "bv1") 8) (sample_bits (codes "bv1") 16) ∷ sample_bits (codes "bv0") 129
      ∷ name (codes "x") ∷ []) ≡ None ∷ None ∷ None ∷ None ∷ None ∷ []
  pub looked_up : map (in_table a_table) (TruthOf true ∷ TruthOf false ∷ []) ≡ BitsOf 8 1 ∷ BitsOf 8 3 ∷ []

-- ---- sorts

-- a datatype d is declared, with a constructor c without field and a constructor e with a field of 8 bits
abbrev pub two_there : Entries
two_there n = look_up n ((codes "c", Builds (codes "d") [] 0 []) ∷ (codes "e", Builds (codes "d") [] 1 (bit_sort 8 ∷ [])) ∷ [])

-- a constructor at one value
abbrev pub made : ℕ → List ℕ → ScriptValue → ScriptValue
made place c v = ConstructorOf place c (one_script_value v no_script_values)

-- for each value, whether it is of the sort where that datatype is declared
abbrev pub are_of : Expression → List ScriptValue → List Bool
are_of sort vs = map (has_sort_in two_there sort) vs

-- a set of two elements, in this order
abbrev pub pair_of : ScriptValue → ScriptValue → ScriptValue
pair_of v w = SetOf (one_script_value v (one_script_value w no_script_values))

-- for each list of pairs, whether it is with this default a table from Bool to 8 bits
abbrev pub are_tables : List (List (ScriptValue × ScriptValue)) → ScriptValue → List Bool
are_tables ps default = map (λ p. is_table nothing_there bool_sort (bit_sort 8) (record { pairs = p; default = default })) ps

-- Samples of the sorts of expressions, and of which values are of a sort.
pub record SortRows : Type 0 where
  pub sorted :
      map (sort_in nothing_there) (two (codes "bvadd") (codes "bv1") (codes "bv2") ∷ two (codes "bvult") (codes "bv1") (codes "bv2")
      ∷ of_two (codes "=") t f ∷ word [] ∷ set_of (t ∷ []) ∷ of_two (codes "set.member") t empty_set
      ∷ indexed_by (codes "zero_extend") (Leaf (Number 8)) (sample_bits (codes "bv1") 8) ∷ [])
      ≡ Some (bit_sort 8) ∷ Some bool_sort ∷ Some bool_sort ∷ Some string_sort ∷ Some (set_sort bool_sort) ∷ Some bool_sort
      ∷ Some (bit_sort 16) ∷ []
  -- two widths; two sorts; a string for a truth; one argument; an element of another sort; too great a number; no such name
  pub ill_sorted :
      map (sort_in nothing_there) (of_two (codes "bvadd") (sample_bits (codes "bv1") 8) (sample_bits (codes "bv1") 16)
      ∷ of_two (codes "=") t (word []) ∷ of_two (codes "and") t (word []) ∷ sample_application (codes "and") (t ∷ [])
      ∷ of_two (codes "set.member") (word []) empty_set ∷ sample_bits (codes "bv256") 8 ∷ name (codes "x") ∷ [])
      ≡ None ∷ None ∷ None ∷ None ∷ None ∷ None ∷ None ∷ []
  pub of_bits : are_of (bit_sort 8) (BitsOf 8 255 ∷ BitsOf 8 256 ∷ BitsOf 16 1 ∷ TruthOf true ∷ []) ≡ true ∷ false ∷ false ∷ false ∷ []
  pub of_text : are_of string_sort (TextOf (196607 ∷ []) ∷ TextOf (196608 ∷ []) ∷ []) ≡ true ∷ false ∷ []
  -- ascending, descending, an element twice, elements of another sort
  pub of_set :
      are_of (set_sort bool_sort) (pair_of (TruthOf false) (TruthOf true) ∷ pair_of (TruthOf true) (TruthOf false)
      ∷ pair_of (TruthOf true) (TruthOf true) ∷ pair_of (TextOf []) (TextOf (1 ∷ [])) ∷ []) ≡ true ∷ false ∷ false ∷ false ∷ []
  pub of_datatype :
      are_of (name (codes "d")) (ConstructorOf 0 (codes "c") no_script_values ∷ made 1 (codes "e") (BitsOf 8 1) ∷ []) ≡ true ∷ true ∷ []
  -- another place, no argument, an argument of another sort, one argument too many, no constructor
  pub of_no_datatype :
      are_of (name (codes "d")) (ConstructorOf 1 (codes "c") no_script_values ∷ ConstructorOf 1 (codes "e") no_script_values
      ∷ made 1 (codes "e") (TruthOf true) ∷ made 0 (codes "c") (BitsOf 8 1) ∷ ConstructorOf 0 (codes "n") no_script_values ∷ [])
      ≡ false ∷ false ∷ false ∷ false ∷ false ∷ []
  -- no key twice, keys and values of their sorts
  pub tables :
      are_tables
      (((TruthOf true, BitsOf 8 1) ∷ (TruthOf false, BitsOf 8 1) ∷ []) ∷ ((TruthOf true, BitsOf 8 1) ∷ (TruthOf true, BitsOf 8 2) ∷ [])
      ∷ ((TextOf [], BitsOf 8 1) ∷ []) ∷ ((TruthOf true, BitsOf 16 1) ∷ []) ∷ [])
      (BitsOf 8 0) ≡ true ∷ false ∷ false ∷ false ∷ []
  pub no_default : are_tables ([] ∷ []) (BitsOf 16 0) ≡ false ∷ []
  pub others :
      map (is_other (codes "c")) (ConstructorOf 0 (codes "c") no_script_values ∷ made 1 (codes "e") (BitsOf 8 1) ∷ TruthOf true ∷ [])
      ≡ false ∷ true ∷ false ∷ []

-- What operators give: sums that wrap, division by 0 and of negative numbers, shifts past the width, overflow, patterns, sets.
-- At 8 bits 249 is -7 and 253 is -3.
abbrev pub OperatorsGive : Type 0
OperatorsGive =
    SampleHasValue (two (codes "bvadd") (codes "bv255") (codes "bv1")) (Some (BitsOf 8 0))
    × SampleHasValue (two (codes "bvsub") (codes "bv0") (codes "bv1")) (Some (BitsOf 8 255))
    × SampleHasValue (two (codes "bvmul") (codes "bv16") (codes "bv17")) (Some (BitsOf 8 16))
    × SampleHasValue (two (codes "bvudiv") (codes "bv7") (codes "bv0")) (Some (BitsOf 8 255))
    × SampleHasValue (two (codes "bvurem") (codes "bv7") (codes "bv0")) (Some (BitsOf 8 7))
    × SampleHasValue (two (codes "bvsdiv") (codes "bv249") (codes "bv3")) (Some (BitsOf 8 254))
    × SampleHasValue (two (codes "bvsdiv") (codes "bv249") (codes "bv0")) (Some (BitsOf 8 1))
    × SampleHasValue (two (codes "bvsrem") (codes "bv249") (codes "bv3")) (Some (BitsOf 8 255))
    × SampleHasValue (two (codes "bvsmod") (codes "bv249") (codes "bv3")) (Some (BitsOf 8 2))
    × SampleHasValue (two (codes "bvsmod") (codes "bv7") (codes "bv253")) (Some (BitsOf 8 254))
    × SampleHasValue (two (codes "bvsmod") (codes "bv249") (codes "bv253")) (Some (BitsOf 8 255))
    × SampleHasValue (two (codes "bvsmod") (codes "bv249") (codes "bv0")) (Some (BitsOf 8 249))
    × SampleHasValue (two (codes "bvshl") (codes "bv3") (codes "bv7")) (Some (BitsOf 8 128))
    × SampleHasValue (two (codes "bvlshr") (codes "bv128") (codes "bv7")) (Some (BitsOf 8 1))
    × SampleHasValue (two (codes "bvlshr") (codes "bv128") (codes "bv8")) (Some (BitsOf 8 0))
    × SampleHasValue (sample_application (codes "bvshl") (sample_bits (codes "bv1") 64 ∷ sample_bits (codes "bv4294967296") 64 ∷ []))
    (Some (BitsOf 64 0))
    × Yes (two (codes "bvslt") (codes "bv255") (codes "bv0")) × No (two (codes "bvult") (codes "bv255") (codes "bv0"))
    × Yes (two (codes "bvsle") (codes "bv128") (codes "bv127")) × Yes (two (codes "bvsaddo") (codes "bv127") (codes "bv1"))
    × No (two (codes "bvsaddo") (codes "bv127") (codes "bv255"))
    × Yes (two (codes "bvssubo") (codes "bv128") (codes "bv1")) × Yes (two (codes "bvsmulo") (codes "bv128") (codes "bv255"))
    × No (two (codes "bvsmulo") (codes "bv128") (codes "bv1"))
    × SampleHasValue
    (group (group (name (codes "_") ∷ name (codes "zero_extend") ∷ Leaf (Number 8) ∷ []) ∷ sample_bits (codes "bv5") 8 ∷ []))
    (Some (BitsOf 16 5))
    × SampleHasValue (sample_application (codes "bvneg") (sample_bits (codes "bv1") 8 ∷ [])) (Some (BitsOf 8 255))
    × SampleHasValue (sample_bits (codes "bv256") 8) None
    × Yes (like (codes "abz") (sample_application (codes "re.++") (character 97 ∷ wildcard ∷ character 122 ∷ [])))
    × No (like (codes "ab") (sample_application (codes "re.++") (character 97 ∷ wildcard ∷ character 122 ∷ [])))
    × Yes (like [] (sample_application (codes "str.to_re") (Leaf (Text []) ∷ []))) × Yes (like (codes "a") (character 97))
    × Yes (like [] wildcard)
    × Yes (sample_application (codes "set.subset")
    (empty_set ∷ sample_application (codes "set.insert") (name (codes "true") ∷ empty_set ∷ []) ∷ []))
    × SampleHasValue
    (sample_application (codes "set.insert") (name (codes "true") ∷ name (codes "false") ∷ name (codes "true") ∷ empty_set ∷ []))
    (Some (SetOf (one_script_value (TruthOf false) (one_script_value (TruthOf true) no_script_values))))
    × ScriptValueRows × SortRows

-- ---- selectors on another constructor's values

-- `(Option (_ BitVec n))`, the sort of a prefix of IP ranges
abbrev pub prefix_sort : ℕ → Expression
prefix_sort width = group (name (codes "Option") ∷ bit_sort width ∷ [])

-- the datatype of IP ranges, as the encoder declares it
abbrev pub address_command : Command
address_command = DeclareDatatype (codes "IPAddr") []
    (record { name = codes "V4"; selectors = (codes "addrV4", bit_sort 32) ∷ (codes "prefixV4", prefix_sort 5) ∷ [] }
    ∷ record { name = codes "V6"; selectors = (codes "addrV6", bit_sort 128) ∷ (codes "prefixV6", prefix_sort 7) ∷ [] } ∷ [])

-- commands that apply `prefixV4`, `val` and the test of the family to one range
abbrev pub address_commands : List Command
address_commands = option_command ∷ address_command ∷ DeclareConst (codes "t0") (name (codes "IPAddr"))
    ∷ DefineFun (codes "t1") (prefix_sort 5) (sample_application (codes "prefixV4") (name (codes "t0") ∷ []))
    ∷ DefineFun (codes "t2") (bit_sort 5) (sample_application (codes "val") (name (codes "t1") ∷ []))
    ∷ DefineFun (codes "t3") bool_sort (indexed_by (codes "is") (name (codes "V4")) (name (codes "t0")))
    ∷ DefineFun (codes "t4") (prefix_sort 5) (sample_application (codes "some") (name (codes "t2") ∷ [])) ∷ Assert (name (codes "t3")) ∷ []

-- an IPv4 range as a value of the script
abbrev pub v4 : ℕ → ScriptValue → ScriptValue
v4 address prefix = ConstructorOf 0 (codes "V4") (one_script_value (BitsOf 32 address) (one_script_value prefix no_script_values))

-- an IPv6 range as a value of the script
abbrev pub v6 : ℕ → ScriptValue → ScriptValue
v6 address prefix = ConstructorOf 1 (codes "V6") (one_script_value (BitsOf 128 address) (one_script_value prefix no_script_values))

-- a prefix that is none
abbrev pub no_prefix : ScriptValue
no_prefix = ConstructorOf 0 (codes "none") no_script_values

-- a prefix of 5 bits that is there
abbrev pub some_prefix : ℕ → ScriptValue
some_prefix n = ConstructorOf 1 (codes "some") (one_script_value (BitsOf 5 n) no_script_values)

-- the script is well sorted; `val` of none is by the option sort, and a selector of another constructor's value by its table
abbrev pub SelectorsSampled : Type 0
SelectorsSampled =
    (s : State) × (run address_commands start ≡ Some s) × AreSorted address_commands start
    × (map (λ x. x.selector) (applied_selectors s) ≡ codes "val" ∷ codes "prefixV4" ∷ [])
    × (map (λ x. x.sort) (applied_selectors s) ≡ prefix_sort 5 ∷ name (codes "IPAddr") ∷ [])
    × ((j : ScriptInterpretation) (a : ℕ) → j.constants (codes "t0") ≡ v4 a (some_prefix 24) →
    (expression_value j s (name (codes "t2")) ≡ Some (BitsOf 5 24)) × (expression_value j s (name (codes "t4")) ≡ Some (some_prefix 24))
    × (expression_value j s (name (codes "t3")) ≡ Some (TruthOf true)))
    × ((j : ScriptInterpretation) (a : ℕ) → j.constants (codes "t0") ≡ v4 a no_prefix →
    expression_value j s (name (codes "t2")) ≡ Some (j.options (prefix_sort 5)))
    × ((j : ScriptInterpretation) (a : ℕ) → j.constants (codes "t0") ≡ v6 a no_prefix →
    (expression_value j s (name (codes "t1")) ≡ Some (in_table (j.selectors (codes "prefixV4")) (v6 a no_prefix)))
    × (expression_value j s (name (codes "t3")) ≡ Some (TruthOf false)))
