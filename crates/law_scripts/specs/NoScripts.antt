-- Samples of texts that are no scripts, each beside one that is, and of whole texts.
use Rattle.std.specs.Prelude.{◌≡◌, ℕ, Bool, true, false, codes, length, map, List, [], ◌∷◌, ◌++◌}
use Rattle.std.specs.List.{list_all, list_any}
use Rattle.law_texts.specs.Lexicon.{Number, Text}
use Rattle.law_texts.specs.Reading.{Expression, Leaf}
use Rattle.law_scripts.specs.Script.{State, Script, IsWhole, Command, DeclareDatatype, DeclareConst, DefineFun, Assert, DeclareFun}
use Rattle.law_scripts.specs.Script.{SetLogic, SetOption, Constructor, reserved_words, are_distinct, name, group}
use Rattle.law_scripts.specs.Sorts.{bool_sort}
use Rattle.law_scripts.specs.Rows.{is_obeyed, declare_x, sample_application, set_of, empty_set, of_two, t}

-- The text comes to no state, so it is no script.
abbrev pub IsNoScript : List ℕ → Type 0
IsNoScript text = (s : State) → Script text s → ⊥

-- The text is a script.
abbrev pub IsScript : List ℕ → Type 0
IsScript text = (s : State) × Script text s

-- a text that is no script, and one that is
abbrev pub OnlySecond : List ℕ → List ℕ → Type 0
OnlySecond first second = IsNoScript first × IsScript second

-- Samples of texts that break one rule, each beside one that keeps it.
pub record NoScripts : Type 0 where
  -- an application without argument
  pub operand :
      OnlySecond (codes "(declare-const t0 Bool)\n" ++ codes "(assert (t0))\n") (codes "(declare-const t0 Bool)\n" ++ codes "(assert t0)\n")
  -- `set.insert` of a set alone
  pub inserted :
      OnlySecond (codes "(assert (set.member true (set.insert (as set.empty (Set Bool)))))\n")
      (codes "(assert (set.member true (set.insert true (as set.empty (Set Bool)))))\n")
  -- a datatype without constructor, and one with a parameter twice
  pub constructors : OnlySecond (codes "(declare-datatype d (\n  ))\n") (codes "(declare-datatype d (\n  (c)))\n")
  pub parameters : OnlySecond (codes "(declare-datatype d (par (X X) ((c))))\n") (codes "(declare-datatype d (par (X Y) ((c))))\n")
  -- a reserved word, and a name that is kept for solvers
  pub word : OnlySecond (codes "(declare-const assert Bool)\n") (codes "(declare-const asserted Bool)\n")
  pub solver : OnlySecond (codes "(declare-const @x Bool)\n") (codes "(declare-const x@ Bool)\n")
  -- a reserved word in place of a logic, and options that are no keywords
  pub logic : OnlySecond (codes "(set-logic par)\n") (codes "(set-logic QF_BV)\n")
  pub option : OnlySecond (codes "(set-option produce-models true)\n") (codes "(set-option :produce-models true)\n")
  pub colon_alone : IsNoScript (codes "(set-option : true)\n")

-- ---- the same of commands, for more of them

-- a constructor without selectors
abbrev pub bare : List ℕ → Constructor
bare c = record { name = c; selectors = [] }

-- each way to declare a name: a constant, a defined name, a function, a sort, a constructor, a selector, a parameter
abbrev pub declared_as : List ℕ → List Command
declared_as n =
    DeclareConst n bool_sort ∷ DefineFun n bool_sort t ∷ DeclareFun n bool_sort bool_sort
    ∷ DeclareDatatype n [] (bare (codes "c") ∷ []) ∷ DeclareDatatype (codes "d") [] (bare n ∷ [])
    ∷ DeclareDatatype (codes "d") [] (record { name = codes "c"; selectors = (n, bool_sort) ∷ [] } ∷ [])
    ∷ DeclareDatatype (codes "d") (n ∷ []) (bare (codes "c") ∷ []) ∷ []

-- one of the ways to declare the name is obeyed
abbrev pub is_declared_somehow : List ℕ → Bool
is_declared_somehow n = list_any (λ c. is_obeyed (c ∷ [])) (declared_as n)

-- each of the ways to declare the name is obeyed
abbrev pub is_declared_anyhow : List ℕ → Bool
is_declared_anyhow n = list_all (λ c. is_obeyed (c ∷ [])) (declared_as n)

-- the expression can be asserted where a constant x of sort Bool is declared
abbrev pub is_asserted : Expression → Bool
is_asserted e = is_obeyed (declare_x ∷ Assert e ∷ [])

-- the name x
abbrev pub x : Expression
x = name (codes "x")

-- `((_ f i))`
abbrev pub indexed_alone : List ℕ → Expression → Expression
indexed_alone f index = group (group (name (codes "_") ∷ name f ∷ index ∷ []) ∷ [])

-- Samples of commands that break a rule, beside such as keep it.
pub record NoCommands : Type 0 where
  -- heads without an operand
  pub heads :
      map is_asserted (group (x ∷ []) ∷ sample_application (codes "and") [] ∷ sample_application (codes "set.insert") []
      ∷ indexed_alone (codes "zero_extend") (Leaf (Number 8)) ∷ indexed_alone (codes "is") x ∷ x ∷ [])
      ≡ false ∷ false ∷ false ∷ false ∷ false ∷ true ∷ []
  -- `(R0 )` is no term, also where `(R0 )` is the constructor's declaration
  pub records :
      map (λ e.
      is_obeyed (DeclareDatatype (codes "R0") [] (bare (codes "R0") ∷ []) ∷ DeclareConst (codes "t0") (name (codes "R0"))
      ∷ Assert (of_two (codes "=") (name (codes "t0")) e) ∷ []))
      (group (name (codes "R0") ∷ []) ∷ name (codes "R0") ∷ [])
      ≡ false ∷ true ∷ []
  -- a set alone, and one element or two before the set
  pub insertions :
      map is_asserted (of_two (codes "set.member") t (sample_application (codes "set.insert") (empty_set ∷ []))
      ∷ of_two (codes "set.member") t (set_of (t ∷ [])) ∷ of_two (codes "set.member") t (set_of (t ∷ x ∷ [])) ∷ [])
      ≡ false ∷ true ∷ true ∷ []
  -- no constructor, with and without a parameter; a parameter twice; and two datatypes that keep the rules
  pub datatypes :
      map (λ c. is_obeyed (c ∷ [])) (DeclareDatatype (codes "d") [] [] ∷ DeclareDatatype (codes "d") (codes "X" ∷ []) []
      ∷ DeclareDatatype (codes "d") (codes "X" ∷ codes "Y" ∷ codes "X" ∷ []) (bare (codes "c") ∷ [])
      ∷ DeclareDatatype (codes "d") [] (bare (codes "c") ∷ [])
      ∷ DeclareDatatype (codes "d") (codes "X" ∷ codes "Y" ∷ []) (bare (codes "c") ∷ []) ∷ []) ≡ false ∷ false ∷ false ∷ true ∷ true ∷ []
  -- The standard has 14 general words and 32 names of commands.
  pub count : (length reserved_words ≡ 46) × (are_distinct reserved_words ≡ true)
  -- no reserved word and no name that is kept for solvers can be declared, in no way
  pub words : list_any is_declared_somehow reserved_words ≡ false
  pub solvers :
      map is_declared_somehow (codes ":x" ∷ codes ".x" ∷ codes "@x" ∷ codes "." ∷ codes "@" ∷ [])
      ≡ false ∷ false ∷ false ∷ false ∷ false ∷ []
  -- names that only look like reserved ones can be declared, in each way
  pub others :
      map is_declared_anyhow (codes "x" ∷ codes "x.y" ∷ codes "x@" ∷ codes "asserted" ∷ codes "let!" ∷ codes "Par" ∷ codes "!x" ∷ [])
      ≡ true ∷ true ∷ true ∷ true ∷ true ∷ true ∷ true ∷ []
  -- two simple symbols, two reserved words and a keyword
  pub logics :
      map (λ l. is_obeyed (SetLogic l ∷ [])) (codes "QF_BV" ∷ codes "ALL" ∷ codes "par" ∷ codes "check-sat" ∷ codes ":ALL" ∷ [])
      ≡ true ∷ true ∷ false ∷ false ∷ false ∷ []
  -- what stands behind the colon: a simple symbol, nothing, a keyword, a digit, a reserved word
  pub options :
      map (λ o. is_obeyed (SetOption o t ∷ [])) (codes "produce-models" ∷ [] ∷ codes ":x" ∷ codes "0" ∷ codes "let" ∷ [])
      ≡ true ∷ false ∷ false ∷ false ∷ false ∷ []
  -- A keyword or a reserved word alone is no value of an option; in brackets it is.
  pub option_values :
      map (λ v. is_obeyed (SetOption (codes "x") v ∷ []))
      (t ∷ Leaf (Number 1) ∷ Leaf (Text (codes "x")) ∷ group (name (codes "let") ∷ []) ∷ name (codes ":true") ∷ name (codes "let") ∷ [])
      ≡ true ∷ true ∷ true ∷ true ∷ false ∷ false ∷ []

-- ---- whole texts

-- Samples of texts that are whole, and of texts that are not.
pub record WholeTexts : Type 0 where
  -- what is whole need not be a script
  pub lines : IsWhole (codes "; x\n(a \"b\")\n")
  pub nothing : IsWhole []
  -- no line feed at the end, and a bracket that stays open
  pub cut_short : IsWhole (codes "(a)") → ⊥
  pub unclosed : IsWhole (codes "(\n") → ⊥
