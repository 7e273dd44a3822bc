-- Samples of selectors: which are left open to an interpretation, and that every other one is not.
use Rattle.std.specs.Prelude.{◌≡◌, ℕ, true, codes, map, List, [], ◌∷◌, ◌++◌, Some, None}
use Rattle.law_scripts.specs.ScriptValues.{ScriptValue, TruthOf, TextOf, ConstructorOf, no_script_values, one_script_value}
use Rattle.law_scripts.specs.Script.{State, Command, DeclareDatatype, DeclareConst, Assert, start, run, name}
use Rattle.law_scripts.specs.Sorts.{bool_sort}
use Rattle.law_scripts.specs.Value.{ValueOfSort, TableOfSelector, open_selector, ScriptInterpretation, IsScriptInterpretation, IsModel}
use Rattle.law_scripts.specs.Value.{applied_selectors, expression_value}
use Rattle.law_scripts.specs.CommandLines.{SortedScript}
use Rattle.law_scripts.specs.Rows.{sample_application}

-- a datatype with two parameters, and an assertion on each of its fields, which are of two sorts
abbrev pub pair_sample : List ℕ
pair_sample =
    codes "(declare-datatype Pair (par (X Y) ((pair (first X) (second Y)))))\n"
    ++ (codes "(declare-const t0 (Pair Bool String))\n" ++ (codes "(assert (first t0))\n" ++ codes "(assert (= (second t0) \"a\"))\n"))

-- the pair of true and the text a
abbrev pub the_pair : ScriptValue
the_pair = ConstructorOf 0 (codes "pair") (one_script_value (TruthOf true) (one_script_value (TextOf (codes "a")) no_script_values))

-- the script leaves no selector open, and has an interpretation that is a model
abbrev pub PairSampleIsScript : Type 0
PairSampleIsScript = (s : State) × SortedScript pair_sample s × (applied_selectors s ≡ [])
    × ((j : ScriptInterpretation) → j.constants (codes "t0") ≡ the_pair → IsScriptInterpretation j s × IsModel j s)
    × ((j : ScriptInterpretation) × IsScriptInterpretation j s × IsModel j s)

-- a datatype with two constructors, and a selector of the second one
abbrev pub either_commands : List Command
either_commands =
    DeclareDatatype (codes "D") []
    (record { name = codes "a"; selectors = [] } ∷ record { name = codes "b"; selectors = (codes "x", bool_sort) ∷ [] } ∷ [])
    ∷ DeclareConst (codes "t0") (name (codes "D")) ∷ Assert (sample_application (codes "x") (name (codes "t0") ∷ [])) ∷ []

-- the selector has no value at the first one's
abbrev pub EitherIsClosed : Type 0
EitherIsClosed =
    (s : State) × (run either_commands start ≡ Some s) × (applied_selectors s ≡ [])
    × ((j : ScriptInterpretation) → j.constants (codes "t0") ≡ ConstructorOf 0 (codes "a") no_script_values →
    expression_value j s (sample_application (codes "x") (name (codes "t0") ∷ [])) ≡ None)
    × ((j : ScriptInterpretation) →
    j.constants (codes "t0") ≡ ConstructorOf 1 (codes "b") (one_script_value (TruthOf true) no_script_values) →
    expression_value j s (sample_application (codes "x") (name (codes "t0") ∷ [])) ≡ Some (TruthOf true))

-- Samples of which selectors are left open to an interpretation.
pub record OpenSelectorRows : Type 0 where
  pub inside : open_selector (codes "val") (codes "Option") (codes "X" ∷ []) ≡ Some ValueOfSort
  pub ranges : map (λ f. open_selector f (codes "IPAddr") []) (codes "addrV4" ∷ codes "prefixV4" ∷ codes "addrV6" ∷ codes "prefixV6" ∷ [])
      ≡ Some TableOfSelector ∷ Some TableOfSelector ∷ Some TableOfSelector ∷ Some TableOfSelector ∷ []
  -- such a name of another datatype, and another name of such a datatype
  pub others : open_selector (codes "val") (codes "Pair") (codes "X" ∷ []) ∷ open_selector (codes "first") (codes "Option") (codes "X" ∷ [])
      ∷ open_selector (codes "val") (codes "Option") [] ∷ open_selector (codes "addrV4") (codes "D") []
      ∷ open_selector (codes "addrV4") (codes "IPAddr") (codes "X" ∷ [])
      ∷ open_selector (codes "first") (codes "Pair") (codes "X" ∷ codes "Y" ∷ []) ∷ []
      ≡ None ∷ None ∷ None ∷ None ∷ None ∷ None ∷ []
