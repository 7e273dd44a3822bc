-- The truths of formulas, by those of their names (SMT-LIB 2.7, theory Core).
use Rattle.std.specs.Prelude.{◌≡◌, ℕ, Bool, false, not, ◌&&◌, ◌||◌, IsTrue, if◌then◌else◌, codes, bytes_eq, List, [], ◌∷◌, Some}
use Rattle.law_texts.specs.Lexicon.{Name}
use Rattle.law_texts.specs.Reading.{Expression, Leaf, Node, Expressions, Nil, Cons}
use Rattle.law_scripts.specs.ScriptValues.{TruthOf}
use Rattle.law_scripts.specs.Script.{State, knows, name}
use Rattle.law_scripts.specs.Value.{IsScriptInterpretation, ScriptInterpretation, expression_value}
use Rattle.law_verdicts.specs.FirstModel.{is_true}
use Rattle.law_verdicts.specs.Fragment.{IsSmall, is_formula, is_truth_name}
use Rattle.std.specs.Bool.{beq}

-- what a connective gives of truths: `not` of one, `and`, `or` or `=` of two, and `ite` of three
abbrev pub connected : List ℕ → List Bool → Bool
connected f [] = false
connected f (a ∷ []) = not a
connected f (a ∷ b ∷ []) = if bytes_eq f (codes "and") then a && b else (if bytes_eq f (codes "or") then a || b else beq a b)
connected f (a ∷ b ∷ c ∷ []) = if a then b else c
connected f (a ∷ b ∷ c ∷ d ∷ bs) = false

abbrev mutual
  -- the truth of a formula by the connectives of the theory Core, where its names have these truths; what is no formula is false
  pub truth_in : (List ℕ → Bool) → Expression → Bool
  truth_in at (Leaf (Name n)) = at n
  truth_in at (Leaf a) = false
  truth_in at (Node Nil) = false
  truth_in at (Node (Cons (Leaf (Name f)) es)) = connected f (truths_in at es)
  truth_in at (Node (Cons e es)) = false

  -- the truths of formulas, in order
  pub truths_in : (List ℕ → Bool) → Expressions → List Bool
  truths_in at Nil = []
  truths_in at (Cons e es) = truth_in at e ∷ truths_in at es

-- the truth of a name in a script, where the interpretation gives its constants their truths: a defined name has its body's
abbrev pub name_truth : ScriptInterpretation → State → List ℕ → Bool
name_truth j s n = is_true (expression_value j s (name n))

-- In a script of the fragment each formula whose names are there has a truth, the one that the connectives give those of its names.
abbrev pub FormulasHaveTruths : Type 0
FormulasHaveTruths =
    (s : State) (j : ScriptInterpretation) (e : Expression) → IsSmall s → IsScriptInterpretation j s →
    IsTrue (is_formula (is_truth_name s) e) → IsTrue (knows s e)
    → expression_value j s e ≡ Some (TruthOf (truth_in (name_truth j s) e))
