-- Laws of formulas and of faults.
use Rattle.std.specs.Prelude.{ℕ, ◌≡◌, length, List}
use Rattle.smt_dimacs.specs.Faults.{IsFaultAt}
use Rattle.smt_dimacs.specs.Formulas.{IsFormula, IsSmall}
use Rattle.smt_dimacs.specs.declared.error.FormulaFault.{FormulaFault}

-- A text with a fault is no formula that is read.
abbrev pub FaultsAreInNoFormula : Type 0
FaultsAreInNoFormula =
    (text : List ℕ) (fault : FormulaFault) (line variables : ℕ) (cs : List (List ℕ)) → IsFaultAt text fault line
    → IsFormula text variables cs → IsSmall text variables (length cs) → ⊥

-- A text is a formula over one number of variables and of one list of clauses.
abbrev pub FormulasAreOne : Type 0
FormulasAreOne =
    (text : List ℕ) (variables others : ℕ) (cs ds : List (List ℕ)) → IsFormula text variables cs → IsFormula text others ds
    → (variables ≡ others) × (cs ≡ ds)
