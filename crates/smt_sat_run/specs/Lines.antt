-- The lines that say what is wrong.
use Rattle.std.specs.Prelude.{ℕ, codes, decimal, List, ◌++◌}
use Rattle.smt_dimacs.specs.declared.error.FormulaFault.{FormulaFault}
use Rattle.smt_dimacs.specs.declared.error.FormulaFault.TheVariants.{NoHeader, BadHeader, LargeHeader, SecondHeader}
use Rattle.smt_dimacs.specs.declared.error.FormulaFault.TheVariants.{PercentSign, NoNumber, LargeVariable}
use Rattle.smt_dimacs.specs.declared.error.FormulaFault.TheVariants.{TooManyClauses, TooFewClauses, OpenClause}

-- the name of a fault
abbrev pub name_of : FormulaFault → List ℕ
name_of NoHeader = codes "NoHeader"
name_of BadHeader = codes "BadHeader"
name_of LargeHeader = codes "LargeHeader"
name_of SecondHeader = codes "SecondHeader"
name_of PercentSign = codes "PercentSign"
name_of NoNumber = codes "NoNumber"
name_of LargeVariable = codes "LargeVariable"
name_of TooManyClauses = codes "TooManyClauses"
name_of TooFewClauses = codes "TooFewClauses"
name_of OpenClause = codes "OpenClause"

-- the line that says a fault in a line of the formula
abbrev pub fault_line : FormulaFault → ℕ → List ℕ
fault_line fault line = codes "formula refused: " ++ name_of fault ++ codes " at line " ++ decimal line ++ codes "\n"
