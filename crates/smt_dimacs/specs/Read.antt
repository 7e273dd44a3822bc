-- What the reader's calls answer.
use Rattle.std.specs.Prelude.{ℕ, ◌≡◌, ◌≤◌, ◌<◌, ◌*◌, ⊤, length, Option, Some, None, List, [], ◌∷◌, ◌++◌}
use Rattle.std.specs.List.{flat_map}
use Rattle.smt_clauses.specs.View.{plain_clauses}
use Rattle.smt_dimacs.specs.Entries as said
use Rattle.smt_dimacs.specs.Entries.{counts_of}
use Rattle.smt_dimacs.specs.Faults.{HasWordFault, IsCountFault, IsProblemFault}
use Rattle.smt_dimacs.specs.Spelling.{Spell}
use Rattle.smt_dimacs.specs.declared.body.Body.{Body}
use Rattle.smt_dimacs.specs.declared.entry.Entry.{Entry}
use Rattle.smt_dimacs.specs.declared.entry.Entry.TheVariants.{End, Literal, Large, Nothing}
use Rattle.smt_dimacs.specs.declared.error.FormulaError.{FormulaError}
use Rattle.smt_dimacs.specs.declared.error.FormulaError.TheVariants.{Refused, TooLarge, Memory}
use Rattle.smt_dimacs.specs.declared.error.FormulaFault.TheVariants.{NoHeader}
use Rattle.smt_dimacs.specs.declared.formula.Formula.{Formula}
use Rattle.smt_dimacs.specs.declared.problem.Problem.{Problem}

-- a literal above the variables is said
pub record IsAbove (variables : ℕ) (entry : Option said.Entry) : Type 0 where
  pub literal : ℕ
  pub says : entry ≡ Some (said.Of literal)
  pub above : 2 * variables ≤ literal

-- what a word says is read of it, in a formula over so many variables
abbrev pub IsReadOf : (variables : ℕ) → Option said.Entry → Entry → Type 0
IsReadOf variables entry End = entry ≡ Some said.End
IsReadOf variables entry (Literal l) = (entry ≡ Some (said.Of l)) × (l < 2 * variables)
IsReadOf variables entry Large = IsAbove variables entry
IsReadOf variables entry Nothing = entry ≡ None

-- the words are a problem line, or there are none
abbrev pub IsProblemOf : List (List ℕ) → Option Problem → Type 0
IsProblemOf words None = words ≡ []
IsProblemOf words (Some problem) = counts_of words ≡ Some (problem.variables, problem.clauses)

-- why the words of the line of this number are no problem line
abbrev pub HasProblemCause : List (List ℕ) → ℕ → FormulaError → Type 0
HasProblemCause words number Memory = ⊤
HasProblemCause words number TooLarge = ⊥
HasProblemCause words number (Refused fault line) = (line ≡ number) × IsProblemFault words fault

-- why the words of the line of this number say nothing of a formula over so many variables
abbrev pub HasBodyCause : (variables : ℕ) → List (List ℕ) → ℕ → FormulaError → Type 0
HasBodyCause variables words number Memory = ⊤
HasBodyCause variables words number TooLarge = ⊥
HasBodyCause variables words number (Refused fault line) = (line ≡ number) × HasWordFault variables words fault

-- These words behind the problem line are read.
abbrev pub HasTaken : (variables : ℕ) → List (List ℕ) → Body → Type 0
HasTaken variables words body = Spell variables words (plain_clauses body.clauses) body.clause.items

-- behind whatever words were read before, these are read too
abbrev pub TakesMore : (variables : ℕ) → (more : List (List ℕ)) → (old new : Body) → Type 0
TakesMore variables more old new = (words : List (List ℕ)) → HasTaken variables words old → HasTaken variables (words ++ more) new

-- Of the lines that have words these are read, the problem line first.
pub record HasBegun (problem : Problem) (body : Body) (lines : List (List (List ℕ))) : Type 0 where
  pub first : List (List ℕ)
  pub others : List (List (List ℕ))
  pub whole : lines ≡ first ∷ others
  pub counts : counts_of first ≡ Some (problem.variables, problem.clauses)
  pub taken : HasTaken problem.variables (flat_map (λ words. words) others) body

-- Of the lines that have words these are read.
abbrev pub HasRead : Option Problem → Body → List (List (List ℕ)) → Type 0
HasRead None body lines = (lines ≡ []) × (plain_clauses body.clauses ≡ []) × (body.clause.items ≡ [])
HasRead (Some problem) body lines = HasBegun problem body lines

-- Of what was read to the end this is the formula.
abbrev pub IsFinished : Option Problem → Body → Formula → Type 0
IsFinished None body formula = ⊥
IsFinished (Some problem) body formula =
    (body.clause.items ≡ []) × (length (plain_clauses body.clauses) ≡ problem.clauses)
    × (formula.variables ≡ problem.variables) × (plain_clauses formula.clauses ≡ plain_clauses body.clauses)

-- why what was read to the end is no formula
abbrev pub HasEndCause : Option Problem → Body → ℕ → FormulaError → Type 0
HasEndCause problem body number Memory = ⊥
HasEndCause problem body number TooLarge = ⊥
HasEndCause None body number (Refused fault line) = (line ≡ number) × (fault ≡ NoHeader)
HasEndCause (Some problem) body number (Refused fault line) =
    (line ≡ number) × IsCountFault problem.clauses (plain_clauses body.clauses) body.clause.items fault
