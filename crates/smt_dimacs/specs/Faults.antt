-- Why a text is no formula.
use Rattle.std.specs.Prelude.{ℕ, ◌≡◌, ◌≢◌, ◌⊎◌, ◌≤◌, ◌<◌, ◌*◌, ◌+◌, ⊤, Bool, true, false, bytes_eq, codes}
use Rattle.std.specs.Prelude.{length, Some, None, List, [], ◌∷◌, ◌++◌}
use Rattle.std.specs.List.{flat_map}
use Rattle.smt_dimacs.specs.Entries.{Of, counts_of, entry_of}
use Rattle.smt_dimacs.specs.Formulas.{IsFormula, IsSmall, greatest}
use Rattle.smt_dimacs.specs.Spelling.{Spell}
use Rattle.smt_dimacs.specs.Words.{has_some, lines_of, words_of, worded}
use Rattle.smt_dimacs.specs.declared.error.FormulaError.{FormulaError}
use Rattle.smt_dimacs.specs.declared.error.FormulaError.TheVariants.{Refused, TooLarge, Memory}
use Rattle.smt_dimacs.specs.declared.error.FormulaFault.{FormulaFault}
use Rattle.smt_dimacs.specs.declared.error.FormulaFault.TheVariants.{NoHeader, BadHeader, LargeHeader, SecondHeader}
use Rattle.smt_dimacs.specs.declared.error.FormulaFault.TheVariants.{PercentSign, NoNumber, LargeVariable}
use Rattle.smt_dimacs.specs.declared.error.FormulaFault.TheVariants.{TooManyClauses, TooFewClauses, OpenClause}

-- the first word is p
abbrev pub begins_problem : List (List ℕ) → Bool
begins_problem [] = false
begins_problem (word ∷ words) = bytes_eq word (codes "p")

-- The words are a problem line, but of more variables or clauses than are read.
pub record IsLargeHeader (words : List (List ℕ)) : Type 0 where
  pub variables : ℕ
  pub clauses : ℕ
  pub counts : counts_of words ≡ Some (variables, clauses)
  pub large : (greatest < variables) ⊎ (greatest < clauses)

-- The first words of a formula are no problem line, or one of too many variables or clauses.
abbrev pub IsProblemFault : List (List ℕ) → FormulaFault → Type 0
IsProblemFault words NoHeader = (has_some words ≡ true) × (begins_problem words ≡ false)
IsProblemFault words BadHeader = (begins_problem words ≡ true) × (counts_of words ≡ None)
IsProblemFault words LargeHeader = IsLargeHeader words
IsProblemFault words fault = ⊥

-- A word is a literal above the variables.
pub record IsLarge (variables : ℕ) (word : List ℕ) : Type 0 where
  pub literal : ℕ
  pub says : entry_of word ≡ Some (Of literal)
  pub above : 2 * variables ≤ literal

-- A word behind the problem line is no number, or a literal above the variables.
abbrev pub IsWordFault : (variables : ℕ) → List ℕ → FormulaFault → Type 0
IsWordFault variables word SecondHeader = word ≡ codes "p"
IsWordFault variables word PercentSign = word ≡ codes "%"
IsWordFault variables word NoNumber = entry_of word ≡ None
IsWordFault variables word LargeVariable = IsLarge variables word
IsWordFault variables word fault = ⊥

-- One of these words has the fault.
pub record HasWordFault (variables : ℕ) (words : List (List ℕ)) (fault : FormulaFault) : Type 0 where
  pub front : List (List ℕ)
  pub word : List ℕ
  pub back : List (List ℕ)
  pub whole : words ≡ front ++ word ∷ back
  pub what : IsWordFault variables word fault

-- All words behind the problem line are clauses and an unfinished one, and not as many as the problem line says.
abbrev pub IsCountFault : (clauses : ℕ) → (cs : List (List ℕ)) → (open_clause : List ℕ) → FormulaFault → Type 0
IsCountFault clauses cs open_clause OpenClause = open_clause ≢ []
IsCountFault clauses cs open_clause TooManyClauses = clauses < length cs
IsCountFault clauses cs open_clause TooFewClauses = (length cs < clauses) × (open_clause ≡ [])
IsCountFault clauses cs open_clause fault = ⊥

-- Of the lines before and this one, what stands in the text up to the fault
module _ (before : List (List ℕ)) (line : List ℕ) (after : List (List ℕ)) (fault : FormulaFault) where
  -- the fault is in the first line that has words
  pub record InProblem : Type 0 where
    pub first : worded before ≡ []
    pub what : IsProblemFault (words_of line) fault

  -- the fault is in a word of a line behind the problem line
  pub record InBody : Type 0 where
    pub problem : List (List ℕ)
    pub body : List (List (List ℕ))
    pub begun : worded before ≡ problem ∷ body
    pub variables : ℕ
    pub clauses : ℕ
    pub counts : counts_of problem ≡ Some (variables, clauses)
    pub what : HasWordFault variables (words_of line) fault

  -- the text ended, and no line of it has words
  pub record IsEmpty : Type 0 where
    pub last : after ≡ []
    pub none : worded (before ++ line ∷ []) ≡ []
    pub what : fault ≡ NoHeader

  -- the text ended with clauses, and not as many as the problem line says
  pub record AtEnd : Type 0 where
    pub last : after ≡ []
    pub problem : List (List ℕ)
    pub body : List (List (List ℕ))
    pub begun : worded (before ++ line ∷ []) ≡ problem ∷ body
    pub variables : ℕ
    pub clauses : ℕ
    pub counts : counts_of problem ≡ Some (variables, clauses)
    pub cs : List (List ℕ)
    pub open_clause : List ℕ
    pub read : Spell variables (flat_map (λ words. words) body) cs open_clause
    pub what : IsCountFault clauses cs open_clause fault

-- The text has this fault in the line of this number.
pub record IsFaultAt (text : List ℕ) (fault : FormulaFault) (number : ℕ) : Type 0 where
  pub before : List (List ℕ)
  pub line : List ℕ
  pub after : List (List ℕ)
  pub lines : lines_of text ≡ before ++ line ∷ after
  pub numbered : number ≡ length before + 1
  pub fault_is :
      (InProblem before line after fault ⊎ InBody before line after fault)
      ⊎ (IsEmpty before line after fault ⊎ AtEnd before line after fault)

-- why no formula was read of a text
abbrev pub HasCause : List ℕ → FormulaError → Type 0
HasCause text Memory = ⊤
HasCause text TooLarge = greatest < length text
HasCause text (Refused fault line) = IsFaultAt text fault line

-- where the text is a formula with at most 2^30 bytes, variables and clauses, there was no memory for it
abbrev pub IsMemoryForFormulas : List ℕ → FormulaError → Type 0
IsMemoryForFormulas text error =
    (variables : ℕ) (cs : List (List ℕ)) → IsFormula text variables cs → IsSmall text variables (length cs) → error ≡ Memory
