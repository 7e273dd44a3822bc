-- Which texts are formulas in conjunctive normal form in the format DIMACS ("Satisfiability: Suggested Format", section CNF), and of which
-- clauses. A literal is a number: 2n is the variable n, and 2n + 1 its negation; the variables of the text are numbered from 1.
use Rattle.std.specs.Prelude.{ℕ, ◌≡◌, ◌≤◌, ◌<◌, ◌^◌, ◌*◌, length, map, Some, List, ◌∷◌}
use Rattle.std.specs.List.{AllByRecursion, flat_map}
use Rattle.smt_dimacs.specs.Entries.{clause_entries, counts_of, entry_of}
use Rattle.smt_dimacs.specs.Words.{lines_of, worded}

-- each literal is one of so many variables
abbrev pub AreOf : (variables : ℕ) → List ℕ → Type 0
AreOf variables clause = AllByRecursion (λ l. l < 2 * variables) clause

-- The text is a formula over so many variables, with these clauses.
pub record IsFormula (text : List ℕ) (variables : ℕ) (cs : List (List ℕ)) : Type 0 where
  -- of the lines that are no comments and have words, the first is the problem line
  pub problem : List (List ℕ)
  pub body : List (List (List ℕ))
  pub lines : worded (lines_of text) ≡ problem ∷ body
  -- it says how many variables and clauses there are
  pub counts : counts_of problem ≡ Some (variables, length cs)
  -- the words behind it are the literals of the clauses, with a 0 behind each clause
  pub entries : map entry_of (flat_map (λ words. words) body) ≡ map Some (flat_map clause_entries cs)
  -- no literal is above the variables
  pub within : AllByRecursion (AreOf variables) cs

-- what is read: at most 2^30 bytes, variables and clauses
abbrev pub greatest : ℕ
greatest = 2 ^ 30

-- a formula is read of this text
pub record IsSmall (text : List ℕ) (variables clauses : ℕ) : Type 0 where
  pub bytes : length text ≤ greatest
  pub variables_few : variables ≤ greatest
  pub clauses_few : clauses ≤ greatest
