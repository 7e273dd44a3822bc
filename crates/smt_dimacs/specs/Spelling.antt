-- How far a formula was read.
use Rattle.std.specs.Prelude.{ℕ, ◌≡◌, map, Some, List, ◌++◌}
use Rattle.std.specs.List.{AllByRecursion, flat_map}
use Rattle.smt_dimacs.specs.Entries.{Of, clause_entries, entry_of}
use Rattle.smt_dimacs.specs.Formulas.{AreOf}

-- Words are the literals of clauses, with a 0 behind each clause, and of a clause of which no 0 came yet.
pub record Spell (variables : ℕ) (words : List (List ℕ)) (cs : List (List ℕ)) (open_clause : List ℕ) : Type 0 where
  pub entries : map entry_of words ≡ map Some (flat_map clause_entries cs ++ map Of open_clause)
  pub within : AllByRecursion (AreOf variables) cs
  pub open_within : AreOf variables open_clause
