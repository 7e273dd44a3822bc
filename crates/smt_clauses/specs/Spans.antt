-- Where clauses stand in a list of literals.
use Rattle.std.specs.Prelude.{◌≡◌, ◌≤◌, ℕ, List, Some, map, slice_get, slice_range}
use Rattle.smt_clauses.specs.declared.clause_list.Span.{Span}

-- a clause stands within so many literals
pub record IsWithin (n : ℕ) (s : Span) : Type 0 where
  pub ordered : s.start ≤ s.end
  pub ends : s.end ≤ n

-- each clause stands within so many literals
abbrev pub AreWithin : ℕ → List Span → Type 0
AreWithin n ss = (k : ℕ) (s : Span) → slice_get ss k ≡ Some s → IsWithin n s

-- the clause of a span
abbrev pub clause_at : List ℕ → Span → List ℕ
clause_at literals s = slice_range literals s.start s.end

-- the clauses of spans
abbrev pub clauses_of : List ℕ → List Span → List (List ℕ)
clauses_of literals spans = map (clause_at literals) spans
