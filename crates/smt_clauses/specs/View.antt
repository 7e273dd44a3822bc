-- The clauses of a list.
use Rattle.std.specs.Prelude.{ℕ, List}
use Rattle.smt_clauses.specs.Spans.{clauses_of}
use Rattle.smt_clauses.specs.declared.clause_list.ClauseList.{ClauseList}

-- the clauses, in order
abbrev pub plain_clauses : ClauseList → List (List ℕ)
plain_clauses a = clauses_of a.literals.items a.spans.items
