-- Clauses that follow from others.
use Rattle.law_clauses.specs.Clauses.{Solves, Truths}
use Rattle.smt_clauses.specs.View.{plain_clauses}
use Rattle.smt_clauses.specs.declared.clause_list.ClauseList.{ClauseList}

-- where clauses are solved, so are others
abbrev pub AreImplied : ClauseList → ClauseList → Type 0
AreImplied cs ds = (v : Truths) → Solves v (plain_clauses cs) → Solves v (plain_clauses ds)

-- where clauses are solved and earlier ones were, later ones are
abbrev pub AreAdded : ClauseList → ClauseList → ClauseList → Type 0
AreAdded cs earlier later = (v : Truths) → Solves v (plain_clauses cs) → Solves v (plain_clauses earlier) → Solves v (plain_clauses later)
