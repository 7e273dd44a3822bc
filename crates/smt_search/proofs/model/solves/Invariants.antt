use Rattle.std.specs.Prelude.{ℕ, ◌<◌}
use Rattle.smt_clauses.specs.View.{plain_clauses}
use Rattle.smt_search.specs.Given.{HoldsAt, truths_of}
use Rattle.smt_search.proofs.model.solves.Given as goal

abbrev pub invariant-loop-place : goal.invariant-loop-place
invariant-loop-place l = (k : ℕ) → k < l.place → HoldsAt (truths_of l.values) (plain_clauses l.clauses) k
