use Rattle.std.proofs.Common.{◌≡◌, ◌<◌, ℕ, get_or}
use Rattle.std.specs.Prelude.{false}
use Rattle.law_clauses.specs.Clauses.{literal_truth}
use Rattle.smt_search.specs.Given.{truths_of}
use Rattle.smt_search.proofs.model.holds.Given as goal

abbrev pub invariant-loop-literal : goal.invariant-loop-literal
invariant-loop-literal l = (k : ℕ) → k < l.literal-index → literal_truth (truths_of l.values) (get_or l.clause k 0) ≡ false
