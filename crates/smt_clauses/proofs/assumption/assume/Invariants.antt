use Rattle.std.proofs.Common.{◌<◌, ℕ, get_or}
use Rattle.smt_clauses.specs.Assumed.{IsAssumedAway, MarksAssume}
use Rattle.smt_clauses.specs.Marked.{KeepsNoMore}
use Rattle.smt_clauses.proofs.assumption.assume.Given as goal

abbrev pub invariant-loop-literal : goal.invariant-loop-literal
invariant-loop-literal l = record {
  holds : MarksAssume l.clause l.fn.marks l.marks;
  kept : KeepsNoMore l.fn.marks l.marks;
  done : (k : ℕ) → k < l.literal-index → IsAssumedAway l.marks (get_or l.clause k 0);
}
