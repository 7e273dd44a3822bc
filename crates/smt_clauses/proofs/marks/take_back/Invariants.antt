use Rattle.std.proofs.Common.{◌≡◌, ◌<◌, ◌≤◌, ℕ, get_or, length}
use Rattle.smt_clauses.specs.Stamps.{kept_stamp}
use Rattle.smt_clauses.proofs.marks.take_back.Given as goal

abbrev pub invariant-loop-stamp : goal.invariant-loop-stamp
invariant-loop-stamp l = record {
  as_long : length l.stamp-items ≡ length l.fn.stamps.items;
  done : (k : ℕ) → k < l.stamp-index → get_or l.stamp-items k 0 ≡ kept_stamp (get_or l.fn.stamps.items k 0);
  left : (k : ℕ) → l.stamp-index ≤ k → get_or l.stamp-items k 0 ≡ get_or l.fn.stamps.items k 0;
}
