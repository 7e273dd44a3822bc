use Rattle.std.proofs.Common.{◌≡◌, ◌<◌, ◌&&◌, ℕ, drop, map}
use Rattle.std.specs.List.{list_all}
use Rattle.law_verdicts.specs.TruthRows.{has_bit}
use Rattle.smt_mini.specs.Search.{in_row, may_place}
use Rattle.smt_mini.proofs.search.rows_left.Given as goal

abbrev pub invariant-loop-place : goal.invariant-loop-place
invariant-loop-place l =
    (r : ℕ) → r < 64 → (has_bit l.left r && list_all (λ p. (may_place (map (in_row r) l.done) p).holds) (drop l.place-index l.assertions)) ≡ (has_bit l.rows r && list_all (λ p. (may_place (map (in_row r) l.done) p).holds) l.assertions)
