use Rattle.std.proofs.Common.{◌≡◌, ◌<◌, ℕ, [], drop, map}
use Rattle.smt_mini.specs.Search.{in_row, may_of_input, mays_of}
use Rattle.smt_mini.proofs.search.rows_of_gates.Given as goal

abbrev pub invariant-loop-gate : goal.invariant-loop-gate
invariant-loop-gate l =
    (r : ℕ) → r < 64 → mays_of (may_of_input l.chosen l.circuit.total r) (map (in_row r) l.done.items) (drop l.gate-index l.circuit.gates.now) ≡ mays_of (may_of_input l.chosen l.circuit.total r) [] l.circuit.gates.now
