use Rattle.std.proofs.Common.{ℕ, List, ◌++◌, filter, map}
use Rattle.smt_dimacs.specs.Read.{HasTaken}
use Rattle.smt_dimacs.specs.Words.{has_some}
use Rattle.smt_dimacs.proofs.body.Body.take_runs.Given as goal

-- the words among the runs so far are taken
abbrev pub invariant-loop-run : goal.invariant-loop-run
invariant-loop-run l =
    (words : List (List ℕ)) → HasTaken l.problem.variables words l.initial.self → HasTaken l.problem.variables (words ++ filter has_some (map (λ run. run.now) l.yielded)) l.self
