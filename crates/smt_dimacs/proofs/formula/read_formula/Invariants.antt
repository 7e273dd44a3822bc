use Rattle.std.proofs.Common.{◌≡◌, length, map}
use Rattle.smt_dimacs.specs.Read.{HasRead}
use Rattle.smt_dimacs.specs.Words.{worded}
use Rattle.smt_dimacs.proofs.formula.read_formula.Given as goal

-- the lines so far are read
abbrev pub invariant-loop-line : goal.invariant-loop-line
invariant-loop-line l = record {
  numbered : l.number ≡ length l.yielded;
  read : HasRead l.problem l.body (worded (map (λ line. line.now) l.yielded));
}
