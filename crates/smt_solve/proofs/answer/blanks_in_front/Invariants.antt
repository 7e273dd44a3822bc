use Rattle.std.proofs.Common.{◌≤◌, ◌-◌, length, take}
use Rattle.smt_solve.specs.Answers.{AllBlank}
use Rattle.smt_solve.proofs.answer.blanks_in_front.Given as goal

abbrev pub invariant-loop-at : goal.invariant-loop-at
invariant-loop-at l = record {
  within : l.at ≤ length l.bytes;
  blanks : AllBlank (take l.at l.bytes);
}

abbrev pub decreases-loop-at : goal.decreases-loop-at
decreases-loop-at l = length l.bytes - l.at
