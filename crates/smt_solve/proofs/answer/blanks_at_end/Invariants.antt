use Rattle.std.proofs.Common.{◌≤◌, length, drop}
use Rattle.smt_solve.specs.Answers.{AllBlank}
use Rattle.smt_solve.proofs.answer.blanks_at_end.Given as goal

abbrev pub invariant-loop-end : goal.invariant-loop-end
invariant-loop-end l = record {
  within : l.end ≤ length l.bytes;
  blanks : AllBlank (drop l.end l.bytes);
}

abbrev pub decreases-loop-end : goal.decreases-loop-end
decreases-loop-end l = l.end
