use Rattle.std.proofs.Common.{◌+◌, ◌*◌, ◌≤◌, length}
use Rattle.smt_nodes.specs.Interned.{KeepsMeanings}
use Rattle.smt_jobs.proofs.DirectReads.{Operands}
use Rattle.smt_jobs.proofs.direct.+direct.Given as goal

abbrev pub decreases-application_at : goal.decreases-application_at
decreases-application_at l = 2 * l.depth + 1

abbrev pub decreases-term_at : goal.decreases-term_at
decreases-term_at l = 2 * l.depth

abbrev pub invariant-application_at-loop-after : goal.invariant-application_at-loop-after
invariant-application_at-loop-after l = record {
  operands : Operands l.declared l.nodes l.operands.items l.src l.depth l.rest;
  kept : KeepsMeanings l.initial.nodes l.nodes;
  shorter : length l.rest ≤ length l.src;
}

abbrev pub decreases-application_at-loop-after : goal.decreases-application_at-loop-after
decreases-application_at-loop-after l = length l.rest
