use Rattle.std.proofs.Common.{◌≡◌, ◌*◌, List, length}
use Rattle.law_blasting.specs.Blasted.{Variables}
use Rattle.smt_nodes.specs.declared.id.NodeId.{NodeId}
use Rattle.smt_blast.specs.Marks.{HasSeen}
use Rattle.smt_blast.specs.Standing.{Grows}
use Rattle.smt_blast.specs.Tables.{IsTable}
use Rattle.smt_blast.proofs.gates.Gates.table.Given as goal

abbrev pub invariant-loop-mark : goal.invariant-loop-mark
invariant-loop-mark l = record {
  count : length l.table.items ≡ l.mark-index;
  entries : (ids : List NodeId) (vs : Variables) → HasSeen l.old l.marks ids vs → IsTable l.old l.marks vs l.self.nodes l.table.items × Grows l.initial.self.nodes l.self.nodes (2048 * l.mark-index);
}
