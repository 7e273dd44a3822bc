use Rattle.std.proofs.Common.{◌≡◌, ◌≤◌, length}
use Rattle.std.specs.Vec.{vec_capacity}
use Rattle.smt_spelling.proofs.Levels.{AreLeft}
use Rattle.smt_spelling.proofs.node_names.NodeNames.cut.Given as goal

abbrev pub invariant-loop-self : goal.invariant-loop-self
invariant-loop-self l = record {
  within : l.kept ≤ length l.self.order.items;
  left : AreLeft l.fn.self.texts.items l.self.texts.items l.fn.self.order.items l.self.order.items;
  marks : l.self.marks.items ≡ l.fn.self.marks.items;
  places : length l.self.texts.items ≡ length l.fn.self.texts.items;
  order : vec_capacity l.self.order ≡ vec_capacity l.fn.self.order;
  terms : l.self.terms ≡ l.fn.self.terms;
  types : l.self.types ≡ l.fn.self.types;
  functions : l.self.functions ≡ l.fn.self.functions;
}

abbrev pub decreases-loop-self : goal.decreases-loop-self
decreases-loop-self l = length l.self.order.items
