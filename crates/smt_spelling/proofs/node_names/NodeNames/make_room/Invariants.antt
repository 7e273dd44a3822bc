use Rattle.std.proofs.Common.{◌≡◌, ℕ, length}
use Rattle.smt_spelling.specs.Texts.{kept_at}
use Rattle.smt_spelling.proofs.node_names.NodeNames.make_room.Given as goal

abbrev pub invariant-loop : goal.invariant-loop
invariant-loop l = record {
  room : length l.self.texts.items ≡ l.counter;
  texts : (place : ℕ) → kept_at l.self.texts.items place ≡ kept_at l.fn.self.texts.items place;
  order : l.self.order ≡ l.fn.self.order;
  marks : l.self.marks ≡ l.fn.self.marks;
  terms : l.self.terms ≡ l.fn.self.terms;
  types : l.self.types ≡ l.fn.self.types;
  functions : l.self.functions ≡ l.fn.self.functions;
}
