use Rattle.std.proofs.Common.{sym, ◌∙◌, rules}
use Rattle.smt_eval.proofs.FirstPlaces.{with_known_key, with_new_key}
use Rattle.smt_eval.proofs.assignment.Entries.give.Goals as goal

pub invariant_of-self-then-contains_key : goal.invariant_of-self-then-contains_key
invariant_of-self-then-contains_key g c = record {
  placed = with_known_key g.met.K.Ord.total c.args.key c.args.entry c.args.self.now.items.items c.requires c.args.self.now.places c.args.self.now.placed (sym c.contains_key.ensures ∙ c.if-contains_key.true) _ (search rules);
}

pub invariant_of-self-2 : goal.invariant_of-self-2
invariant_of-self-2 g c = record {
  placed = with_new_key g.met.K.Ord.total c.args.key c.args.entry c.args.self.now.items.items c.requires c.args.self.now.places c.insert.new.self _ c.args.self.now.placed (sym c.contains_key.ensures ∙ c.if-contains_key.false) c.in_ok-insert.ensures.updates (search rules) _ (search rules);
}
