use Rattle.std.proofs.Common.{◌≡◌, ◌+◌, ◌∷◌, ◌++◌, [], Bool, true, false, None, ap, arith, length, length-append, ◌∙◌}
use Rattle.std.specs.Prelude.{if◌then◌else◌, is_ok}
use Rattle.smt_spelling.specs.Texts.{kept_at, kept_count}
use Rattle.smt_spelling.proofs.Kept.{at_most, room, room_counts, Texts}
use Rattle.smt_spelling.proofs.node_names.NodeNames.make_room.Goals as goal

either : (b : Bool) (old new : Texts) → new ≡ (if b then old ++ None ∷ [] else old) → kept_count new ≡ kept_count old
either true old new is = ap kept_count is ∙ room_counts old
either false old new is = ap kept_count is

pub invariant_of-self : goal.invariant_of-self
invariant_of-self c = record { named = c.loop.self.named; ordered = omega (arith, either (is_ok c.push.result) c.loop.self.texts.items c.push.new.self.items c.push.ensures.items, c.loop.self.ordered); marked = c.loop.self.marked }

pub loop-preserved : goal.loop-preserved
loop-preserved c =
    let is = c.in_ok-push.ensures.items in
    record {
      room = ap length is ∙ length-append c.loop.self.texts.items (None ∷ []) ∙ ap (λ n. n + 1) c.loop.invariant.room;
      texts = λ place. ap (λ (l : Texts). kept_at l place) is ∙ room c.loop.self.texts.items place ∙ c.loop.invariant.texts place;
      order = c.loop.invariant.order;
      marks = c.loop.invariant.marks;
      terms = c.loop.invariant.terms;
      types = c.loop.invariant.types;
      functions = c.loop.invariant.functions;
    }

pub overflow_sub-nodes : goal.overflow_sub-nodes
overflow_sub-nodes c =
    let names = c.loop.self in
    omega (arith, names.ordered, at_most names.texts.items, c.loop.invariant.room, c.loop.auto.counter, c.loop.auto.counter-end, c.loop-test.false, c.len.ensures, names.order.ok, c.requires, c.len-counter.ensures)
