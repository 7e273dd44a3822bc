use Rattle.std.proofs.Common.{◌∷◌, [], ap, arith, length, length-append}
use Rattle.smt_spelling.proofs.node_names.NodeNames.enter_function.Goals as goal

pub overflow_add-self : goal.overflow_add-self
overflow_add-self c =
    let longer = length-append c.args.self.now.order.items (c.args.id ∷ []) in
    let order = ap length c.keep.ensures.order in
    let small = c.keep.new.self.order.small in
    omega (arith, longer, order, small, c.keep.ensures.terms, c.keep.ensures.types, c.keep.ensures.functions, c.args.self.now.named, c.keep.new.self.order.ok)

pub invariant_of-self : goal.invariant_of-self
invariant_of-self c =
    let longer = length-append c.args.self.now.order.items (c.args.id ∷ []) in
    let order = ap length c.keep.ensures.order in
    let kept = c.keep.new.self in
    record { named = omega (arith, longer, order, c.keep.ensures.terms, c.keep.ensures.types, c.keep.ensures.functions, c.args.self.now.named); ordered = kept.ordered; marked = kept.marked }
