use Rattle.smt_sexpr.specs.View.{lists_in, plain}
use Rattle.smt_sexpr.proofs.TokenLists.{added, whole_next}
use Rattle.smt_sexpr.proofs.parse.add.Goals as goal

pub returns-in-Ok-None-clause-next : goal.returns-in-Ok-None-clause-next
returns-in-Ok-None-clause-next c =
    added (plain c.args.item) (lists_in c.args.lists.now.items) (lists_in c.put.new.lists.items) c.args.max_depth (rw c.in-Ok-None.field-0-is at c.in-Ok-None.ensures.inside) c.requires.shallow c.requires.item_shallow

pub returns-in-Ok-Some-clause-next : goal.returns-in-Ok-Some-clause-next
returns-in-Ok-Some-clause-next c =
    let w = rw c.in-Ok-Some.field-0-is at c.in-Ok-Some.ensures.whole in
    whole_next c.in-Ok-Some.whole c.args.item c.args.max_depth (lists_in c.args.lists.now.items) (lists_in c.put.new.lists.items) w.0 w.1 c.requires.item_shallow
