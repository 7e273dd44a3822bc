use Rattle.std.proofs.Common.{◌∙◌, ◌++◌, ap, sym, refl}
use Rattle.law_texts.specs.Reading.{brackets}
use Rattle.smt_sexpr.specs.Refusals.{open_lists}
use Rattle.smt_sexpr.specs.View.{lists_in, plain-App, plains}
use Rattle.smt_sexpr.proofs.TokenLists.{ended, lists_more, lists_none, next_from, unclosed}
use Rattle.smt_sexpr.proofs.parse.end.Goals as goal

pub returns-in_default-clause-fault : goal.returns-in_default-clause-fault
returns-in_default-clause-fault c =
    unclosed (lists_in c.args.lists.now.items) c.args.max_depth (lists_none c.args.lists.now.items (sym c.args.lists.now.ok.0 ∙ c.in_default.ensures.cases.0))

pub add-requires-clause-shallow : goal.add-requires-clause-shallow
add-requires-clause-shallow c =
    let whole = lists_more c.pop.new.self.items c.args.lists.now.items c.in-Some.items (plains c.in-Some.items) c.in-Some.ensures.items refl in
    (ended (lists_in c.args.lists.now.items) (lists_in c.pop.new.self.items) (plains c.in-Some.items) c.args.max_depth whole c.requires).0

pub add-requires-clause-item_shallow : goal.add-requires-clause-item_shallow
add-requires-clause-item_shallow c =
    let whole = lists_more c.pop.new.self.items c.args.lists.now.items c.in-Some.items (plains c.in-Some.items) c.in-Some.ensures.items refl in
    let within = (ended (lists_in c.args.lists.now.items) (lists_in c.pop.new.self.items) (plains c.in-Some.items) c.args.max_depth whole c.requires).1 in
    rw plain-App within

pub returns-in-Ok-clause-next : goal.returns-in-Ok-clause-next
returns-in-Ok-clause-next c =
    let whole = lists_more c.pop.new.self.items c.args.lists.now.items c.in-Some.items (plains c.in-Some.items) c.in-Some.ensures.items refl in
    let same = (ended (lists_in c.args.lists.now.items) (lists_in c.pop.new.self.items) (plains c.in-Some.items) c.args.max_depth whole c.requires).2 in
    next_from c.in-Ok.whole c.args.max_depth (lists_in c.args.lists.now.items) (lists_in c.pop.new.self.items) (lists_in c.add.new.lists.items) _ _
    (same ∙ ap (λ v. open_lists (lists_in c.pop.new.self.items) ++ brackets v) (sym (plain-App c.in-Some.items))) c.in-Ok.ensures.next
