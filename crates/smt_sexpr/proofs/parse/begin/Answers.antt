use Rattle.std.proofs.Common.{◌≡◌, ◌∙◌, arith, length}
use Rattle.smt_sexpr.specs.View.{lists_in}
use Rattle.smt_sexpr.proofs.TokenLists.{begun, count_is, lists_more, too_deep}
use Rattle.smt_sexpr.proofs.parse.begin.Goals as goal

pub returns-then-len-max_depth-clause-fault : goal.returns-then-len-max_depth-clause-fault
returns-then-len-max_depth-clause-fault c =
    let count = count_is c.args.lists.now.items in
    let len : c.len.result ≡ length c.args.lists.now.items = c.len.ensures ∙ c.args.lists.now.ok.0 in
    let deep = c.if-len-max_depth.true in
    too_deep (lists_in c.args.lists.now.items) c.args.max_depth (omega arith)

pub returns-clause-next : goal.returns-clause-next
returns-clause-next c =
    let count = count_is c.args.lists.now.items in
    let len : c.len.result ≡ length c.args.lists.now.items = c.len.ensures ∙ c.args.lists.now.ok.0 in
    let shallow = c.if-len-max_depth.false in
    begun (lists_in c.args.lists.now.items) (lists_in c.push.new.self.items) c.args.max_depth (lists_more c.args.lists.now.items c.push.new.self.items c.new.result _ c.in_ok-push.ensures.items c.new.ensures) c.requires (omega arith)
