use Rattle.std.proofs.Common.{refl, rules}
use Rattle.smt_nodes.proofs.Tables.{entered, unchanged}
use Rattle.smt_nodes.proofs.table.Table.enter.Goals as goal

pub returns-in_err-reserve-clause-index : goal.returns-in_err-reserve-clause-index
returns-in_err-reserve-clause-index c = unchanged c.args.self.now _ c.requires.index c.reserve.ensures.items ((λ l. refl), λ k. refl)

pub returns-in_err-enter_id-clause-index : goal.returns-in_err-enter_id-clause-index
returns-in_err-enter_id-clause-index c = unchanged c.args.self.now _ c.requires.index (search rules) c.in_err-enter_id.ensures.same

pub returns-clause-index : goal.returns-clause-index
returns-clause-index c = entered c.args.self.now _ c.args.first c.args.node _ c.requires.index c.requires.first (search rules) c.in_ok-enter_id.ensures.label c.in_ok-enter_id.ensures.key (search rules)
