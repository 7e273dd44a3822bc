use Rattle.std.proofs.Common.{rules}
use Rattle.smt_nodes.proofs.Tables.{first_within}
use Rattle.smt_nodes.proofs.table.Table.first_of.Goals as goal

pub returns-in-Some-clause-within : goal.returns-in-Some-clause-within
returns-in-Some-clause-within c = first_within c.args.self.now c.requires c.args.label.now c.copied.result (search rules)

pub returns-in-None-clause-within : goal.returns-in-None-clause-within
returns-in-None-clause-within c = first_within c.args.self.now c.requires c.args.label.now c.copied-in-None.result (search rules)
