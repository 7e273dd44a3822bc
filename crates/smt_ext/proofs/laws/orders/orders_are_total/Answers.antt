use Rattle.smt_ext.specs.contracts.ext.ExtOrd.TheImpl.Laws as value_laws
use Rattle.smt_ext.proofs.laws.orders.orders_are_total.Goals as goal

pub returns-clause-values : goal.returns-clause-values
returns-clause-values c = value_laws.total-law
