use Rattle.smt_ext.specs.contracts.net.IPNetOrd.TheImpl.Laws as range_laws
use Rattle.smt_ext.proofs.laws.ip.orders.orders_are_total.Goals as goal

pub returns-clause-ranges : goal.returns-clause-ranges
returns-clause-ranges c = range_laws.total-law
