use Rattle.smt_ext.specs.contracts.decimal.DecimalOrd.TheImpl as decimal_order
use Rattle.smt_ext.specs.contracts.decimal.DecimalOrd.TheImpl.Laws as decimal_laws
use Rattle.smt_ext.specs.contracts.datetime.DatetimeOrd.TheImpl as datetime_order
use Rattle.smt_ext.specs.contracts.datetime.DatetimeOrd.TheImpl.Laws as datetime_laws
use Rattle.smt_ext.specs.contracts.datetime.DurationOrd.TheImpl as duration_order
use Rattle.smt_ext.specs.contracts.datetime.DurationOrd.TheImpl.Laws as duration_laws
use Rattle.smt_ext.specs.contracts.ext.ExtOrd.TheImpl as value_order
use Rattle.smt_ext.specs.contracts.ext.ExtOrd.TheImpl.Laws as value_laws
use Rattle.smt_bits.proofs.Levels.{level_where_equal}
use Rattle.smt_ext.proofs.Levels.{level_datetimes, level_decimals, level_durations, level_values}
use Rattle.smt_ext.proofs.laws.orders.orders_agree_with_equality.Goals as goal

pub returns-clause-decimals : goal.returns-clause-decimals
returns-clause-decimals c = level_where_equal decimal_order.ghosts.cmp decimal_laws.total-law level_decimals

pub returns-clause-datetimes : goal.returns-clause-datetimes
returns-clause-datetimes c = level_where_equal datetime_order.ghosts.cmp datetime_laws.total-law level_datetimes

pub returns-clause-durations : goal.returns-clause-durations
returns-clause-durations c = level_where_equal duration_order.ghosts.cmp duration_laws.total-law level_durations

pub returns-clause-values : goal.returns-clause-values
returns-clause-values c = level_where_equal value_order.ghosts.cmp value_laws.total-law level_values
