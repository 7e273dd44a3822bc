use Rattle.smt_ext.specs.contracts.decimal.DecimalOrd.TheImpl as decimal_order
use Rattle.smt_ext.specs.contracts.decimal.DecimalOrd.TheImpl.Laws as decimal_laws
use Rattle.smt_ext.specs.contracts.decimal.DecimalPartialEq.TheImpl as decimal_equality
use Rattle.smt_ext.specs.contracts.datetime.DatetimeOrd.TheImpl as datetime_order
use Rattle.smt_ext.specs.contracts.datetime.DatetimeOrd.TheImpl.Laws as datetime_laws
use Rattle.smt_ext.specs.contracts.datetime.DatetimePartialEq.TheImpl as datetime_equality
use Rattle.smt_ext.specs.contracts.datetime.DurationOrd.TheImpl as duration_order
use Rattle.smt_ext.specs.contracts.datetime.DurationOrd.TheImpl.Laws as duration_laws
use Rattle.smt_ext.specs.contracts.datetime.DurationPartialEq.TheImpl as duration_equality
use Rattle.smt_ext.specs.contracts.ext.ExtOrd.TheImpl as value_order
use Rattle.smt_ext.specs.contracts.ext.ExtOrd.TheImpl.Laws as value_laws
use Rattle.smt_ext.specs.contracts.ext.ExtPartialEq.TheImpl as value_equality
use Rattle.smt_bits.proofs.Levels.{equality_decided}
use Rattle.smt_ext.proofs.Levels.{level_datetimes, level_decimals, level_durations, level_values}
use Rattle.smt_ext.proofs.laws.orders.equality_is_decided.Goals as goal

pub returns-clause-decimals : goal.returns-clause-decimals
returns-clause-decimals c = equality_decided decimal_equality.ghosts.eq decimal_order.ghosts.cmp decimal_laws.matches_eq-law decimal_laws.total-law level_decimals

pub returns-clause-datetimes : goal.returns-clause-datetimes
returns-clause-datetimes c = equality_decided datetime_equality.ghosts.eq datetime_order.ghosts.cmp datetime_laws.matches_eq-law datetime_laws.total-law level_datetimes

pub returns-clause-durations : goal.returns-clause-durations
returns-clause-durations c = equality_decided duration_equality.ghosts.eq duration_order.ghosts.cmp duration_laws.matches_eq-law duration_laws.total-law level_durations

pub returns-clause-values : goal.returns-clause-values
returns-clause-values c = equality_decided value_equality.ghosts.eq value_order.ghosts.cmp value_laws.matches_eq-law value_laws.total-law level_values
