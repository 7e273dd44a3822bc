-- The orders of the value types hold nothing level but equal values.
use Rattle.std.proofs.Common.{◌≡◌, Equal, ap, rules}
use Rattle.std.specs.FinMap.{IsAntisymmetric}
use Rattle.std.specs.Ordering.{int_cmp}
use Rattle.smt_ext.specs.contracts.ext.ExtOrd.TheImpl as value_order
use Rattle.smt_ext.specs.declared.datetime.Datetime.{Datetime as Moment}
use Rattle.smt_ext.specs.declared.datetime.Duration.{Duration as Span}
use Rattle.smt_ext.specs.declared.decimal.Decimal.{Decimal as Number}
use Rattle.smt_ext.specs.declared.ext.Ext.TheVariants.{Decimal, Ipaddr, Datetime, Duration}
use Rattle.smt_ext.proofs.NumberSame.{same_datetime, same_decimal, same_duration}
use Rattle.smt_ext.proofs.IpLevels.{level_ranges}

pub level_decimals : (a b : Number) → int_cmp a.ten_thousandths b.ten_thousandths ≡ Equal → a ≡ b
level_decimals a b h = same_decimal a b (search rules)

pub level_datetimes : (a b : Moment) → int_cmp a.milliseconds b.milliseconds ≡ Equal → a ≡ b
level_datetimes a b h = same_datetime a b (search rules)

pub level_durations : (a b : Span) → int_cmp a.milliseconds b.milliseconds ≡ Equal → a ≡ b
level_durations a b h = same_duration a b (search rules)

pub level_values : IsAntisymmetric value_order.ghosts.cmp
level_values (Decimal a) (Decimal b) h = ap Decimal (level_decimals a b h)
level_values (Ipaddr a) (Ipaddr b) h = ap Ipaddr (level_ranges a b h)
level_values (Datetime a) (Datetime b) h = ap Datetime (level_datetimes a b h)
level_values (Duration a) (Duration b) h = ap Duration (level_durations a b h)
level_values a b h = cc
