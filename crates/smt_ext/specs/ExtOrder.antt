-- The order of the values of the four types.
use Rattle.std.specs.Prelude.{◌≡◌}
use Rattle.std.specs.declared.cmp.Ordering.{Ordering}
use Rattle.law_numbers.specs.Extensions.{PlainExtension, DecimalOf, DatetimeOf, DurationOf, extension_literal_cmp}
use Rattle.smt_ext.specs.declared.ext.Ext.{Ext}
use Rattle.smt_ext.specs.declared.ext.Ext.TheVariants.{Decimal, Ipaddr, Datetime, Duration}
use Rattle.smt_ext.specs.IpOrder.{plain_range}
use Rattle.smt_ext.specs.IpView.{range_of}
use Rattle.smt_ext.specs.Milliseconds.{datetime_value, duration_value}

-- the number or the range that a value stands for, as literals of terms have it
abbrev pub plain_value : Ext → PlainExtension
plain_value (Decimal d) = DecimalOf d.ten_thousandths
plain_value (Ipaddr ip) = plain_range (range_of ip)
plain_value (Datetime dt) = DatetimeOf (datetime_value dt)
plain_value (Duration d) = DurationOf (duration_value d)

-- Decimals first, then IP ranges, datetimes and durations, and inside a kind by the signed number or the range. Literals of terms have
-- this order too.
abbrev pub ext_cmp : Ext → Ext → Ordering
ext_cmp x y = extension_literal_cmp (plain_value x) (plain_value y)

-- both stand for one number of one kind, or for one range
abbrev pub SameExt : Ext → Ext → Type 0
SameExt x y = plain_value x ≡ plain_value y
