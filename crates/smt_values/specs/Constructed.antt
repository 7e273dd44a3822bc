-- Which expression is made of a value of an extension type.
use Rattle.std.specs.Prelude.{ℕ, ℤ, codes, List, ◌++◌}
use Rattle.std.specs.Fmt.{signed_decimal}
use Rattle.law_numbers.specs.Extensions.{PlainExtension, DecimalOf, Ipv4Of, Ipv6Of, DatetimeOf, DurationOf}
use Rattle.smt_ext.specs.IpPrinted.{range_text}
use Rattle.smt_ext.specs.IpRanges.{Version4, Version6}
use Rattle.smt_ext.specs.Printed.{decimal_text}
use Rattle.smt_values.specs.PlainValues.{TextOf, PlainExpression, LiteralExpression, CallOf, no_arguments, argument}

-- a call of the function of this name with one text as its argument
abbrev pub call_with : (name text : List ℕ) → PlainExpression
call_with name text = CallOf name (argument (LiteralExpression (TextOf text)) no_arguments)

-- the text of so many milliseconds, such as "5ms", which Cedar's `duration` reads
abbrev pub milliseconds_text : ℤ → List ℕ
milliseconds_text span = signed_decimal span ++ codes "ms"

-- the call of `duration` that says a span of so many milliseconds, such as `duration("5ms")`
abbrev pub duration_call : ℤ → PlainExpression
duration_call span = call_with (codes "duration") (milliseconds_text span)

-- the call of `offset` that says a moment by its milliseconds from the beginning of 1970, whose first millisecond has the
-- number 0
abbrev pub datetime_call : ℤ → PlainExpression
datetime_call moment =
    CallOf (codes "offset") (argument (call_with (codes "datetime") (codes "1970-01-01")) (argument (duration_call moment) no_arguments))

-- the expression that says a value of an extension type: of decimals and IP ranges a call with their printed text, of datetimes
-- and durations a call with their milliseconds
abbrev pub constructor_of : PlainExtension → PlainExpression
constructor_of (DecimalOf v) = call_with (codes "decimal") (decimal_text v)
constructor_of (Ipv4Of a p) = call_with (codes "ip") (range_text (record { family = Version4; address = a; prefix = p }))
constructor_of (Ipv6Of a p) = call_with (codes "ip") (range_text (record { family = Version6; address = a; prefix = p }))
constructor_of (DatetimeOf v) = datetime_call v
constructor_of (DurationOf v) = duration_call v
