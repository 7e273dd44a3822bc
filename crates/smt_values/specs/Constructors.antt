-- Which expressions say which values of extension types.
use Rattle.std.specs.Prelude.{ℕ, ℤ, ◌+ℤ◌, bytes_eq, codes, if◌then◌else◌, List, [], ◌∷◌, Option, Some, None, option_map}
use Rattle.std.specs.Map.{lookup}
use Rattle.law_numbers.specs.Extensions.{PlainExtension, DecimalOf, DatetimeOf, DurationOf}
use Rattle.law_texts.specs.Options.{◌>>=◌}
use Rattle.smt_ext.specs.IpOrder.{plain_range}
use Rattle.law_extensions.specs.DatetimeTexts.{datetime_in}
use Rattle.law_extensions.specs.DecimalTexts.{decimal_in}
use Rattle.law_extensions.specs.DurationTexts.{duration_in}
use Rattle.law_extensions.specs.RangeTexts.{range_in}
use Rattle.law_extensions.specs.Signs.{is_long}
use Rattle.smt_values.specs.PlainValues.{CedarLiteral, TextOf, PlainExpression, LiteralExpression, CallOf, PlainArguments, no_arguments}
use Rattle.smt_values.specs.PlainValues.{argument, PlainValue, ExtensionValue}

-- ---- arguments

-- the text that a literal is, where it is one
abbrev pub text_in : CedarLiteral → Option (List ℕ)
text_in (TextOf text) = Some text
text_in literal = None

-- the text that an expression is, where it is a literal of a text
abbrev pub text_of : PlainExpression → Option (List ℕ)
text_of (LiteralExpression literal) = text_in literal
text_of e = None

-- the argument of a call, where there is exactly one
abbrev pub sole_argument : PlainArguments → Option PlainExpression
sole_argument (argument e no_arguments) = Some e
sole_argument args = None

-- the text of a call, where there is exactly one argument and it is a text
abbrev pub sole_text : PlainArguments → Option (List ℕ)
sole_text args = sole_argument args >>= text_of

-- both arguments of a call, where there are exactly two
abbrev pub two_arguments : PlainArguments → Option (PlainExpression × PlainExpression)
two_arguments (argument d (argument e no_arguments)) = Some (d, e)
two_arguments args = None

-- the arguments of an expression, where it is a call of the function of this name
abbrev pub called : (name : List ℕ) → PlainExpression → Option PlainArguments
called name (CallOf given args) = if bytes_eq name given then Some args else None
called name e = None

-- ---- the five functions

-- the value that `decimal` makes of its arguments, as in `decimal("1.5")`: one of Cedar's decimal values, where the one text
-- writes such
abbrev pub decimal_of : PlainArguments → Option PlainExtension
decimal_of args = option_map DecimalOf (sole_text args >>= decimal_in)

-- the value that `ip` makes of its arguments, as in `ip("10.0.0.0/8")`: one of Cedar's IP addresses and ranges, where the one
-- text writes such
abbrev pub range_of : PlainArguments → Option PlainExtension
range_of args = option_map plain_range (sole_text args >>= range_in)

-- the moment that `datetime` makes of its arguments, as in `datetime("2024-10-15")`, in milliseconds from 1970
abbrev pub moment_of : PlainArguments → Option ℤ
moment_of args = sole_text args >>= datetime_in

-- the span that `duration` makes of its arguments, as in `duration("5ms")`, in milliseconds
abbrev pub span_of : PlainArguments → Option ℤ
span_of args = sole_text args >>= duration_in

-- the value that `datetime` makes of its arguments: one of Cedar's datetime values
abbrev pub datetime_of : PlainArguments → Option PlainExtension
datetime_of args = option_map DatetimeOf (moment_of args)

-- the value that `duration` makes of its arguments: one of Cedar's duration values
abbrev pub duration_of : PlainArguments → Option PlainExtension
duration_of args = option_map DurationOf (span_of args)

-- a moment put off by a span, both in milliseconds, where the sum is a signed integer of 64 bits
abbrev pub later : ℤ → ℤ → Option ℤ
later moment span = if is_long (moment +ℤ span) then Some (moment +ℤ span) else None

-- the moment of an expression that is a call of `datetime`, in milliseconds from 1970
abbrev pub moment_called : PlainExpression → Option ℤ
moment_called e = called (codes "datetime") e >>= moment_of

-- the span of an expression that is a call of `duration`, in milliseconds
abbrev pub span_called : PlainExpression → Option ℤ
span_called e = called (codes "duration") e >>= span_of

-- the moment of a call of `datetime` put off by the span of a call of `duration`, where that is in 64 bits
abbrev pub offset_between : PlainExpression × PlainExpression → Option ℤ
offset_between p = do
  moment ← moment_called p.0
  span ← span_called p.1
  later moment span

-- the value that `offset` makes of its arguments, as in `offset(datetime("2024-10-15"), duration("5ms"))`: the datetime of the
-- first, put off by the duration of the second
abbrev pub offset_of : PlainArguments → Option PlainExtension
offset_of args = option_map DatetimeOf (two_arguments args >>= offset_between)

-- Cedar's functions that make values of extension types, by their names
abbrev pub constructors : List (List ℕ × (PlainArguments → Option PlainExtension))
constructors =
    (codes "decimal", decimal_of)
    ∷ (codes "datetime", datetime_of)
    ∷ (codes "duration", duration_of)
    ∷ (codes "ip", range_of)
    ∷ (codes "offset", offset_of)
    ∷ []

-- ---- expressions and values

-- the value that a call of the function of this name says with these arguments, where it says one
abbrev pub value_of_call : (name : List ℕ) → PlainArguments → Option PlainExtension
value_of_call name args = lookup (bytes_eq name) constructors >>= λ made. made args

-- the value of an extension type that an expression says: that of a call of one of the five functions
abbrev pub value_of_expression : PlainExpression → Option PlainExtension
value_of_expression (CallOf name args) = value_of_call name args
value_of_expression e = None

-- the value of an extension type that a Cedar value is, where it is one
abbrev pub value_of_value : PlainValue → Option PlainExtension
value_of_value (ExtensionValue e) = value_of_expression e
value_of_value v = None
