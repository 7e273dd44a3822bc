-- Calls that are read, each with its value, and calls and values that are not.
use Rattle.std.specs.Prelude.{◌≡◌, ℕ, ◌*◌, ◌^◌, true, pos, negsuc, Some, None, List, [], ◌∷◌, codes}
use Rattle.law_numbers.specs.Extensions.{DecimalOf, Ipv4Of, DatetimeOf, DurationOf}
use Rattle.smt_values.specs.Constructed.{call_with}
use Rattle.smt_values.specs.Constructors.{value_of_expression, value_of_value}
use Rattle.smt_values.specs.PlainValues.{TruthOf, LongOf, TextOf, PlainExpression, LiteralExpression, CallOf, OtherExpression, no_arguments}
use Rattle.smt_values.specs.PlainValues.{argument, arguments, LiteralValue, SetValue, ExtensionValue, one_value, no_values}

-- the literal of a text as an expression
abbrev pub text : List ℕ → PlainExpression
text bytes = LiteralExpression (TextOf bytes)

-- Calls of one function with one text, and calls that say no value.
pub record CallExamples : Type 0 where
  pub decimal : value_of_expression (call_with (codes "decimal") (codes "1.0")) ≡ Some (DecimalOf (pos 10000))
  pub datetime : value_of_expression (call_with (codes "datetime") (codes "2024-02-29")) ≡ Some (DatetimeOf (pos 1709164800000))
  pub duration : value_of_expression (call_with (codes "duration") (codes "-5ms")) ≡ Some (DurationOf (negsuc 4))
  pub ip : value_of_expression (call_with (codes "ip") (codes "10.0.0.0/8")) ≡ Some (Ipv4Of (10 * 2 ^ 24) (Some 8))
  -- a text that is not read, no argument, two arguments, an argument that is no text, a name with a capital, another name
  pub no_decimal : value_of_expression (call_with (codes "decimal") (codes "1")) ≡ None
  pub no_argument : value_of_expression (CallOf (codes "decimal") no_arguments) ≡ None
  pub two_arguments : value_of_expression (CallOf (codes "decimal") (arguments (text (codes "1.0") ∷ text (codes "1.0") ∷ []))) ≡ None
  pub number : value_of_expression (CallOf (codes "decimal") (argument (LiteralExpression (LongOf (pos 1))) no_arguments)) ≡ None
  pub call_inside :
      value_of_expression (CallOf (codes "decimal") (argument (call_with (codes "decimal") (codes "1.0")) no_arguments)) ≡ None
  pub capital : value_of_expression (call_with (codes "Decimal") (codes "1.0")) ≡ None
  pub other_name : value_of_expression (call_with (codes "ipaddr") (codes "10.0.0.0/8")) ≡ None

-- a call of `offset` with two arguments
abbrev pub offset : PlainExpression → PlainExpression → PlainExpression
offset d e = CallOf (codes "offset") (arguments (d ∷ e ∷ []))

-- the call of `datetime` with this text
abbrev pub moment : List ℕ → PlainExpression
moment bytes = call_with (codes "datetime") bytes

-- the call of `duration` with this text
abbrev pub span : List ℕ → PlainExpression
span bytes = call_with (codes "duration") bytes

-- Calls of `offset` that say a value, and calls of it that say none.
pub record OffsetExamples : Type 0 where
  pub later : value_of_expression (offset (moment (codes "1970-01-01")) (span (codes "1d"))) ≡ Some (DatetimeOf (pos 86400000))
  pub earlier : value_of_expression (offset (moment (codes "1970-01-01")) (span (codes "-1ms"))) ≡ Some (DatetimeOf (negsuc 0))
  pub greatest :
      value_of_expression (offset (moment (codes "1970-01-01")) (span (codes "9223372036854775807ms")))
      ≡ Some (DatetimeOf (pos 9223372036854775807))
  -- past 64 bits, the arguments the other way round, one argument alone, and an offset of an offset
  pub too_late : value_of_expression (offset (moment (codes "2024-02-29")) (span (codes "9223372036854775807ms"))) ≡ None
  pub turned : value_of_expression (offset (span (codes "1d")) (moment (codes "1970-01-01"))) ≡ None
  pub one_argument : value_of_expression (CallOf (codes "offset") (argument (moment (codes "1970-01-01")) no_arguments)) ≡ None
  pub offset_of_offset : value_of_expression (offset (offset (moment (codes "1970-01-01")) (span (codes "1d"))) (span (codes "1d"))) ≡ None
  pub texts : value_of_expression (offset (text (codes "1970-01-01")) (text (codes "1d"))) ≡ None
  pub no_moment : value_of_expression (offset (moment (codes "1970-1-1")) (span (codes "1d"))) ≡ None
  pub no_span : value_of_expression (offset (moment (codes "1970-01-01")) (span (codes "1"))) ≡ None

-- Expressions that are no calls, and values that are of extension types or are not.
pub record ValueExamples : Type 0 where
  pub no_call : value_of_expression (text (codes "1.0")) ≡ None
  pub other : value_of_expression OtherExpression ≡ None
  pub extension : value_of_value (ExtensionValue (call_with (codes "decimal") (codes "1.0"))) ≡ Some (DecimalOf (pos 10000))
  pub truth : value_of_value (LiteralValue (TruthOf true)) ≡ None
  pub text_alone : value_of_value (LiteralValue (TextOf (codes "1.0"))) ≡ None
  pub set : value_of_value (SetValue (one_value (ExtensionValue (call_with (codes "decimal") (codes "1.0"))) no_values)) ≡ None
