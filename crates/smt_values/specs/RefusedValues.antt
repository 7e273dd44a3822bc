-- What an error says of the Cedar value or the expression that was given.
use Rattle.std.specs.Prelude.{◌≡◌, Some, None, Result, Ok, Err}
use Rattle.smt_ext.specs.ExtOrder.{SameExt, plain_value}
use Rattle.smt_ext.specs.declared.datetime.error.DatetimeError.{DatetimeError}
use Rattle.smt_ext.specs.declared.datetime.error.DatetimeError.TheVariants as moments
use Rattle.smt_ext.specs.declared.decimal.DecimalError.{DecimalError}
use Rattle.smt_ext.specs.declared.decimal.DecimalError.TheVariants as decimals
use Rattle.smt_ext.specs.declared.ext.Ext.{Ext}
use Rattle.smt_ext.specs.declared.ext.ExtParseError.{ExtParseError}
use Rattle.smt_ext.specs.declared.ext.ExtParseError.TheVariants as readers
use Rattle.smt_ext.specs.declared.error.IPError.{IPError as RangeError}
use Rattle.smt_ext.specs.declared.error.IPError.TheVariants as ranges
use Rattle.smt_values.specs.Constructors.{value_of_expression, value_of_value}
use Rattle.smt_values.specs.PlainValues.{PlainExpression, PlainValue}
use Rattle.smt_values.specs.ValueView.{plain_expression, plain_value_of}
use Rattle.smt_values.specs.declared.ext_error.ExtError.{ExtError}
use Rattle.smt_values.specs.declared.ext_error.ExtError.TheVariants.{FromValue, FromRestrictedExpr, DatetimeError as OfDatetime}
use Rattle.smt_values.specs.declared.ext_error.ExtError.TheVariants.{DecimalError as OfDecimal, IPError as OfRange, Memory}

-- The error of a call that was given a value: it has that value, which is no value of an extension type, or it is want of
-- memory.
abbrev pub IsValueRefusal : PlainValue → ExtError → Type 0
IsValueRefusal v (FromValue given) = (plain_value_of given ≡ v) × (value_of_value v ≡ None)
IsValueRefusal v Memory = Unit {0}
IsValueRefusal v e = ⊥

-- The error of a call that was given an expression: it has that expression, which says no value of an extension type, or it is
-- want of memory.
abbrev pub IsExpressionRefusal : PlainExpression → ExtError → Type 0
IsExpressionRefusal e (FromRestrictedExpr given) = (plain_expression given ≡ e) × (value_of_expression e ≡ None)
IsExpressionRefusal e Memory = Unit {0}
IsExpressionRefusal e other = ⊥

-- The answer to a value: the value of an extension type that it is, or the refusal that it is none.
abbrev pub IsAnswer : PlainValue → Result Ext ExtError → Type 0
IsAnswer v (Ok x) = value_of_value v ≡ Some (plain_value x)
IsAnswer v (Err e) = IsValueRefusal v e

-- The answer is a value of an extension type that is equal to this one, or there was no memory.
abbrev pub IsSameUnlessMemory : Ext → Result Ext ExtError → Type 0
IsSameUnlessMemory x (Ok y) = SameExt y x
IsSameUnlessMemory x (Err e) = e ≡ Memory

-- the error of the reader of decimals as an error of the step from Cedar's values, whose own want of memory is that of the
-- reader
abbrev pub decimal_refusal : DecimalError → ExtError
decimal_refusal decimals.Memory = Memory
decimal_refusal e = OfDecimal e

-- the error of the reader of datetimes and durations as an error of the step from Cedar's values, whose own want of memory is
-- that of the reader
abbrev pub datetime_refusal : DatetimeError → ExtError
datetime_refusal moments.Memory = Memory
datetime_refusal e = OfDatetime e

-- the error of the reader of IP ranges as an error of the step from Cedar's values, whose own want of memory is that of the
-- reader
abbrev pub range_refusal : RangeError → ExtError
range_refusal ranges.Memory = Memory
range_refusal e = OfRange e

-- the error of any of the readers as an error of the step from Cedar's values: each as its own kind above, and want of memory
-- as that
abbrev pub reader_refusal : ExtParseError → ExtError
reader_refusal (readers.DecimalError e) = decimal_refusal e
reader_refusal (readers.DatetimeError e) = datetime_refusal e
reader_refusal (readers.IPError e) = range_refusal e
reader_refusal readers.Memory = Memory
