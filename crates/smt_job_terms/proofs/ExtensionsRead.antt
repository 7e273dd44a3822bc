-- Values of extension types, as they are read of texts.
use Rattle.std.proofs.Common.{◌≡◌, ℕ, ℤ, List, Option, Some, None, Ok, Err, option_map, refl, sym, ap, ◌∙◌}
use Rattle.smt_ext.specs.DatetimeText.{IsDatetimeText}
use Rattle.smt_ext.specs.Decimal.{IsDecimalText}
use Rattle.smt_ext.specs.DurationText.{IsDurationText}
use Rattle.smt_ext.specs.ExtOrder.{plain_value}
use Rattle.smt_ext.specs.Extensions.{IsRangeText, RefusesRange, WritesDatetime, WritesDecimal, WritesDuration}
use Rattle.smt_ext.specs.IpOrder.{plain_range}
use Rattle.smt_ext.specs.IpView.{IsNoRange, RefusesText, range_of}
use Rattle.smt_ext.specs.Milliseconds.{datetime_value, duration_value}
use Rattle.smt_ext.specs.declared.ext.Ext.{Ext}
use Rattle.smt_ext.specs.declared.ext.Ext.TheVariants.{Decimal, Ipaddr, Datetime, Duration}
use Rattle.smt_ext.specs.declared.ext.ExtParseError.{ExtParseError}
use Rattle.smt_ext.specs.declared.error.IPError.{IPError}
use Rattle.smt_ext.specs.declared.error.IPError.TheVariants.{ParseError, BitVecError, ExepectedOctet, Memory}
use Rattle.law_extensions.specs.DatetimeTexts.{datetime_in}
use Rattle.law_extensions.specs.DecimalTexts.{decimal_in}
use Rattle.law_extensions.specs.DurationTexts.{duration_in}
use Rattle.law_extensions.specs.RangeTexts.{range_in}
use Rattle.law_extensions.proofs.DatetimeTexts.{datetimes_are_read}
use Rattle.law_extensions.proofs.DecimalTexts.{decimals_are_read}
use Rattle.law_extensions.proofs.DurationTexts.{durations_are_read}
use Rattle.law_extensions.proofs.RangeTexts.{ranges_are_read}
use Rattle.law_terms.specs.Plain.{DatetimeOf, DecimalOf, DurationOf, ExtensionLiteral, LiteralTerm, PlainExtension, PlainLiteral, PlainTerm}
use Rattle.law_texts.specs.Reading.{Expressions}
use Rattle.law_jobs.specs.Outcomes.{FormFault, LiteralFault}
use Rattle.law_texts.specs.Outcomes.{◌>>=◌, demanded}
use Rattle.law_texts.specs.Parts.{sole_text}
use Rattle.law_jobs.specs.Terms.{Whole, datetime_literal, decimal_literal, duration_literal, literal_form, range_literal, whole_literal}
use Rattle.smt_job_terms.specs.ReadAs.{IsFault, IsFaultIn}
use Rattle.smt_job_terms.specs.declared.error.JobError.{JobError}
use Rattle.smt_job_terms.proofs.Reading.{fault_passes}

-- the literal of a value
abbrev pub literal_of : Ext → PlainLiteral
literal_of v = ExtensionLiteral (plain_value v)

-- ---- what is read is the value

pub decimal_read : (text : List ℕ) (x : Ext) → WritesDecimal text x → Some (literal_of x) ≡ decimal_literal text
decimal_read text (Decimal d) h = ap (option_map (λ z. ExtensionLiteral (DecimalOf z))) (sym ((decimals_are_read text d.ten_thousandths).1 h))
decimal_read text (Ipaddr ip) h = absurd h
decimal_read text (Datetime dt) h = absurd h
decimal_read text (Duration d) h = absurd h

pub range_read : (text : List ℕ) (x : Ext) → IsRangeText text x → Some (literal_of x) ≡ range_literal text
range_read text (Ipaddr ip) h = ap (option_map (λ r. ExtensionLiteral (plain_range r))) (sym ((ranges_are_read text (range_of ip)).1 h))
range_read text (Decimal d) h = absurd h
range_read text (Datetime dt) h = absurd h
range_read text (Duration d) h = absurd h

pub datetime_read : (text : List ℕ) (x : Ext) → WritesDatetime text x → Some (literal_of x) ≡ datetime_literal text
datetime_read text (Datetime dt) h = ap (option_map (λ z. ExtensionLiteral (DatetimeOf z))) (sym ((datetimes_are_read text (datetime_value dt)).1 h))
datetime_read text (Decimal d) h = absurd h
datetime_read text (Ipaddr ip) h = absurd h
datetime_read text (Duration d) h = absurd h

pub duration_read : (text : List ℕ) (x : Ext) → WritesDuration text x → Some (literal_of x) ≡ duration_literal text
duration_read text (Duration d) h = ap (option_map (λ z. ExtensionLiteral (DurationOf z))) (sym ((durations_are_read text (duration_value d)).1 h))
duration_read text (Decimal d) h = absurd h
duration_read text (Ipaddr ip) h = absurd h
duration_read text (Datetime dt) h = absurd h

-- ---- what is refused has no value

none_of : {A : Type 0} (view : A → PlainExtension) (o : Option A) → ((a : A) → o ≡ Some a → ⊥) → None ≡ option_map (λ a. ExtensionLiteral (view a)) o
none_of view (Some a) h = absurd (h a refl)
none_of view None h = refl

pub no_decimal : (text : List ℕ) → ((v : ℤ) → IsDecimalText text v → ⊥) → None ≡ decimal_literal text
no_decimal text h = none_of DecimalOf (decimal_in text) (λ v e. h v ((decimals_are_read text v).0 e))

no_range_text : (text : List ℕ) (e : IPError) → RefusesText text e → IsNoRange text
no_range_text text (ParseError payload) h = h.1
no_range_text text (BitVecError e) h = absurd h
no_range_text text ExepectedOctet h = absurd h
no_range_text text Memory h = h

pub no_range : (text : List ℕ) (e : ExtParseError) → RefusesRange text e → None ≡ range_literal text
no_range text e h = none_of plain_range (range_in text) (λ r is. no_range_text text h.inner h.refused r ((ranges_are_read text r).0 is))

pub no_datetime : (text : List ℕ) → ((v : ℤ) → IsDatetimeText text v → ⊥) → None ≡ datetime_literal text
no_datetime text h = none_of DatetimeOf (datetime_in text) (λ v e. h v ((datetimes_are_read text v).0 e))

pub no_duration : (text : List ℕ) → ((v : ℤ) → IsDurationText text v → ⊥) → None ≡ duration_literal text
no_duration text h = none_of DurationOf (duration_in text) (λ v e. h v ((durations_are_read text v).0 e))

-- ---- the forms of literals

module _ (read : List ℕ → Option PlainLiteral) (es : Expressions) (text given : List ℕ) (o : Option Ext) (sole : sole_text es ≡ Some text) (same : given ≡ text) (is_read : option_map literal_of o ≡ read given) where
  by_value : (p : Option Ext) → o ≡ p → literal_form read es ≡ demanded (LiteralFault text) (option_map whole_literal (option_map literal_of p))
  by_value p is =
      ap (λ a. demanded FormFault a >>= λ t. demanded (LiteralFault t) (option_map whole_literal (read t))) sole
      ∙ ap (λ l. demanded (LiteralFault text) (option_map whole_literal l)) (ap read (sym same) ∙ sym is_read ∙ ap (option_map literal_of) is)

  pub value_stated : (x : Ext) (t : PlainTerm) → o ≡ Some x → t ≡ LiteralTerm (literal_of x) → literal_form read es ≡ Ok (Whole t)
  value_stated x t is literal = by_value (Some x) is ∙ ap (λ u. Ok (Whole u)) (sym literal)

  pub refusal_stated : (e : JobError) → o ≡ None → IsFault e (LiteralFault text) → IsFaultIn e (literal_form read es)
  refusal_stated e is h = fault_passes e (literal_form read es) (Err (LiteralFault text)) h (λ f p. let d : LiteralFault text ≡ f = cc in by_value None is ∙ ap Err d)
