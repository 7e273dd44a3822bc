-- What the functions on values of the extension types answer in an interpretation, by the values of their arguments.
use Rattle.std.specs.Prelude.{◌≡◌, ◌↔◌, ℤ, ◌+ℤ◌, ◌-ℤ◌, Bool, IsTrue, List, [], ◌∷◌}
use Rattle.std.specs.List.{AllZip}
use Rattle.law_numbers.specs.Longs.{IsLong}
use Rattle.smt_ext.specs.IpRanges.{IsLoopback, IsMulticast, Range}
use Rattle.smt_ext.specs.Milliseconds.{day_start, time_of_day}
use Rattle.law_extensions.specs.Bounds.{IsRange, LiesInOne}
use Rattle.smt_ext.specs.IpOrder.{plain_range}
use Rattle.law_extensions.specs.ExtensionFunctions.{duration_since, is_in_range, is_loopback, is_multicast, offset, to_date, to_time}
use Rattle.law_folding.specs.Builder.{applied}
use Rattle.law_terms.specs.Formed.{IsFormed}
use Rattle.law_terms.specs.Interpretations.{IsInterpretation}
use Rattle.law_terms.specs.Meaning.{term_value}
use Rattle.law_terms.specs.Plain.{DatetimeKind, DatetimeOf, DurationKind, DurationOf, ExtensionKind, ExtensionType, IpAddrKind}
use Rattle.law_terms.specs.Plain.{PlainExtension, PlainTerm}
use Rattle.law_terms.specs.Tables.{Interpretation}
use Rattle.law_terms.specs.TypeValues.{Enums}
use Rattle.law_terms.specs.Typing.{Typed}
use Rattle.law_terms.specs.Values.{BoolValue, ExtensionValue, NoneValue, SomeValue}

-- a typed and formed term of an extension type, with this value
pub record HasValue (I : Interpretation) (k : ExtensionKind) (t : PlainTerm) (x : PlainExtension) : Type 0 where
  pub typed : Typed t (ExtensionType k)
  pub formed : IsFormed t
  pub value : term_value I t ≡ ExtensionValue x

-- a typed term of IP ranges, with this range for its value, whose address and prefix are numbers of their bits
pub record HasRange (I : Interpretation) (t : PlainTerm) (r : Range) : Type 0 where
  pub range : HasValue I IpAddrKind t (plain_range r)
  pub fits : IsRange r

-- a typed term of datetimes, with this number of milliseconds since 1970-01-01T00:00:00Z, which is a number of 64 bits
pub record HasDatetime (I : Interpretation) (t : PlainTerm) (z : ℤ) : Type 0 where
  pub datetime : HasValue I DatetimeKind t (DatetimeOf z)
  pub fits : IsLong z

-- a typed term of durations, with this number of milliseconds, which is a number of 64 bits
pub record HasDuration (I : Interpretation) (t : PlainTerm) (z : ℤ) : Type 0 where
  pub duration : HasValue I DurationKind t (DurationOf z)
  pub fits : IsLong z

-- the term's value is a truth value, which is true exactly where the statement holds
pub record Tells (I : Interpretation) (t : PlainTerm) (P : Type 0) : Type 0 where
  pub truth : Bool
  pub value : term_value I t ≡ BoolValue truth
  pub says : IsTrue truth ↔ P

-- the term's value is some of a number's, where the number stays in the 64 bits, and else none
pub record IsSomeIn (I : Interpretation) (t : PlainTerm) (number : ℤ) (valued : ℤ → PlainExtension) : Type 0 where
  pub some : IsLong number → term_value I t ≡ SomeValue (ExtensionValue (valued number))
  pub none : (IsLong number → ⊥) → term_value I t ≡ NoneValue

-- In an interpretation of what is built: a range lies in one of a list exactly where its addresses are all among those of one, and
-- is a loopback or a multicast range exactly where they are among those of one of the two blocks.
pub record ContainmentHasValues : Type 0 where
  pub is_in_range : (enums : Enums) (I : Interpretation) (t : PlainTerm) (ts : List PlainTerm) (r : Range) (rs : List Range) →
      HasRange I t r → AllZip (HasRange I) ts rs → IsInterpretation enums (is_in_range applied t ts ∷ []) I →
      Tells I (is_in_range applied t ts) (LiesInOne r rs)
  pub is_loopback : (enums : Enums) (I : Interpretation) (t : PlainTerm) (r : Range) → HasRange I t r →
      IsInterpretation enums (is_loopback applied t ∷ []) I → Tells I (is_loopback applied t) (IsLoopback r)
  pub is_multicast : (enums : Enums) (I : Interpretation) (t : PlainTerm) (r : Range) → HasRange I t r →
      IsInterpretation enums (is_multicast applied t ∷ []) I → Tells I (is_multicast applied t) (IsMulticast r)

-- In an interpretation of what is built: the sum and the difference where they stay in the 64 bits, the last midnight where it
-- does, and the milliseconds since.
pub record TimesHaveValues : Type 0 where
  pub offset : (enums : Enums) (I : Interpretation) (t u : PlainTerm) (z w : ℤ) → HasDatetime I t z → HasDuration I u w →
      IsInterpretation enums (offset applied t u ∷ []) I → IsSomeIn I (offset applied t u) (z +ℤ w) DatetimeOf
  pub duration_since : (enums : Enums) (I : Interpretation) (t u : PlainTerm) (z w : ℤ) → HasDatetime I t z → HasDatetime I u w →
      IsInterpretation enums (duration_since applied t u ∷ []) I → IsSomeIn I (duration_since applied t u) (z -ℤ w) DurationOf
  pub to_date : (enums : Enums) (I : Interpretation) (t : PlainTerm) (z : ℤ) → HasDatetime I t z →
      IsInterpretation enums (to_date applied t ∷ []) I → IsSomeIn I (to_date applied t) (day_start z) DatetimeOf
  pub to_time : (enums : Enums) (I : Interpretation) (t : PlainTerm) (z : ℤ) → HasDatetime I t z →
      IsInterpretation enums (to_time applied t ∷ []) I → term_value I (to_time applied t) ≡ ExtensionValue (DurationOf (time_of_day z))
