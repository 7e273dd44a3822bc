-- What a term tells that stands for a function's application, in every interpretation of that application: the containment of the
-- ranges that are the arguments' values, and the answer of the arithmetic of datetimes and durations at the arguments' values.
use Rattle.std.specs.Prelude.{◌≡◌, ℤ, pos, ◌+ℤ◌, ◌-ℤ◌, List, [], ◌∷◌, None}
use Rattle.std.specs.List.{AllZip}
use Rattle.smt_ext.specs.IpRanges.{IsLoopback, IsMulticast, Range, Version4, Version6}
use Rattle.smt_ext.specs.Milliseconds.{day_start, time_of_day}
use Rattle.law_extensions.specs.Bounds.{LiesInOne}
use Rattle.law_extensions.specs.ExtensionFunctions.{duration_since, is_in_range, is_loopback, is_multicast, offset, to_date, to_time}
use Rattle.law_extensions.specs.Values.{HasDatetime, HasDuration, HasRange, IsSomeIn, Tells}
use Rattle.law_folding.specs.Builder.{applied}
use Rattle.law_folding.specs.Refinement.{Refines}
use Rattle.law_terms.specs.Faults.{first_fault}
use Rattle.law_terms.specs.Formed.{IsFormed}
use Rattle.law_terms.specs.Interpretations.{IsInterpretation}
use Rattle.law_terms.specs.Meaning.{term_value}
use Rattle.law_terms.specs.Plain.{DatetimeKind, DatetimeOf, DurationKind, DurationOf, ExtensionKind, ExtensionType, IpAddrKind, Ipv4Of}
use Rattle.law_terms.specs.Plain.{Ipv6Of, PlainTerm}
use Rattle.law_terms.specs.Tables.{Interpretation}
use Rattle.law_terms.specs.TypeValues.{Enums}
use Rattle.law_terms.specs.Typing.{Typed}
use Rattle.law_terms.specs.Values.{ExtensionValue, Value}

-- ---- IP ranges

-- the answer tells whether the addresses of the first range are all among those of one in the list
abbrev pub TellsContainment : (t : PlainTerm) (ts : List PlainTerm) (answer : PlainTerm) → Type 0
TellsContainment t ts u =
    (enums : Enums) (I : Interpretation) (r : Range) (rs : List Range) → HasRange I t r → AllZip (HasRange I) ts rs →
    IsInterpretation enums (is_in_range applied t ts ∷ []) I → Tells I u (LiesInOne r rs)

-- the answer tells whether the addresses of the range are all among those of 127.0.0.0/8, or of ::1
abbrev pub TellsLoopback : (t answer : PlainTerm) → Type 0
TellsLoopback t u =
    (enums : Enums) (I : Interpretation) (r : Range) → HasRange I t r → IsInterpretation enums (is_loopback applied t ∷ []) I →
    Tells I u (IsLoopback r)

-- the answer tells whether the addresses of the range are all among those of 224.0.0.0/4, or of ff00::/8
abbrev pub TellsMulticast : (t answer : PlainTerm) → Type 0
TellsMulticast t u =
    (enums : Enums) (I : Interpretation) (r : Range) → HasRange I t r → IsInterpretation enums (is_multicast applied t ∷ []) I →
    Tells I u (IsMulticast r)

-- ---- datetimes and durations

-- the answer is some of the datetime that is a duration later, and none where that leaves the 64 bits
abbrev pub TellsOffset : (t u answer : PlainTerm) → Type 0
TellsOffset t u v =
    (enums : Enums) (I : Interpretation) (z w : ℤ) → HasDatetime I t z → HasDuration I u w →
    IsInterpretation enums (offset applied t u ∷ []) I → IsSomeIn I v (z +ℤ w) DatetimeOf

-- the answer is some of the duration from the second datetime to the first, and none where that leaves the 64 bits
abbrev pub TellsDurationSince : (t u answer : PlainTerm) → Type 0
TellsDurationSince t u v =
    (enums : Enums) (I : Interpretation) (z w : ℤ) → HasDatetime I t z → HasDatetime I u w →
    IsInterpretation enums (duration_since applied t u ∷ []) I → IsSomeIn I v (z -ℤ w) DurationOf

-- the answer is some of the last midnight, and none where that leaves the 64 bits
abbrev pub TellsDate : (t answer : PlainTerm) → Type 0
TellsDate t v =
    (enums : Enums) (I : Interpretation) (z : ℤ) → HasDatetime I t z → IsInterpretation enums (to_date applied t ∷ []) I →
    IsSomeIn I v (day_start z) DatetimeOf

-- the answer is the duration since the last midnight
abbrev pub TellsTime : (t answer : PlainTerm) → Type 0
TellsTime t v =
    (enums : Enums) (I : Interpretation) (z : ℤ) → HasDatetime I t z → IsInterpretation enums (to_time applied t ∷ []) I →
    term_value I v ≡ ExtensionValue (DurationOf (time_of_day z))

-- whatever term stands for the application of a function tells what the function answers
pub record AnswersHaveValues : Type 0 where
  pub is_in_range : (t : PlainTerm) (ts : List PlainTerm) (u : PlainTerm) → Refines u (is_in_range applied t ts) → TellsContainment t ts u
  pub is_loopback : (t u : PlainTerm) → Refines u (is_loopback applied t) → TellsLoopback t u
  pub is_multicast : (t u : PlainTerm) → Refines u (is_multicast applied t) → TellsMulticast t u
  pub offset : (t u v : PlainTerm) → Refines v (offset applied t u) → TellsOffset t u v
  pub duration_since : (t u v : PlainTerm) → Refines v (duration_since applied t u) → TellsDurationSince t u v
  pub to_date : (t v : PlainTerm) → Refines v (to_date applied t) → TellsDate t v
  pub to_time : (t v : PlainTerm) → Refines v (to_time applied t) → TellsTime t v

-- ---- what arguments have for values

-- the range that a value is, and 0.0.0.0 of a value that is no range
abbrev pub range_of_value : Value → Range
range_of_value (ExtensionValue (Ipv4Of a p)) = record { family = Version4; address = a; prefix = p }
range_of_value (ExtensionValue (Ipv6Of a p)) = record { family = Version6; address = a; prefix = p }
range_of_value v = record { family = Version4; address = 0; prefix = None }

-- the number of milliseconds that a datetime or a duration is, and 0 of any other value
abbrev pub milliseconds_of_value : Value → ℤ
milliseconds_of_value (ExtensionValue (DatetimeOf z)) = z
milliseconds_of_value (ExtensionValue (DurationOf z)) = z
milliseconds_of_value v = pos 0

-- A typed term of an extension type without fault, in one of its interpretations.
pub record IsArgument (enums : Enums) (I : Interpretation) (k : ExtensionKind) (t : PlainTerm) : Type 0 where
  pub typed : Typed t (ExtensionType k)
  pub formed : IsFormed t
  pub faultless : first_fault enums (t ∷ []) ≡ None
  pub interpreted : IsInterpretation enums (t ∷ []) I

-- It has a range for its value where it is of the type of ranges, and a number of milliseconds where it is of datetimes or durations.
pub record ArgumentsHaveValues : Type 0 where
  pub range : (enums : Enums) (I : Interpretation) (t : PlainTerm) → IsArgument enums I IpAddrKind t →
      HasRange I t (range_of_value (term_value I t))
  pub datetime : (enums : Enums) (I : Interpretation) (t : PlainTerm) → IsArgument enums I DatetimeKind t →
      HasDatetime I t (milliseconds_of_value (term_value I t))
  pub duration : (enums : Enums) (I : Interpretation) (t : PlainTerm) → IsArgument enums I DurationKind t →
      HasDuration I t (milliseconds_of_value (term_value I t))
