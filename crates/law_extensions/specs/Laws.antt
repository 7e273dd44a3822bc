-- Laws of the functions on values of the extension types: that each folding stands for the application that it was asked for, and
-- that on literals it is the literal of the answer.
use Rattle.std.specs.Prelude.{◌≡◌, ◌↔◌, ◌⊎◌, ℕ, ◌-◌, ◌^◌, ◌≤◌, ℤ, ◌+ℤ◌, ◌-ℤ◌, int_lt, int_le, Bool, IsTrue, List, map, Option, unwrap_or}
use Rattle.std.specs.List.{AllByRecursion}
use Rattle.law_numbers.specs.Longs.{IsLong}
use Rattle.smt_ext.specs.IpRanges.{IsIn, IsLoopback, IsMulticast, LiesIn, Range, Version4, Version6}
use Rattle.smt_ext.specs.Milliseconds.{day_start, time_of_day, whole_days, whole_hours, whole_minutes, whole_seconds}
use Rattle.law_extensions.specs.Bounds.{IsRange, LiesInOne, highest, lowest, range_literal}
use Rattle.smt_ext.specs.IpOrder.{plain_range}
use Rattle.law_extensions.specs.ExtensionFunctions.{duration_since, greater_than, greater_than_or_equal, in_range, in_range_lit, in_range_v}
use Rattle.law_extensions.specs.ExtensionFunctions.{is_in_range, is_ipv4, is_ipv6, is_loopback, is_multicast, less_than, less_than_or_equal}
use Rattle.law_extensions.specs.ExtensionFunctions.{offset, range_v4, range_v6, subnet_width, to_date, to_days, to_hours, to_milliseconds}
use Rattle.law_extensions.specs.ExtensionFunctions.{to_minutes, to_seconds, to_time}
use Rattle.law_extensions.specs.Literals.{datetime, decimal, duration, ipv4, ipv6, no_datetime, no_duration}
use Rattle.law_folding.specs.Applications.{bits_literal, false_term, true_term, truth_literal}
use Rattle.law_folding.specs.Builder.{applied, folding}
use Rattle.law_folding.specs.FoldExtensions.{prefix_literal, signed_literal}
use Rattle.law_folding.specs.Refinement.{Refines}
use Rattle.law_terms.specs.Plain.{PlainExtension, PlainTerm, SomeTerm}
use Rattle.law_terms.specs.TypeValues.{IsPrefix}

-- the terms of the first pair stand for those of the second
abbrev pub BothRefine : (PlainTerm × PlainTerm) → (PlainTerm × PlainTerm) → Type 0
BothRefine p q = Refines p.0 q.0 × Refines p.1 q.1

-- What each function gives by folding stands for its application. Of a test and of bounds that are handed in, what they give at each
-- term stands for what they give where the application is asked for.
pub record ExtensionFunctionsAreFolded : Type 0 where
  pub less_than : (t u : PlainTerm) → Refines (less_than folding t u) (less_than applied t u)
  pub less_than_or_equal : (t u : PlainTerm) → Refines (less_than_or_equal folding t u) (less_than_or_equal applied t u)
  pub greater_than : (t u : PlainTerm) → Refines (greater_than folding t u) (greater_than applied t u)
  pub greater_than_or_equal : (t u : PlainTerm) → Refines (greater_than_or_equal folding t u) (greater_than_or_equal applied t u)
  pub is_ipv4 : (t : PlainTerm) → Refines (is_ipv4 folding t) (is_ipv4 applied t)
  pub is_ipv6 : (t : PlainTerm) → Refines (is_ipv6 folding t) (is_ipv6 applied t)
  pub subnet_width : (w : ℕ) (p : PlainTerm) → Refines (subnet_width folding w p) (subnet_width applied w p)
  pub range_v4 : (t : PlainTerm) → BothRefine (range_v4 folding t) (range_v4 applied t)
  pub range_v6 : (t : PlainTerm) → BothRefine (range_v6 folding t) (range_v6 applied t)
  pub in_range : (range original : PlainTerm → (PlainTerm × PlainTerm)) (t u : PlainTerm) → BothRefine (range t) (original t) →
      BothRefine (range u) (original u) → Refines (in_range folding range t u) (in_range applied original t u)
  pub in_range_v : (is_ip original_is_ip : PlainTerm → PlainTerm) (range original : PlainTerm → (PlainTerm × PlainTerm)) (t : PlainTerm)
      (ts : List PlainTerm) → ((x : PlainTerm) → Refines (is_ip x) (original_is_ip x)) →
      ((x : PlainTerm) → BothRefine (range x) (original x)) →
      Refines (in_range_v folding is_ip range t ts) (in_range_v applied original_is_ip original t ts)
  pub is_in_range : (t : PlainTerm) (ts : List PlainTerm) → Refines (is_in_range folding t ts) (is_in_range applied t ts)
  pub in_range_lit : (t : PlainTerm) (x y : PlainExtension) → Refines (in_range_lit folding t x y) (in_range_lit applied t x y)
  pub is_loopback : (t : PlainTerm) → Refines (is_loopback folding t) (is_loopback applied t)
  pub is_multicast : (t : PlainTerm) → Refines (is_multicast folding t) (is_multicast applied t)
  pub to_milliseconds : (t : PlainTerm) → Refines (to_milliseconds folding t) (to_milliseconds applied t)
  pub to_seconds : (t : PlainTerm) → Refines (to_seconds folding t) (to_seconds applied t)
  pub to_minutes : (t : PlainTerm) → Refines (to_minutes folding t) (to_minutes applied t)
  pub to_hours : (t : PlainTerm) → Refines (to_hours folding t) (to_hours applied t)
  pub to_days : (t : PlainTerm) → Refines (to_days folding t) (to_days applied t)
  pub offset : (t u : PlainTerm) → Refines (offset folding t u) (offset applied t u)
  pub duration_since : (t u : PlainTerm) → Refines (duration_since folding t u) (duration_since applied t u)
  pub to_date : (t : PlainTerm) → Refines (to_date folding t) (to_date applied t)
  pub to_time : (t : PlainTerm) → Refines (to_time folding t) (to_time applied t)

-- ---- decimals

-- literals of decimals are compared by their numbers
pub record DecimalsAreCompared : Type 0 where
  pub less_than : (z w : ℤ) → IsLong z → IsLong w → less_than folding (decimal z) (decimal w) ≡ truth_literal (int_lt z w)
  pub less_than_or_equal : (z w : ℤ) → IsLong z → IsLong w → less_than_or_equal folding (decimal z) (decimal w) ≡ truth_literal (int_le z w)
  pub greater_than : (z w : ℤ) → IsLong z → IsLong w → greater_than folding (decimal z) (decimal w) ≡ truth_literal (int_lt w z)
  pub greater_than_or_equal : (z w : ℤ) → IsLong z → IsLong w →
      greater_than_or_equal folding (decimal z) (decimal w) ≡ truth_literal (int_le w z)

-- ---- datetimes and durations

-- a literal of a duration gives its number of each unit, rounded towards zero
pub record DurationsAreMeasured : Type 0 where
  pub milliseconds : (z : ℤ) → to_milliseconds folding (duration z) ≡ signed_literal z
  pub seconds : (z : ℤ) → IsLong z → to_seconds folding (duration z) ≡ signed_literal (whole_seconds z)
  pub minutes : (z : ℤ) → IsLong z → to_minutes folding (duration z) ≡ signed_literal (whole_minutes z)
  pub hours : (z : ℤ) → IsLong z → to_hours folding (duration z) ≡ signed_literal (whole_hours z)
  pub days : (z : ℤ) → IsLong z → to_days folding (duration z) ≡ signed_literal (whole_days z)

-- some of a number's literal where the number stays in the 64 bits, and else another term
pub record IsSomeWhereLong (folded : PlainTerm) (number : ℤ) (literal : ℤ → PlainTerm) (otherwise : PlainTerm) : Type 0 where
  pub some : IsLong number → folded ≡ SomeTerm (literal number)
  pub none : (IsLong number → ⊥) → folded ≡ otherwise

-- a sum and a difference, where they stay in the 64 bits
pub record DatetimesAreMoved : Type 0 where
  pub offset : (z w : ℤ) → IsLong z → IsLong w → IsSomeWhereLong (offset folding (datetime z) (duration w)) (z +ℤ w) datetime no_datetime
  pub duration_since : (z w : ℤ) → IsLong z → IsLong w →
      IsSomeWhereLong (duration_since folding (datetime z) (datetime w)) (z -ℤ w) duration no_duration

-- the last midnight, where it stays in the 64 bits, and the milliseconds since
pub record DatetimesAreSplit : Type 0 where
  pub date : (z : ℤ) → IsLong z → IsSomeWhereLong (to_date folding (datetime z)) (day_start z) datetime no_datetime
  pub time : (z : ℤ) → IsLong z → to_time folding (datetime z) ≡ duration (time_of_day z)

-- ---- IP ranges

-- the family of a literal
pub record FamiliesAreTold : Type 0 where
  pub ipv4_of_v4 : (a : ℕ) (p : Option ℕ) → is_ipv4 folding (ipv4 a p) ≡ true_term
  pub ipv4_of_v6 : (a : ℕ) (p : Option ℕ) → is_ipv4 folding (ipv6 a p) ≡ false_term
  pub ipv6_of_v4 : (a : ℕ) (p : Option ℕ) → is_ipv6 folding (ipv4 a p) ≡ false_term
  pub ipv6_of_v6 : (a : ℕ) (p : Option ℕ) → is_ipv6 folding (ipv6 a p) ≡ true_term

-- The free bits of a literal of a prefix of w bits, at addresses of 2 to the w bits: those behind the prefix, and none where there
-- is none.
abbrev pub FreeBitsAreCounted : Type 0
FreeBitsAreCounted =
    (w : ℕ) (p : Option ℕ) → IsPrefix w p → subnet_width folding w (prefix_literal w p) ≡ bits_literal (2 ^ w) (2 ^ w - unwrap_or p (2 ^ w))

-- the addresses of a range are those from its lowest to its highest
abbrev pub RangesAreBlocks : Type 0
RangesAreBlocks = (r : Range) → IsRange r → (a : ℕ) → IsIn a r ↔ ((lowest r ≤ a) × (a ≤ highest r))

-- the lowest and the highest address of a literal of the family
pub record RangesAreBounded : Type 0 where
  pub v4 : (r : Range) → IsRange r → r.family ≡ Version4 →
      range_v4 folding (range_literal r) ≡ (bits_literal 32 (lowest r), bits_literal 32 (highest r))
  pub v6 : (r : Range) → IsRange r → r.family ≡ Version6 →
      range_v6 folding (range_literal r) ≡ (bits_literal 128 (lowest r), bits_literal 128 (highest r))

-- The term is a literal, which is true exactly where the statement holds.
pub record IsTruthOf (t : PlainTerm) (P : Type 0) : Type 0 where
  pub value : Bool
  pub literal : t ≡ truth_literal value
  pub says : IsTrue value ↔ P

-- Of literals each test of containment is true exactly where the first's addresses are all among the second's; of a list, where
-- they are among those of one in it; of two ranges, one of each family, where they are among those of one.
pub record ContainmentIsTold : Type 0 where
  pub in_range_v4 : (r t : Range) → IsRange r → IsRange t → r.family ≡ Version4 → t.family ≡ Version4 →
      IsTruthOf (in_range folding (range_v4 folding) (range_literal r) (range_literal t)) (LiesIn r t)
  pub in_range_v6 : (r t : Range) → IsRange r → IsRange t → r.family ≡ Version6 → t.family ≡ Version6 →
      IsTruthOf (in_range folding (range_v6 folding) (range_literal r) (range_literal t)) (LiesIn r t)
  pub in_one_v4 : (r : Range) (ts : List Range) → IsRange r → AllByRecursion IsRange ts →
      IsTruthOf (in_range_v folding (is_ipv4 folding) (range_v4 folding) (range_literal r) (map range_literal ts))
      ((r.family ≡ Version4) × LiesInOne r ts)
  pub in_one_v6 : (r : Range) (ts : List Range) → IsRange r → AllByRecursion IsRange ts →
      IsTruthOf (in_range_v folding (is_ipv6 folding) (range_v6 folding) (range_literal r) (map range_literal ts))
      ((r.family ≡ Version6) × LiesInOne r ts)
  pub is_in_range : (r : Range) (ts : List Range) → IsRange r → AllByRecursion IsRange ts →
      IsTruthOf (is_in_range folding (range_literal r) (map range_literal ts)) (LiesInOne r ts)
  pub in_range_lit : (r x y : Range) → IsRange r → IsRange x → IsRange y → x.family ≡ Version4 → y.family ≡ Version6 →
      IsTruthOf (in_range_lit folding (range_literal r) (plain_range x) (plain_range y)) (LiesIn r x ⊎ LiesIn r y)
  pub is_loopback : (r : Range) → IsRange r → IsTruthOf (is_loopback folding (range_literal r)) (IsLoopback r)
  pub is_multicast : (r : Range) → IsRange r → IsTruthOf (is_multicast folding (range_literal r)) (IsMulticast r)
