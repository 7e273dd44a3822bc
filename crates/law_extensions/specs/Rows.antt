-- Worked examples of what the functions on values of the extension types answer at a variable, by the value that an interpretation
-- gives it, and of rules on IP ranges.
use Rattle.std.specs.Prelude.{◌≡◌, ℕ, ◌*◌, ◌+◌, ◌^◌, ℤ, pos, negsuc, true, false, List, [], ◌∷◌, map, codes, Option, Some, None}
use Rattle.std.specs.List.{AllZip}
use Rattle.law_numbers.specs.Longs.{IsLong}
use Rattle.smt_ext.specs.IpRanges.{Range, Version4, Version6}
use Rattle.law_extensions.specs.Bounds.{IsRange, LiesInOne, range_literal}
use Rattle.smt_ext.specs.IpOrder.{plain_range}
use Rattle.law_extensions.specs.ExtensionFunctions.{duration_since, in_range_v, is_in_range, is_ipv4, is_ipv6, is_loopback, is_multicast}
use Rattle.law_extensions.specs.ExtensionFunctions.{offset, range_v4, range_v6, to_date, to_time}
use Rattle.law_extensions.specs.Literals.{datetime, duration}
use Rattle.law_extensions.specs.FoldedRows.{address_v4, greatest, least}
use Rattle.law_extensions.specs.Rules.{BlockLiesIn, HoldsIn, IsRangeRule, LiesInOneOfFamily, RuleTells, number_in}
use Rattle.law_extensions.specs.Values.{HasDatetime, HasDuration, HasRange, IsSomeIn, Tells}
use Rattle.law_folding.specs.Applications.{bits_literal, false_term, true_term}
use Rattle.law_folding.specs.Builder.{applied}
use Rattle.law_terms.specs.Defaults.{default_interpretation}
use Rattle.law_terms.specs.Interpretations.{IsInterpretation}
use Rattle.law_terms.specs.Meaning.{term_value}
use Rattle.law_terms.specs.Plain.{DatetimeKind, DatetimeOf, DurationKind, DurationOf, ExtensionType, IpAddrKind, PlainExtension, PlainTerm}
use Rattle.law_terms.specs.Plain.{VariableTerm}
use Rattle.law_terms.specs.Tables.{Interpretation}
use Rattle.law_terms.specs.Values.{BoolValue, ExtensionValue, NoneValue, SomeValue, Value}

-- a variable of IP ranges
abbrev pub source : PlainTerm
source = VariableTerm (codes "source") (ExtensionType IpAddrKind)

-- a variable of datetimes
abbrev pub moment : PlainTerm
moment = VariableTerm (codes "moment") (ExtensionType DatetimeKind)

-- a variable of durations
abbrev pub delay : PlainTerm
delay = VariableTerm (codes "delay") (ExtensionType DurationKind)

-- the interpretation in which each variable has this value
abbrev pub given : PlainExtension → Interpretation
given x = record (default_interpretation []) { variable = λ id t. ExtensionValue x }

-- ---- IP ranges

-- a range of version 4, by the four numbers of its address and its prefix
abbrev pub v4 : (ℕ × ℕ × ℕ × ℕ) → Option ℕ → Range
v4 a p = record { family = Version4; address = address_v4 a; prefix = p }

-- a range of version 6, by its address as one number and its prefix
abbrev pub v6 : ℕ → Option ℕ → Range
v6 a p = record { family = Version6; address = a; prefix = p }

-- what a function of the variable answers where the variable is each of these ranges
abbrev pub at_ranges : (PlainTerm → PlainTerm) → List Range → List Value
at_ranges f rs = map (λ r. term_value (given (plain_range r)) (f source)) rs

-- 10.0.0.0/8 and ::1/128
abbrev pub blocks : List Range
blocks = v4 (10, 0, 0, 0) (Some 8) ∷ v6 1 None ∷ []

-- an address of the first block, a narrower range, and one that is too wide; an address outside, and one of the other family with
-- the number of the first; the second block, and the address behind it
abbrev pub sources : List Range
sources =
    v4 (10, 1, 2, 3) None ∷ v4 (10, 1, 0, 0) (Some 16) ∷ v4 (10, 0, 0, 0) (Some 7) ∷ v4 (11, 0, 0, 1) None
    ∷ v6 (address_v4 (10, 1, 2, 3)) None ∷ v6 1 None ∷ v6 2 None ∷ []

-- the interpretation in which the variable is 10.1.2.3
abbrev pub in_ten : Interpretation
in_ten = given (plain_range (v4 (10, 1, 2, 3) None))

-- What the tests of containment are at the variable, for several ranges that it may have; which of these ranges lie in the blocks,
-- by their addresses; and one case in which the term is shown to tell that.
pub record ContainmentExamples : Type 0 where
  pub contained :
      at_ranges (λ t. is_in_range applied t (map range_literal blocks)) sources
      ≡ map BoolValue (true ∷ true ∷ false ∷ false ∷ false ∷ true ∷ false ∷ [])
  -- 0.0.0.0/0 has every address of its family
  pub all :
      at_ranges (λ t. is_in_range applied t (range_literal (v4 (0, 0, 0, 0) (Some 0)) ∷ []))
      (v4 (0, 0, 0, 0) (Some 0) ∷ v4 (255, 255, 255, 255) None ∷ v6 0 None ∷ []) ≡ map BoolValue (true ∷ true ∷ false ∷ [])
  pub none : at_ranges (λ t. is_in_range applied t []) (v4 (10, 1, 2, 3) None ∷ []) ≡ map BoolValue (false ∷ [])
  pub loopback :
      at_ranges (is_loopback applied) (v4 (127, 0, 0, 1) None ∷ v4 (126, 0, 0, 0) (Some 7) ∷ v6 1 None ∷ v6 2 None ∷ [])
      ≡ map BoolValue (true ∷ false ∷ true ∷ false ∷ [])
  pub multicast :
      at_ranges (is_multicast applied)
      (v4 (224, 0, 0, 1) None ∷ v4 (223, 255, 255, 255) None ∷ v6 (0xff02 * 2 ^ 112 + 1) None ∷ v6 1 None ∷ [])
      ≡ map BoolValue (true ∷ false ∷ true ∷ false ∷ [])
  -- the same by the addresses of the ranges
  pub lies : LiesInOne (v4 (10, 1, 2, 3) None) blocks
  pub lies_outside : LiesInOne (v4 (11, 0, 0, 1) None) blocks → ⊥
  pub other_family : LiesInOne (v6 (address_v4 (10, 1, 2, 3)) None) blocks → ⊥
  -- a variable has the range that it is given, and literals have theirs
  pub of_variable : (r : Range) → IsRange r → HasRange (given (plain_range r)) source r
  pub of_literals : (I : Interpretation) → AllZip (HasRange I) (map range_literal blocks) blocks
  pub interpreted : IsInterpretation [] (is_in_range applied source (map range_literal blocks) ∷ []) in_ten
  -- so the term tells whether 10.1.2.3 lies in one of the blocks
  pub told : Tells in_ten (is_in_range applied source (map range_literal blocks)) (LiesInOne (v4 (10, 1, 2, 3) None) blocks)

-- ---- rules

-- 11.0.0.0/8 and 10.0.0.0/8
abbrev pub two_blocks : List PlainTerm
two_blocks = map range_literal (v4 (11, 0, 0, 0) (Some 8) ∷ v4 (10, 0, 0, 0) (Some 8) ∷ [])

-- the lowest and the highest address of a literal of version 4
abbrev pub block_of : Range → (PlainTerm × PlainTerm)
block_of r = range_v4 applied (range_literal r)

-- bounds that are the same for every term
abbrev pub fixed : (lowest highest : PlainTerm) → PlainTerm → (PlainTerm × PlainTerm)
fixed l h t = (l, h)

-- What the rules of the two families give at the variable, which bounds and blocks they have, and which other tests and bounds are
-- rules and which are not.
pub record RuleExamples : Type 0 where
  pub by_v4 :
      at_ranges (λ t. in_range_v applied (is_ipv4 applied) (range_v4 applied) t two_blocks)
      (v4 (10, 1, 2, 3) None ∷ v4 (11, 0, 0, 1) None ∷ v4 (12, 0, 0, 1) None ∷ v6 1 None ∷ [])
      ≡ map BoolValue (true ∷ true ∷ false ∷ false ∷ [])
  pub by_v6 :
      at_ranges (λ t. in_range_v applied (is_ipv6 applied) (range_v6 applied) t (map range_literal blocks))
      (v6 1 None ∷ v6 2 None ∷ v4 (10, 1, 2, 3) None ∷ []) ≡ map BoolValue (true ∷ false ∷ false ∷ [])
  pub of_family : HoldsIn in_ten (is_ipv4 applied source)
  pub not_of_family : HoldsIn in_ten (is_ipv6 applied source) → ⊥
  pub bounds :
      map (λ t. number_in (given (plain_range (v4 (10, 1, 2, 3) (Some 8)))) t)
      ((range_v4 applied source).0 ∷ (range_v4 applied source).1 ∷ []) ≡ address_v4 (10, 0, 0, 0) ∷ address_v4 (10, 255, 255, 255) ∷ []
  -- a narrower block lies in a wider one, which does not lie in it
  pub narrower : BlockLiesIn in_ten (block_of (v4 (10, 1, 0, 0) (Some 16))) (block_of (v4 (10, 0, 0, 0) (Some 8)))
  pub wider : BlockLiesIn in_ten (block_of (v4 (10, 0, 0, 0) (Some 8))) (block_of (v4 (10, 1, 0, 0) (Some 16))) → ⊥
  -- the second block of the two contains the variable's, the first does not
  pub in_second : LiesInOneOfFamily in_ten (is_ipv4 applied) (range_v4 applied) source two_blocks
  pub not_in_first : LiesInOneOfFamily in_ten (is_ipv4 applied) (range_v4 applied) source (range_literal (v4 (11, 0, 0, 0) (Some 8)) ∷ []) →
      ⊥
  -- What is built of the variable and the two blocks tells whether it lies in one. The literal true does not, nor does false.
  pub built_tells :
      RuleTells (is_ipv4 applied) (range_v4 applied) source two_blocks
      (in_range_v applied (is_ipv4 applied) (range_v4 applied) source two_blocks)
  pub true_tells_not : RuleTells (is_ipv4 applied) (range_v4 applied) source two_blocks true_term → ⊥
  pub false_tells_not : RuleTells (is_ipv4 applied) (range_v4 applied) source two_blocks false_term → ⊥
  -- A rule may give every range one block. Its lowest address is at most its highest, unless the test is false.
  pub one_block : IsRangeRule (λ t. true_term) (fixed (bits_literal 8 3) (bits_literal 8 5))
  pub upside_down : IsRangeRule (λ t. true_term) (fixed (bits_literal 8 5) (bits_literal 8 3)) → ⊥
  pub never_tested : IsRangeRule (λ t. false_term) (fixed (bits_literal 8 5) (bits_literal 8 3))
  pub two_widths : IsRangeRule (λ t. true_term) (fixed (bits_literal 8 3) (bits_literal 16 5)) → ⊥

-- ---- datetimes

-- what a function of the variable answers where the variable is each of these datetimes
abbrev pub at_moments : (PlainTerm → PlainTerm) → List ℤ → List Value
at_moments f zs = map (λ z. term_value (given (DatetimeOf z)) (f moment)) zs

-- the option that holds a datetime
abbrev pub some_datetime : ℤ → Value
some_datetime z = SomeValue (ExtensionValue (DatetimeOf z))

-- the option that holds a duration
abbrev pub some_duration : ℤ → Value
some_duration z = SomeValue (ExtensionValue (DurationOf z))

-- 2024-02-29T00:00:00Z, in milliseconds since 1970-01-01T00:00:00Z
abbrev pub leap_day : ℤ
leap_day = pos 1709164800000

-- the millisecond before 2024-02-29T00:00:00Z
abbrev pub before_leap_day : ℤ
before_leap_day = pos 1709164799999

-- What the functions on datetimes are at the variable, for several datetimes that it may have; that variables and literals have
-- their datetimes and durations; and one case in which the term is shown to have the last midnight.
pub record TimeExamples : Type 0 where
  -- a second later, over midnight at the leap day and at 1970
  pub later :
      at_moments (λ t. offset applied t (duration (pos 1000))) (before_leap_day ∷ negsuc 0 ∷ greatest ∷ [])
      ≡ some_datetime (pos 1709164800999) ∷ some_datetime (pos 999) ∷ NoneValue ∷ []
  pub since :
      at_moments (λ t. duration_since applied t (datetime leap_day)) (before_leap_day ∷ pos 1709251200000 ∷ least ∷ [])
      ≡ some_duration (negsuc 0) ∷ some_duration (pos 86400000) ∷ NoneValue ∷ []
  -- a moment before 1970 has the midnight before it
  pub dates :
      at_moments (to_date applied) (leap_day ∷ before_leap_day ∷ negsuc 0 ∷ least ∷ [])
      ≡ some_datetime leap_day ∷ some_datetime (pos 1709078400000) ∷ some_datetime (negsuc 86399999) ∷ NoneValue ∷ []
  pub times :
      at_moments (to_time applied) (leap_day ∷ before_leap_day ∷ negsuc 0 ∷ [])
      ≡ map (λ z. ExtensionValue (DurationOf z)) (pos 0 ∷ pos 86399999 ∷ pos 86399999 ∷ [])
  -- a variable has the datetime that it is given
  pub of_variable : (z : ℤ) → IsLong z → HasDatetime (given (DatetimeOf z)) moment z
  -- a variable has the duration that it is given, and a literal has its own
  pub duration_of_variable : (z : ℤ) → IsLong z → HasDuration (given (DurationOf z)) delay z
  pub duration_of_literal : (I : Interpretation) (z : ℤ) → IsLong z → HasDuration I (duration z) z
  pub interpreted : (z : ℤ) → IsLong z → IsInterpretation [] (to_date applied moment ∷ to_time applied moment ∷ []) (given (DatetimeOf z))
  pub told : IsSomeIn (given (DatetimeOf (negsuc 0))) (to_date applied moment) (negsuc 86399999) DatetimeOf
