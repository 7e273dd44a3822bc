-- Worked examples of the functions on values of the extension types, as they are folded.
use Rattle.std.specs.Prelude.{◌≡◌, ℕ, ◌-◌, ◌*◌, ◌+◌, ◌^◌, ℤ, pos, negsuc, true, false, List, [], ◌∷◌, map, codes, Option, Some, None}
use Rattle.law_extensions.specs.ExtensionFunctions.{duration_since, greater_than, greater_than_or_equal, is_in_range, is_ipv4, is_ipv6}
use Rattle.law_extensions.specs.ExtensionFunctions.{is_loopback, is_multicast, less_than, less_than_or_equal, offset, range_v4, range_v6}
use Rattle.law_extensions.specs.ExtensionFunctions.{subnet_width, to_date, to_days, to_hours, to_milliseconds, to_minutes, to_seconds}
use Rattle.law_extensions.specs.ExtensionFunctions.{to_time}
use Rattle.law_extensions.specs.Literals.{datetime, decimal, duration, ipv4, ipv6, no_datetime, no_duration}
use Rattle.law_folding.specs.Applications.{bits_literal, extension_of, test_of_two, truth_literal}
use Rattle.law_folding.specs.Builder.{applied, folding}
use Rattle.law_folding.specs.FoldExtensions.{prefix_literal, signed_literal}
use Rattle.law_numbers.specs.BitOperators.{BvsltOp}
use Rattle.law_terms.specs.Meaning.{term_value}
use Rattle.law_terms.specs.Plain.{DatetimeOf, DecimalKind, DecimalValOp, DurationOf, ExtensionType, PlainTerm, SomeTerm, TestOp}
use Rattle.law_terms.specs.Plain.{VariableTerm}
use Rattle.law_terms.specs.Tables.{Interpretation}
use Rattle.law_terms.specs.Values.{BitVecValue, BoolValue, ExtensionValue, NoneValue, SomeValue}
use Rattle.law_folding.specs.FoldRows.{truths}

-- a variable, of which nothing is known
abbrev pub d : PlainTerm
d = VariableTerm (codes "d") (ExtensionType DecimalKind)

-- 1.0 and 2.0, 2.0 and 1.0, 1.0 twice, and -1.0 and 1.0
abbrev pub pairs_of_decimals : List (PlainTerm × PlainTerm)
pairs_of_decimals =
    (decimal (pos 10000), decimal (pos 20000)) ∷ (decimal (pos 20000), decimal (pos 10000)) ∷ (decimal (pos 10000), decimal (pos 10000))
    ∷ (decimal (negsuc 9999), decimal (pos 10000)) ∷ []

-- what a function of two terms gives at each pair of a list
abbrev pub of_each : (PlainTerm → PlainTerm → PlainTerm) → List (PlainTerm × PlainTerm) → List PlainTerm
of_each f rows = map (λ r. f r.0 r.1) rows

-- What the comparisons give at the pairs of decimals, as they are folded and by the value of the application, and what stays an
-- application.
pub record DecimalRows : Type 0 where
  pub less : of_each (less_than folding) pairs_of_decimals ≡ truths (true ∷ false ∷ false ∷ true ∷ [])
  pub less_or_equal : of_each (less_than_or_equal folding) pairs_of_decimals ≡ truths (true ∷ false ∷ true ∷ true ∷ [])
  pub greater : of_each (greater_than folding) pairs_of_decimals ≡ truths (false ∷ true ∷ false ∷ false ∷ [])
  pub greater_or_equal : of_each (greater_than_or_equal folding) pairs_of_decimals ≡ truths (false ∷ true ∷ true ∷ false ∷ [])
  pub applied_values : (I : Interpretation) →
      map (term_value I) (of_each (less_than applied) pairs_of_decimals) ≡ map BoolValue (true ∷ false ∷ false ∷ true ∷ [])
  pub stays : less_than folding d (decimal (pos 10000)) ≡ test_of_two (TestOp BvsltOp) (extension_of DecimalValOp d) (bits_literal 64 10000)

-- an address of version 4 by its four numbers
abbrev pub address_v4 : (ℕ × ℕ × ℕ × ℕ) → ℕ
address_v4 (a, b, c, e) = a * 2 ^ 24 + b * 2 ^ 16 + c * 2 ^ 8 + e

-- the literal of an IP range of version 4, by the four numbers of its address and its prefix
abbrev pub v4 : (ℕ × ℕ × ℕ × ℕ) → Option ℕ → PlainTerm
v4 a p = ipv4 (address_v4 a) p

-- two addresses of version 4 as literals of 32 bits
abbrev pub addresses_v4 : (lowest highest : ℕ × ℕ × ℕ × ℕ) → (PlainTerm × PlainTerm)
addresses_v4 a b = (bits_literal 32 (address_v4 a), bits_literal 32 (address_v4 b))

-- 10.0.0.0/8
abbrev pub ten : PlainTerm
ten = v4 (10, 0, 0, 0) (Some 8)

-- 10.1.2.3, an address in 10.0.0.0/8
abbrev pub in_ten : PlainTerm
in_ten = v4 (10, 1, 2, 3) None

-- 0.0.0.0/0, the range of all addresses of version 4
abbrev pub all_v4 : PlainTerm
all_v4 = v4 (0, 0, 0, 0) (Some 0)

-- ::/0, the range of all addresses of version 6
abbrev pub all_v6 : PlainTerm
all_v6 = ipv6 0 (Some 0)

-- ff02::1
abbrev pub all_nodes : PlainTerm
all_nodes = ipv6 (0xff02 * 2 ^ 112 + 1) None

-- What the functions on IP ranges give at literals, as they are folded and by the values of the applications.
pub record IpRows : Type 0 where
  pub version4 : map (is_ipv4 folding) (in_ten ∷ ipv6 0 None ∷ []) ≡ truths (true ∷ false ∷ [])
  pub version6 : map (is_ipv6 folding) (in_ten ∷ ipv6 0 None ∷ []) ≡ truths (false ∷ true ∷ [])
  pub free_v4 :
      map (λ p. subnet_width folding 5 (prefix_literal 5 p)) (Some 8 ∷ Some 0 ∷ Some 31 ∷ None ∷ [])
      ≡ map (bits_literal 32) (24 ∷ 32 ∷ 1 ∷ 0 ∷ [])
  pub free_v6 :
      map (λ p. subnet_width folding 7 (prefix_literal 7 p)) (Some 64 ∷ Some 0 ∷ None ∷ []) ≡ map (bits_literal 128) (64 ∷ 128 ∷ 0 ∷ [])
  pub applied_free : (I : Interpretation) →
      map (λ p. term_value I (subnet_width applied 5 (prefix_literal 5 p))) (Some 8 ∷ Some 0 ∷ None ∷ [])
      ≡ map (BitVecValue 32) (24 ∷ 32 ∷ 0 ∷ [])
  -- the free bits of the address do not count
  pub lowest_and_highest : map (range_v4 folding) (ten ∷ v4 (10, 1, 2, 3) (Some 8) ∷ in_ten ∷ all_v4 ∷ [])
      ≡ addresses_v4 (10, 0, 0, 0) (10, 255, 255, 255) ∷ addresses_v4 (10, 0, 0, 0) (10, 255, 255, 255)
      ∷ addresses_v4 (10, 1, 2, 3) (10, 1, 2, 3) ∷ addresses_v4 (0, 0, 0, 0) (255, 255, 255, 255) ∷ []
  pub lowest_and_highest_v6 :
      map (range_v6 folding) (ipv6 5 (Some 126) ∷ all_v6 ∷ [])
      ≡ (bits_literal 128 4, bits_literal 128 7) ∷ (bits_literal 128 0, bits_literal 128 (2 ^ 128 - 1)) ∷ []
  pub applied_lowest : (I : Interpretation) →
      map (λ t. term_value I (range_v4 applied t).0) (ten ∷ all_v4 ∷ []) ≡ map (BitVecValue 32) (address_v4 (10, 0, 0, 0) ∷ 0 ∷ [])
  pub applied_highest : (I : Interpretation) →
      map (λ t. term_value I (range_v4 applied t).1) (ten ∷ all_v4 ∷ [])
      ≡ map (BitVecValue 32) (address_v4 (10, 255, 255, 255) ∷ (2 ^ 32 - 1) ∷ [])
  pub contained :
      map (λ ts. is_in_range folding in_ten ts)
      ((ten ∷ []) ∷ (in_ten ∷ []) ∷ (all_v4 ∷ []) ∷ (all_v6 ∷ []) ∷ [] ∷ (ipv6 1 None ∷ ten ∷ []) ∷ (v4 (11, 0, 0, 0) (Some 8) ∷ []) ∷ [])
      ≡ truths (true ∷ true ∷ true ∷ false ∷ false ∷ true ∷ false ∷ [])
  -- the range itself, a narrower one, a wider one, and one of the other family
  pub ranges_contained :
      map (λ t. is_in_range folding t (ten ∷ all_v6 ∷ [])) (ten ∷ v4 (10, 0, 0, 0) (Some 9) ∷ v4 (10, 0, 0, 0) (Some 7) ∷ ipv6 1 None ∷ [])
      ≡ truths (true ∷ true ∷ false ∷ true ∷ [])
  pub other_family : is_in_range folding (ipv6 (address_v4 (10, 1, 2, 3)) None) (ten ∷ []) ≡ truth_literal false
  pub applied_contained : (I : Interpretation) →
      map (λ t. term_value I (is_in_range applied t (ten ∷ []))) (in_ten ∷ ipv6 (address_v4 (10, 1, 2, 3)) None ∷ [])
      ≡ map BoolValue (true ∷ false ∷ [])
  pub loopback :
      map (is_loopback folding)
      (v4 (127, 0, 0, 1) None ∷ v4 (127, 0, 0, 0) (Some 8) ∷ v4 (128, 0, 0, 1) None ∷ ipv6 1 None ∷ ipv6 2 None ∷ [])
      ≡ truths (true ∷ true ∷ false ∷ true ∷ false ∷ [])
  pub multicast :
      map (is_multicast folding)
      (v4 (224, 0, 0, 1) None ∷ v4 (224, 0, 0, 0) (Some 4) ∷ v4 (223, 0, 0, 1) None ∷ all_nodes ∷ ipv6 1 None ∷ [])
      ≡ truths (true ∷ true ∷ false ∷ true ∷ false ∷ [])

-- the greatest number of 64 bits in two's complement
abbrev pub greatest : ℤ
greatest = pos (2 ^ 63 - 1)

-- the least number of 64 bits in two's complement
abbrev pub least : ℤ
least = negsuc (2 ^ 63 - 1)

-- What the functions on datetimes and durations give at literals, as they are folded and by the values of the applications.
pub record TimeRows : Type 0 where
  pub milliseconds :
      map (to_milliseconds folding) (duration (pos 5) ∷ duration (negsuc 1499) ∷ [])
      ≡ signed_literal (pos 5) ∷ signed_literal (negsuc 1499) ∷ []
  -- towards zero
  pub seconds :
      map (to_seconds folding) (duration (negsuc 1499) ∷ duration (pos 1999) ∷ duration (negsuc 998) ∷ [])
      ≡ signed_literal (negsuc 0) ∷ signed_literal (pos 1) ∷ signed_literal (pos 0) ∷ []
  pub minutes : to_minutes folding (duration (negsuc 119999)) ≡ signed_literal (negsuc 1)
  pub hours : to_hours folding (duration (negsuc 7199999)) ≡ signed_literal (negsuc 1)
  pub days :
      map (to_days folding) (duration (negsuc 86399999) ∷ duration least ∷ [])
      ≡ signed_literal (negsuc 0) ∷ signed_literal (negsuc 106751991166) ∷ []
  pub applied_seconds : (I : Interpretation) → term_value I (to_seconds applied (duration (negsuc 1499))) ≡ BitVecValue 64 (2 ^ 64 - 1)
  pub later : offset folding (datetime (pos 5)) (duration (negsuc 6)) ≡ SomeTerm (datetime (negsuc 1))
  pub too_late : offset folding (datetime greatest) (duration (pos 1)) ≡ no_datetime
  pub between : duration_since folding (datetime (pos 5)) (datetime (pos 7)) ≡ SomeTerm (duration (negsuc 1))
  pub too_far : duration_since folding (datetime least) (datetime (pos 1)) ≡ no_duration
  -- the last midnight of -1 millisecond is a day before 0
  pub dates :
      map (to_date folding) (datetime (negsuc 0) ∷ datetime (pos 86400001) ∷ datetime (pos 0) ∷ [])
      ≡ map (λ z. SomeTerm (datetime z)) (negsuc 86399999 ∷ pos 86400000 ∷ pos 0 ∷ [])
  pub no_date : to_date folding (datetime least) ≡ no_datetime
  pub times :
      map (to_time folding) (datetime (negsuc 0) ∷ datetime (pos 86400001) ∷ datetime (negsuc 86399999) ∷ [])
      ≡ map duration (pos 86399999 ∷ pos 1 ∷ pos 0 ∷ [])
  pub applied_values : (I : Interpretation) →
      map (term_value I) (to_date applied (datetime (negsuc 0)) ∷ to_date applied (datetime least) ∷ to_time applied (datetime (negsuc 0))
      ∷ offset applied (datetime greatest) (duration (pos 1)) ∷ [])
      ≡ SomeValue (ExtensionValue (DatetimeOf (negsuc 86399999))) ∷ NoneValue ∷ ExtensionValue (DurationOf (pos 86399999)) ∷ NoneValue ∷ []
