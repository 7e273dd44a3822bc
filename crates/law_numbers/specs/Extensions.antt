-- The values of extension types as numbers, and their order: that of the program's values, in literals of terms too.
use Rattle.std.specs.Prelude.{ℕ, ℤ, Option, Some, None}
use Rattle.std.specs.Ordering.{nat_cmp, int_cmp, ordering_then}
use Rattle.std.specs.declared.cmp.Ordering.{Ordering}
use Rattle.std.specs.declared.cmp.Ordering.TheVariants.{Less, Equal, Greater}

-- decimals, datetimes and durations are signed numbers of 64 bits; an absent prefix is the whole address
pub data PlainExtension : Type 0 where
  DecimalOf : ℤ → PlainExtension
  Ipv4Of : (address : ℕ) → (prefix : Option ℕ) → PlainExtension
  Ipv6Of : (address : ℕ) → (prefix : Option ℕ) → PlainExtension
  DatetimeOf : ℤ → PlainExtension
  DurationOf : ℤ → PlainExtension

-- prefixes by their number of bits, and no prefix last
abbrev pub prefix_cmp : Option ℕ → Option ℕ → Ordering
prefix_cmp (Some p) (Some q) = nat_cmp p q
prefix_cmp (Some p) None = Less
prefix_cmp None (Some q) = Greater
prefix_cmp None None = Equal

-- the place of a kind of values: IP ranges stand behind decimals, those of version 4 first
abbrev pub extension_literal_place : PlainExtension → ℕ
extension_literal_place (DecimalOf z) = 0
extension_literal_place (Ipv4Of a p) = 1
extension_literal_place (Ipv6Of a p) = 2
extension_literal_place (DatetimeOf z) = 3
extension_literal_place (DurationOf z) = 4

-- by the kind, and inside a kind by the number, or by the address and then the prefix
abbrev pub extension_literal_cmp : PlainExtension → PlainExtension → Ordering
extension_literal_cmp (DecimalOf x) (DecimalOf y) = int_cmp x y
extension_literal_cmp (Ipv4Of a p) (Ipv4Of b q) = ordering_then (nat_cmp a b) (prefix_cmp p q)
extension_literal_cmp (Ipv6Of a p) (Ipv6Of b q) = ordering_then (nat_cmp a b) (prefix_cmp p q)
extension_literal_cmp (DatetimeOf x) (DatetimeOf y) = int_cmp x y
extension_literal_cmp (DurationOf x) (DurationOf y) = int_cmp x y
extension_literal_cmp x y = nat_cmp (extension_literal_place x) (extension_literal_place y)
