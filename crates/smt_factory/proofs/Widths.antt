-- The types of prefixes and of what they count, and numbers that fit their bits.
use Rattle.std.proofs.Common.{◌≡◌, ℕ, ◌+◌, ◌-◌, ◌%◌, ◌^◌, ◌<◌, ◌≤◌, refl, ap, ◌∙◌, sym, subst, arith}
use Rattle.std.specs.Prelude.{IfSome, Some, None}
use Rattle.std.proofs.Math.Nat.{mod-eq_of_lt}
use Rattle.std.proofs.Math.Pow.{pow_mono}
use Rattle.law_extensions.proofs.FreeBits.{below_power}
use Rattle.law_folding.specs.Applications.{option_get_of, type_inside}
use Rattle.law_folding.specs.FoldExtensions.{folded_extension}
use Rattle.law_folding.specs.FoldOptions.{folded_option_get}
use Rattle.law_terms.specs.Plain.{PlainType, BitVecType, OptionType, IpPrefixV4Op, IpPrefixV6Op, Ipv4Of, Ipv6Of, ExtensionLiteral, PlainTerm, LiteralTerm, SomeTerm}
use Rattle.law_terms.specs.Types.{inner_type, type_of, width_in}

pub prefix_type_v4 : (t : PlainTerm) → type_of (folded_extension IpPrefixV4Op t) ≡ OptionType (BitVecType 5)
prefix_type_v4 (LiteralTerm (ExtensionLiteral (Ipv4Of a None))) = refl
prefix_type_v4 (LiteralTerm (ExtensionLiteral (Ipv4Of a (Some p)))) = refl
prefix_type_v4 (LiteralTerm (ExtensionLiteral x)) = refl
prefix_type_v4 t = refl

pub prefix_type_v6 : (t : PlainTerm) → type_of (folded_extension IpPrefixV6Op t) ≡ OptionType (BitVecType 7)
prefix_type_v6 (LiteralTerm (ExtensionLiteral (Ipv6Of a None))) = refl
prefix_type_v6 (LiteralTerm (ExtensionLiteral (Ipv6Of a (Some p)))) = refl
prefix_type_v6 (LiteralTerm (ExtensionLiteral x)) = refl
prefix_type_v6 t = refl

-- what an option of bits holds has that type
inside : (ty : PlainType) (w : ℕ) → ty ≡ OptionType (BitVecType w) → type_inside ty ≡ BitVecType w
inside ty w e = ap type_inside e

known : (t : PlainTerm) (w : ℕ) → type_of t ≡ OptionType (BitVecType w) → (elim (inner_type (type_of t)) [ Some ty ↦ option_get_of t | None ↦ t ]) ≡ option_get_of t
known t w e = ap (λ (ty : PlainType). elim (inner_type ty) as (λ _. PlainTerm) [ Some x ↦ option_get_of t | None ↦ t ]) e

counted_type : (t : PlainTerm) (w : ℕ) → type_of t ≡ OptionType (BitVecType w) → type_of (folded_option_get t) ≡ BitVecType w
counted_type (SomeTerm t) w e = cc
counted_type t w e = ap type_of (known t w e) ∙ inside (type_of t) w e

-- and it has at most 128 bits at the width of the addresses
at_most_128 : (w : ℕ) → w ≤ 7 → w + (2 ^ w - w) ≤ 128
at_most_128 w l = let h : 2 ^ w ≤ 2 ^ 7 = pow_mono l in omega (arith, h, l)

pub counted_fits : (t : PlainTerm) (w : ℕ) → type_of t ≡ OptionType (BitVecType w) → w ≤ 7 → IfSome (width_in (type_of (folded_option_get t))) (λ x. x + (2 ^ w - w) ≤ 128)
counted_fits t w e l = subst (λ (ty : PlainType). IfSome (width_in ty) (λ x. x + (2 ^ w - w) ≤ 128)) (sym (counted_type t w e)) (at_most_128 w l)

-- ---- numbers that fit their bits

pub power_fits : (w : ℕ) → w ≤ 7 → 2 ^ w ≤ 128
power_fits w l = let h : 2 ^ w ≤ 2 ^ 7 = pow_mono l in omega (arith, h)

pub own_below : (n : ℕ) → n < 2 ^ n
own_below = below_power

pub none_below : (n : ℕ) → 0 < 2 ^ n
none_below n = let h : n < 2 ^ n = below_power n in omega (arith, h)

pub one_below : (n : ℕ) → 1 ≤ n → 1 < 2 ^ n
one_below n l = let h : n < 2 ^ n = below_power n in omega (arith, h)

pub is_itself : (a n : ℕ) → a < 2 ^ n → a % 2 ^ n ≡ a
is_itself a n l = mod-eq_of_lt l

pub own_at_most : (w : ℕ) → w ≤ 2 ^ w
own_at_most w = let h : w < 2 ^ w = below_power w in omega (arith, h)

pub ruleset fitting = (is_itself)

pub ruleset widths = (prefix_type_v4, prefix_type_v6, counted_fits, power_fits, own_below, none_below, one_below, own_at_most)
