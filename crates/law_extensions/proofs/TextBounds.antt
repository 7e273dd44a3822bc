-- The values of texts are in bounds: numbers in 64 bits with sign, addresses and prefixes in the bits of their family.
use Rattle.std.proofs.Common.{◌≡◌, ℕ, ◌+◌, ◌-◌, ◌*◌, ◌^◌, ◌<◌, ◌≤◌, zero, suc, Bool, true, false, cond, eqb, Option, Some, None, List, [], ◌∷◌, ◌++◌, length, get_or, replicate, refl, sym, subst, arith, inl, inr, lit≤, ℤ}
use Rattle.std.specs.Prelude.{IfSome}
use Rattle.std.specs.List.{AllByRecursion}
use Rattle.std.specs.Str.Parse.{digits_value}
use Rattle.std.proofs.Math.Nat.{pow-le-pow_right}
use Rattle.std.proofs.NetLemmas.Arrays.{eight_items}
use Rattle.std.proofs.lemmas.Bool.{eqb-false}
use Rattle.std.proofs.lemmas.Int.Digits.{digits_value-lt}
use Rattle.law_numbers.specs.Longs.{IsLong}
use Rattle.smt_ext.specs.IpRanges.{Family, Version4, Version6, Range, address_bits, prefix_of}
use Rattle.smt_ext.specs.IpText.{AreGroupsBehind, IsColonText, IsDotted, IsGroup, WritesAddress, WritesPrefix, WritesRange, joined_groups}
use Rattle.law_extensions.specs.DatetimeTexts.{datetime_in}
use Rattle.law_extensions.specs.DecimalTexts.{decimal_in}
use Rattle.law_extensions.specs.DurationTexts.{duration_in}
use Rattle.law_extensions.specs.RangeTexts.{range_in}
use Rattle.law_extensions.proofs.DatetimeTexts.{datetimes_are_read}
use Rattle.law_extensions.proofs.DecimalTexts.{decimals_are_read}
use Rattle.law_extensions.proofs.DurationTexts.{durations_are_read}
use Rattle.law_extensions.proofs.RangeTexts.{ranges_are_read}

-- ---- numbers

pub decimal_fits : (text : List ℕ) (value : ℤ) → decimal_in text ≡ Some value → IsLong value
decimal_fits text value e = ((decimals_are_read text value).0 e).fits

pub datetime_fits : (text : List ℕ) (value : ℤ) → datetime_in text ≡ Some value → IsLong value
datetime_fits text value e = ((datetimes_are_read text value).0 e).fits

pub duration_fits : (text : List ℕ) (value : ℤ) → duration_in text ≡ Some value → IsLong value
duration_fits text value e = ((durations_are_read text value).0 e).fits

-- ---- addresses of IPv4

four_below : (a b c d : ℕ) → a < 256 → b < 256 → c < 256 → d < 256 → ((a * 256 + b) * 256 + c) * 256 + d < 2 ^ 32
four_below a b c d ha hb hc hd = omega arith

dotted_below : (text : List ℕ) (n : ℕ) → IsDotted text n → n < 2 ^ 32
dotted_below text n h =
    subst (λ (m : ℕ). m < 2 ^ 32) (sym h.address_is) (four_below h.a h.b h.c h.d h.small.0 h.small.1 h.small.2 h.small.3)

-- ---- addresses of IPv6

-- each number is one of 16 bits
abbrev AreGroupNumbers : List ℕ → Type 0
AreGroupNumbers numbers = AllByRecursion (λ n. n < 65536) numbers

group_below : (text : List ℕ) (n : ℕ) → IsGroup text n → n < 65536
group_below text n h =
    let below : digits_value 16 text < 16 ^ length text = digits_value-lt 16 text h.0.0.1 in
    let most : 16 ^ length text ≤ 65536 = pow-le-pow_right {n = 16} (lit≤ tt) h.1 in
    let e : digits_value 16 text ≡ n = h.0.1 in
    omega arith

groups_below : (lead text numbers : List ℕ) → AreGroupsBehind lead text numbers → AreGroupNumbers numbers
groups_below lead text [] h = tt
groups_below lead text (n ∷ numbers) (group, rest, e, g, more) = (group_below group n g, groups_below (58 ∷ []) rest numbers more)

zeros_below : (k : ℕ) → AreGroupNumbers (replicate k 0)
zeros_below zero = tt
zeros_below (suc k) = (lit≤ tt, zeros_below k)

both_below : (front back : List ℕ) → AreGroupNumbers front → AreGroupNumbers back → AreGroupNumbers (front ++ back)
both_below [] back h k = k
both_below (n ∷ front) back h k = (h.0, both_below front back h.1 k)

each_below : (numbers : List ℕ) → AreGroupNumbers numbers → (i : ℕ) → get_or numbers i 0 < 65536
each_below [] h zero = lit≤ tt
each_below [] h (suc i) = lit≤ tt
each_below (n ∷ numbers) h zero = h.0
each_below (n ∷ numbers) h (suc i) = each_below numbers h.1 i

eight_below : (a b c d e f g h : ℕ) → a < 65536 → b < 65536 → c < 65536 → d < 65536 → e < 65536 → f < 65536 → g < 65536 → h < 65536 → joined_groups (a ∷ b ∷ c ∷ d ∷ e ∷ f ∷ g ∷ h ∷ []) < 2 ^ 128
eight_below a b c d e f g h ha hb hc hd he hf hg hh = omega arith

joined_below : (numbers : List ℕ) → length numbers ≡ 8 → AreGroupNumbers numbers → joined_groups numbers < 2 ^ 128
joined_below numbers eight all =
    let each = each_below numbers all in
    subst (λ (xs : List ℕ). joined_groups xs < 2 ^ 128) (sym (eight_items numbers eight)) (eight_below _ _ _ _ _ _ _ _ (each 0) (each 1) (each 2) (each 3) (each 4) (each 5) (each 6) (each 7))

colon_text_below : (text : List ℕ) (n : ℕ) → IsColonText text n → n < 2 ^ 128
colon_text_below text n h =
    let all : AreGroupNumbers h.numbers = elim h.groups [
      | inl groups ↦ groups_below [] text h.numbers groups
      | inr s ↦
          let front = groups_below [] s.front_text s.front s.front_groups in
          let back = groups_below [] s.back_text s.back s.back_groups in
          let zeros = 8 - length s.front - length s.back in
          subst (λ (xs : List ℕ). AreGroupNumbers xs) (sym s.numbers_are) (both_below (s.front ++ replicate zeros 0) s.back (both_below s.front (replicate zeros 0) front (zeros_below zeros)) back)
    ] in
    subst (λ (m : ℕ). m < 2 ^ 128) (sym h.address_is) (joined_below h.numbers h.eight all)

-- ---- ranges

address_below : (f : Family) (text : List ℕ) (n : ℕ) → WritesAddress f text n → n < 2 ^ address_bits f
address_below Version4 text n h = dotted_below text n h
address_below Version6 text n h = colon_text_below text n h

-- fewer bits than all
abbrev IsPrefixBelow : ℕ → Option ℕ → Type 0
IsPrefixBelow most prefix = IfSome prefix (λ bits. bits < most)

few_bits : (most n : ℕ) → n ≤ most → IsPrefixBelow most (prefix_of most n)
few_bits most n le = go (eqb n most) refl
  where
    go : (b : Bool) → eqb n most ≡ b → IsPrefixBelow most (cond b None (Some n))
    go true e = tt
    go false e = let other = eqb-false n most e in omega arith

prefix_below : (most : ℕ) (digits : Option (List ℕ)) (prefix : Option ℕ) → WritesPrefix most digits prefix → IsPrefixBelow most prefix
prefix_below most None prefix h = subst (IsPrefixBelow most) (sym h) tt
prefix_below most (Some ds) prefix (n, le, e, is) = subst (IsPrefixBelow most) (sym is) (few_bits most n le)

-- The address and the prefix are in the bits of the family.
pub record IsInBits (r : Range) : Type 0 where
  pub address : r.address < 2 ^ address_bits r.family
  pub prefix : IfSome r.prefix (λ bits. bits < address_bits r.family)

pub range_fits : (text : List ℕ) (r : Range) → range_in text ≡ Some r → IsInBits r
range_fits text r e =
    let w : WritesRange text r = (ranges_are_read text r).0 e in
    record { address = address_below r.family w.address_text r.address w.address; prefix = prefix_below (address_bits r.family) w.digits r.prefix w.prefix }
