-- What is printed of a range writes that range.
use Rattle.std.proofs.Common.{◌≡◌, ℕ, ◌/◌, ◌%◌, ◌^◌, ◌<◌, true, Option, Some, None, [], ◌∷◌, decimal, refl, ap, arith, inl, eqb-true, eq-eqb, ne_eqb}
use Rattle.std.specs.Char.{digit_char, digit_value}
use Rattle.std.specs.Prelude.{unwrap_or, option_map}
use Rattle.std.proofs.lemmas.Bool.Decides.{nat_tests}
use Rattle.smt_bits.specs.BitVec.{width_of, number_of}
use Rattle.smt_ext.specs.declared.prefix.PrefixBits.{PrefixBits}
use Rattle.smt_ext.specs.declared.prefix.PrefixBits.TheVariants.{Given, Absent}
use Rattle.smt_ext.specs.declared.net.IPNet.{IPNet}
use Rattle.smt_ext.specs.declared.net.IPNet.TheVariants.{V4, V6}
use Rattle.smt_ext.specs.IpPrefixBits.{given, has_width}
use Rattle.smt_ext.specs.IpPrinted.{dotted_text, group_text, group_at, colon_text, address_text, range_text}
use Rattle.smt_ext.specs.IpRanges.{Family, Version4, Version6, Range, address_bits, prefix_bits}
use Rattle.smt_ext.specs.IpText.{IsDotted, IsGroup, IsColonText, WritesAddress, WritesPrefix, WritesRange}
use Rattle.smt_ext.specs.IpView.{range_of}
use Rattle.smt_ext.proofs.IpContained.{below}

dotted_is_read : (n : ℕ) → n < 2 ^ 32 → IsDotted (dotted_text n) n
dotted_is_read n small = record {
  a = n / 2 ^ 24 % 256;
  b = n / 2 ^ 16 % 256;
  c = n / 2 ^ 8 % 256;
  d = n / 2 ^ 0 % 256;
  small = omega arith;
  text_is = refl;
  address_is = omega arith;
}

digit_again : (d : ℕ) → d < 16 → digit_value (digit_char d) ≡ d
digit_again d h = grind (arith, nat_tests)

group_is_read : (n : ℕ) → n < 65536 → IsGroup (group_text n) n
group_is_read n small =
    let a = digit_again (n / 4096) (omega arith) in
    let b = digit_again (n / 256 % 16) (omega arith) in
    let c = digit_again (n / 16 % 16) (omega arith) in
    let d = digit_again (n % 16) (omega arith) in
    omega arith

colon_text_is_read : (n : ℕ) → n < 2 ^ 128 → IsColonText (colon_text n) n
colon_text_is_read n small =
    let group = λ (low : ℕ). group_is_read (group_at n low) (omega arith) in
    record {
      numbers = group_at n 112 ∷ group_at n 96 ∷ group_at n 80 ∷ group_at n 64 ∷ group_at n 48 ∷ group_at n 32 ∷ group_at n 16 ∷ group_at n 0 ∷ [];
      eight = refl;
      groups = inl (
        group_text (group_at n 112),
        _,
        refl,
        group 112,
        (
          group_text (group_at n 96),
          _,
          refl,
          group 96,
          (
            group_text (group_at n 80),
            _,
            refl,
            group 80,
            (
              group_text (group_at n 64),
              _,
              refl,
              group 64,
              (
                group_text (group_at n 48),
                _,
                refl,
                group 48,
                (
                  group_text (group_at n 32),
                  _,
                  refl,
                  group 32,
                  (
                    group_text (group_at n 16),
                    _,
                    refl,
                    group 16,
                    (group_text (group_at n 0), _, refl, group 0, refl),
                  ),
                ),
              ),
            ),
          ),
        ),
      );
      address_is = omega arith;
    }

address_is_read : (f : Family) (n : ℕ) → n < 2 ^ address_bits f → WritesAddress f (address_text f n) n
address_is_read Version4 n small = dotted_is_read n small
address_is_read Version6 n small = colon_text_is_read n small

-- a prefix of fewer bits than all
abbrev IsPrefix : ℕ → Option ℕ → Type 0
IsPrefix most None = Unit {0}
IsPrefix most (Some p) = p < most

prefix_is_read : (most : ℕ) (p : Option ℕ) → IsPrefix most p → WritesPrefix most (Some (decimal (unwrap_or p most))) p
prefix_is_read most None h = (most, omega arith, refl, rw (eq-eqb most most refl) refl)
prefix_is_read most (Some p) h = (p, omega arith, refl, rw (ne_eqb p most (omega arith)) refl)

range_is_read : (r : Range) → r.address < 2 ^ address_bits r.family → IsPrefix (address_bits r.family) r.prefix → WritesRange (range_text r) r
range_is_read r small p = record {
  address_text = address_text r.family r.address;
  digits = Some (decimal (prefix_bits r));
  text_is = refl;
  address = address_is_read r.family r.address small;
  prefix = prefix_is_read (address_bits r.family) r.prefix p;
}

few_bits : (width : ℕ) (p : PrefixBits) → has_width width p ≡ true → IsPrefix (2 ^ width) (option_map number_of (given p))
few_bits width (Given bits) h =
    let e : width_of bits ≡ width = eqb-true (width_of bits) width h in
    let below : number_of bits < 2 ^ width_of bits = bits.below_width in
    let same : 2 ^ width_of bits ≡ 2 ^ width = ap (λ x. 2 ^ x) e in
    omega arith
few_bits width Absent h = tt

pub net_is_read : (net : IPNet) → WritesRange (range_text (range_of net)) (range_of net)
net_is_read (V4 c) = range_is_read (range_of (V4 c)) (below c.addr.bits 32 c.addr.width) (few_bits 5 c.prefix.bits c.prefix.width)
net_is_read (V6 c) = range_is_read (range_of (V6 c)) (below c.addr.bits 128 c.addr.width) (few_bits 7 c.prefix.bits c.prefix.width)
