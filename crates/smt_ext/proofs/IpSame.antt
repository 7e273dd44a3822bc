-- Values that stand for one range are one value.
use Rattle.std.proofs.Common.{◌≡◌, ℕ, true, Some, refl, ap, sym, ◌∙◌, eqb-true}
use Rattle.std.specs.Prelude.{option_map}
use Rattle.std.proofs.Math.Nat.{ℕ_set}
use Rattle.std.proofs.Math.Bool.{Bool-set}
use mathlib.Core.HLevel.{is_prop→PathP}
use Rattle.smt_bits.specs.BitVec.{width_of, number_of}
use Rattle.smt_bits.proofs.SameValue.{same_bits}
use Rattle.smt_ext.specs.declared.address.IPv4Addr.{IPv4Addr}
use Rattle.smt_ext.specs.declared.address.IPv6Addr.{IPv6Addr}
use Rattle.smt_ext.specs.declared.prefix.PrefixBits.{PrefixBits}
use Rattle.smt_ext.specs.declared.prefix.PrefixBits.TheVariants.{Given, Absent}
use Rattle.smt_ext.specs.declared.prefix.IPv4Prefix.{IPv4Prefix}
use Rattle.smt_ext.specs.declared.prefix.IPv6Prefix.{IPv6Prefix}
use Rattle.smt_ext.specs.declared.net.CIDRv4.{CIDRv4}
use Rattle.smt_ext.specs.declared.net.CIDRv6.{CIDRv6}
use Rattle.smt_ext.specs.declared.net.IPNet.{IPNet}
use Rattle.smt_ext.specs.declared.net.IPNet.TheVariants.{V4, V6}
use Rattle.smt_ext.specs.IpPrefixBits.{given, has_width}
use Rattle.smt_ext.specs.IpRanges.{Version4, Version6, Range}
use Rattle.smt_ext.specs.IpView.{v4_bits, v6_bits, v4_prefix, v6_prefix, v4_range, v6_range, range_of}

pub same_v4_addr : (a b : IPv4Addr) → number_of (v4_bits a) ≡ number_of (v4_bits b) → a ≡ b
same_v4_addr a b e =
    let p = same_bits a.bits b.bits (a.width ∙ sym b.width) e in
    λ i. record {
      bits = p i;
      width = is_prop→PathP (λ j. width_of (p j) ≡ 32) (λ j. ℕ_set _ _) a.width b.width i;
    }

pub same_v6_addr : (a b : IPv6Addr) → number_of (v6_bits a) ≡ number_of (v6_bits b) → a ≡ b
same_v6_addr a b e =
    let p = same_bits a.bits b.bits (a.width ∙ sym b.width) e in
    λ i. record {
      bits = p i;
      width = is_prop→PathP (λ j. width_of (p j) ≡ 128) (λ j. ℕ_set _ _) a.width b.width i;
    }

same_inner : (m n : ℕ) → Some m ≡ Some n → m ≡ n
same_inner m n e = cc

same_prefix_bits : (n : ℕ) (p q : PrefixBits) → has_width n p ≡ true → has_width n q ≡ true → option_map number_of (given p) ≡ option_map number_of (given q) → p ≡ q
same_prefix_bits n (Given a) (Given b) h k e = ap Given (same_bits a b (eqb-true (width_of a) n h ∙ sym (eqb-true (width_of b) n k)) (same_inner _ _ e))
same_prefix_bits n (Given a) Absent h k e = absurd cc
same_prefix_bits n Absent (Given b) h k e = absurd cc
same_prefix_bits n Absent Absent h k e = refl

pub same_v4_prefix : (p q : IPv4Prefix) → v4_prefix p ≡ v4_prefix q → p ≡ q
same_v4_prefix p q e =
    let s = same_prefix_bits 5 p.bits q.bits p.width q.width e in
    λ i. record {
      bits = s i;
      width = is_prop→PathP (λ j. has_width 5 (s j) ≡ true) (λ j. Bool-set _ _) p.width q.width i;
    }

pub same_v6_prefix : (p q : IPv6Prefix) → v6_prefix p ≡ v6_prefix q → p ≡ q
same_v6_prefix p q e =
    let s = same_prefix_bits 7 p.bits q.bits p.width q.width e in
    λ i. record {
      bits = s i;
      width = is_prop→PathP (λ j. has_width 7 (s j) ≡ true) (λ j. Bool-set _ _) p.width q.width i;
    }

pub same_v4_range : (a b : CIDRv4) → v4_range a ≡ v4_range b → a ≡ b
same_v4_range a b e =
    let p = same_v4_addr a.addr b.addr (ap (λ (r : Range). r.address) e) in
    let q = same_v4_prefix a.prefix b.prefix (ap (λ (r : Range). r.prefix) e) in
    λ i. record { addr = p i; prefix = q i }

pub same_v6_range : (a b : CIDRv6) → v6_range a ≡ v6_range b → a ≡ b
same_v6_range a b e =
    let p = same_v6_addr a.addr b.addr (ap (λ (r : Range). r.address) e) in
    let q = same_v6_prefix a.prefix b.prefix (ap (λ (r : Range). r.prefix) e) in
    λ i. record { addr = p i; prefix = q i }

families_differ : {A : Type 0} → Version4 ≡ Version6 → A
families_differ e = cc

pub same_net : (a b : IPNet) → range_of a ≡ range_of b → a ≡ b
same_net (V4 a) (V4 b) e = ap V4 (same_v4_range a b e)
same_net (V4 a) (V6 b) e = families_differ (ap (λ (r : Range). r.family) e)
same_net (V6 a) (V4 b) e = families_differ (sym (ap (λ (r : Range). r.family) e))
same_net (V6 a) (V6 b) e = ap V6 (same_v6_range a b e)
