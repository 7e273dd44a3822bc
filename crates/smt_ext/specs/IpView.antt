-- What contracts see of addresses, prefixes and ranges.
use Rattle.std.specs.Prelude.{◌≡◌, ℕ, Option, option_map, List}
use Rattle.std.specs.Rc.{rc_str_bytes}
use Rattle.smt_bits.specs.declared.bitvec.BitVec.{BitVec}
use Rattle.smt_bits.specs.BitVec.{number_of}
use Rattle.smt_ext.specs.declared.address.IPv4Addr.{IPv4Addr}
use Rattle.smt_ext.specs.declared.address.IPv6Addr.{IPv6Addr}
use Rattle.smt_ext.specs.declared.prefix.IPv4Prefix.{IPv4Prefix}
use Rattle.smt_ext.specs.declared.prefix.IPv6Prefix.{IPv6Prefix}
use Rattle.smt_ext.specs.declared.net.CIDRv4.{CIDRv4}
use Rattle.smt_ext.specs.declared.net.CIDRv6.{CIDRv6}
use Rattle.smt_ext.specs.declared.net.IPNet.{IPNet}
use Rattle.smt_ext.specs.declared.net.IPNet.TheVariants.{V4, V6}
use Rattle.smt_ext.specs.declared.error.IPError.{IPError}
use Rattle.smt_ext.specs.declared.error.IPError.TheVariants.{ParseError, BitVecError, ExepectedOctet, Memory}
use Rattle.smt_ext.specs.IpPrefixBits.{given}
use Rattle.smt_ext.specs.IpRanges.{Family, Version4, Version6, Range}
use Rattle.smt_ext.specs.IpText.{WritesRange}

-- the bits of an IPv4 address, of width 32
abbrev pub v4_bits : IPv4Addr → BitVec
v4_bits a = a.bits

-- the bits of an IPv6 address, of width 128
abbrev pub v6_bits : IPv6Addr → BitVec
v6_bits a = a.bits

-- the bits of an IPv4 prefix, of width 5, where there is one
abbrev pub v4_prefix_bits : IPv4Prefix → Option BitVec
v4_prefix_bits p = given p.bits

-- the bits of an IPv6 prefix, of width 7, where there is one
abbrev pub v6_prefix_bits : IPv6Prefix → Option BitVec
v6_prefix_bits p = given p.bits

-- an IPv4 prefix as a number of bits
abbrev pub v4_prefix : IPv4Prefix → Option ℕ
v4_prefix p = option_map number_of (v4_prefix_bits p)

-- an IPv6 prefix as a number of bits
abbrev pub v6_prefix : IPv6Prefix → Option ℕ
v6_prefix p = option_map number_of (v6_prefix_bits p)

-- the range of an IPv4 address and its prefix
abbrev pub v4_range : CIDRv4 → Range
v4_range c = record { family = Version4; address = number_of (v4_bits c.addr); prefix = v4_prefix c.prefix }

-- the range of an IPv6 address and its prefix
abbrev pub v6_range : CIDRv6 → Range
v6_range c = record { family = Version6; address = number_of (v6_bits c.addr); prefix = v6_prefix c.prefix }

-- the range that a value stands for
abbrev pub range_of : IPNet → Range
range_of (V4 c) = v4_range c
range_of (V6 c) = v6_range c

-- the family of the range that a value stands for
abbrev pub family_of : IPNet → Family
family_of net = (range_of net).family

-- the text writes no range
abbrev pub IsNoRange : List ℕ → Type 0
IsNoRange text = (r : Range) → WritesRange text r → ⊥

-- The error holds the text, which writes no range; or there was no memory to hold it.
abbrev pub RefusesText : List ℕ → IPError → Type 0
RefusesText text (ParseError payload) = (rc_str_bytes payload ≡ text) × IsNoRange text
RefusesText text (BitVecError e) = ⊥
RefusesText text ExepectedOctet = ⊥
RefusesText text Memory = IsNoRange text
