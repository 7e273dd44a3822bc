-- The order of IP ranges.
use Rattle.std.specs.declared.cmp.Ordering.{Ordering}
use Rattle.law_numbers.specs.Extensions.{PlainExtension, Ipv4Of, Ipv6Of, extension_literal_cmp}
pub use Rattle.law_numbers.specs.Extensions.{prefix_cmp}
use Rattle.smt_ext.specs.IpRanges.{Version4, Version6, Range}

-- the range as a value of extension types
abbrev pub plain_range : Range → PlainExtension
plain_range r = elim r.family [ Version4 ↦ Ipv4Of r.address r.prefix | Version6 ↦ Ipv6Of r.address r.prefix ]

-- IPv4 before IPv6, then by address, then by prefix, no prefix last; literals of terms have this order too
abbrev pub range_cmp : Range → Range → Ordering
range_cmp r t = extension_literal_cmp (plain_range r) (plain_range t)
