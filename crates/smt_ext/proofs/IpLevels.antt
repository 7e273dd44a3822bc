-- The orders of addresses, prefixes and ranges hold nothing level but equal values.
use Rattle.std.proofs.Common.{◌≡◌, Some, None, refl, sym, ap, ◌∙◌, rules}
use Rattle.std.specs.FinMap.{IsAntisymmetric, nat_cmp-IsAntisymmetric}
use Rattle.smt_bits.proofs.Levels.{then_level, level_bits}
use Rattle.smt_bits.specs.BitVec.{number_of}
use Rattle.smt_ext.specs.contracts.address.IPv4AddrOrd.TheImpl as v4_address_order
use Rattle.smt_ext.specs.contracts.address.IPv6AddrOrd.TheImpl as v6_address_order
use Rattle.smt_ext.specs.contracts.net.CIDRv4Ord.TheImpl as v4_range_order
use Rattle.smt_ext.specs.contracts.net.CIDRv6Ord.TheImpl as v6_range_order
use Rattle.smt_ext.specs.contracts.net.IPNetOrd.TheImpl as range_order
use Rattle.smt_ext.specs.contracts.prefix.IPv4PrefixOrd.TheImpl as v4_prefix_order
use Rattle.smt_ext.specs.contracts.prefix.IPv6PrefixOrd.TheImpl as v6_prefix_order
use Rattle.smt_ext.specs.declared.net.IPNet.TheVariants.{V4, V6}
use Rattle.smt_ext.specs.declared.prefix.IPv4Prefix.{IPv4Prefix}
use Rattle.smt_ext.specs.declared.prefix.IPv6Prefix.{IPv6Prefix}
use Rattle.smt_ext.specs.IpOrder.{prefix_cmp}
use Rattle.smt_ext.specs.IpView.{v4_prefix, v6_prefix}
use Rattle.smt_ext.proofs.IpSame.{same_v4_addr, same_v6_addr, same_v4_prefix, same_v6_prefix}

level_prefixes : IsAntisymmetric prefix_cmp
level_prefixes (Some a) (Some b) h = ap Some (nat_cmp-IsAntisymmetric a b h)
level_prefixes (Some a) None h = cc
level_prefixes None (Some b) h = cc
level_prefixes None None h = refl

pub level_v4_addresses : IsAntisymmetric v4_address_order.ghosts.cmp
level_v4_addresses a b h = same_v4_addr a b (ap number_of (level_bits a.bits b.bits h))

pub level_v6_addresses : IsAntisymmetric v6_address_order.ghosts.cmp
level_v6_addresses a b h = same_v6_addr a b (ap number_of (level_bits a.bits b.bits h))

v4_prefix_cmp-is : (p q : IPv4Prefix) → v4_prefix_order.ghosts.cmp p q ≡ prefix_cmp (v4_prefix p) (v4_prefix q)
v4_prefix_cmp-is p q = search rules

v6_prefix_cmp-is : (p q : IPv6Prefix) → v6_prefix_order.ghosts.cmp p q ≡ prefix_cmp (v6_prefix p) (v6_prefix q)
v6_prefix_cmp-is p q = search rules

pub level_v4_prefixes : IsAntisymmetric v4_prefix_order.ghosts.cmp
level_v4_prefixes p q h = same_v4_prefix p q (level_prefixes (v4_prefix p) (v4_prefix q) (sym (v4_prefix_cmp-is p q) ∙ h))

pub level_v6_prefixes : IsAntisymmetric v6_prefix_order.ghosts.cmp
level_v6_prefixes p q h = same_v6_prefix p q (level_prefixes (v6_prefix p) (v6_prefix q) (sym (v6_prefix_cmp-is p q) ∙ h))

pub level_v4_ranges : IsAntisymmetric v4_range_order.ghosts.cmp
level_v4_ranges a b h =
    let k = then_level (v4_address_order.ghosts.cmp a.addr b.addr) (v4_prefix_order.ghosts.cmp a.prefix b.prefix) h in
    let addr = level_v4_addresses a.addr b.addr k.0 in
    let prefix = level_v4_prefixes a.prefix b.prefix k.1 in
    λ i. record { addr = addr i; prefix = prefix i }

pub level_v6_ranges : IsAntisymmetric v6_range_order.ghosts.cmp
level_v6_ranges a b h =
    let k = then_level (v6_address_order.ghosts.cmp a.addr b.addr) (v6_prefix_order.ghosts.cmp a.prefix b.prefix) h in
    let addr = level_v6_addresses a.addr b.addr k.0 in
    let prefix = level_v6_prefixes a.prefix b.prefix k.1 in
    λ i. record { addr = addr i; prefix = prefix i }

pub level_ranges : IsAntisymmetric range_order.ghosts.cmp
level_ranges (V4 a) (V4 b) h = ap V4 (level_v4_ranges a b h)
level_ranges (V4 a) (V6 b) h = cc
level_ranges (V6 a) (V4 b) h = cc
level_ranges (V6 a) (V6 b) h = ap V6 (level_v6_ranges a b h)
