use Rattle.smt_ext.specs.contracts.address.IPv4AddrOrd.TheImpl as v4_address_order
use Rattle.smt_ext.specs.contracts.address.IPv4AddrOrd.TheImpl.Laws as v4_address_laws
use Rattle.smt_ext.specs.contracts.address.IPv6AddrOrd.TheImpl as v6_address_order
use Rattle.smt_ext.specs.contracts.address.IPv6AddrOrd.TheImpl.Laws as v6_address_laws
use Rattle.smt_ext.specs.contracts.prefix.IPv4PrefixOrd.TheImpl as v4_prefix_order
use Rattle.smt_ext.specs.contracts.prefix.IPv4PrefixOrd.TheImpl.Laws as v4_prefix_laws
use Rattle.smt_ext.specs.contracts.prefix.IPv6PrefixOrd.TheImpl as v6_prefix_order
use Rattle.smt_ext.specs.contracts.prefix.IPv6PrefixOrd.TheImpl.Laws as v6_prefix_laws
use Rattle.smt_ext.specs.contracts.net.CIDRv4Ord.TheImpl as v4_range_order
use Rattle.smt_ext.specs.contracts.net.CIDRv4Ord.TheImpl.Laws as v4_range_laws
use Rattle.smt_ext.specs.contracts.net.CIDRv6Ord.TheImpl as v6_range_order
use Rattle.smt_ext.specs.contracts.net.CIDRv6Ord.TheImpl.Laws as v6_range_laws
use Rattle.smt_ext.specs.contracts.net.IPNetOrd.TheImpl as range_order
use Rattle.smt_ext.specs.contracts.net.IPNetOrd.TheImpl.Laws as range_laws
use Rattle.smt_bits.proofs.Levels.{level_where_equal}
use Rattle.smt_ext.proofs.IpLevels.{level_v4_addresses, level_v6_addresses, level_v4_prefixes, level_v6_prefixes, level_v4_ranges, level_v6_ranges, level_ranges}
use Rattle.smt_ext.proofs.laws.ip.orders.orders_agree_with_equality.Goals as goal

pub returns-clause-v4_addresses : goal.returns-clause-v4_addresses
returns-clause-v4_addresses c = level_where_equal v4_address_order.ghosts.cmp v4_address_laws.total-law level_v4_addresses

pub returns-clause-v6_addresses : goal.returns-clause-v6_addresses
returns-clause-v6_addresses c = level_where_equal v6_address_order.ghosts.cmp v6_address_laws.total-law level_v6_addresses

pub returns-clause-v4_prefixes : goal.returns-clause-v4_prefixes
returns-clause-v4_prefixes c = level_where_equal v4_prefix_order.ghosts.cmp v4_prefix_laws.total-law level_v4_prefixes

pub returns-clause-v6_prefixes : goal.returns-clause-v6_prefixes
returns-clause-v6_prefixes c = level_where_equal v6_prefix_order.ghosts.cmp v6_prefix_laws.total-law level_v6_prefixes

pub returns-clause-v4_ranges : goal.returns-clause-v4_ranges
returns-clause-v4_ranges c = level_where_equal v4_range_order.ghosts.cmp v4_range_laws.total-law level_v4_ranges

pub returns-clause-v6_ranges : goal.returns-clause-v6_ranges
returns-clause-v6_ranges c = level_where_equal v6_range_order.ghosts.cmp v6_range_laws.total-law level_v6_ranges

pub returns-clause-ranges : goal.returns-clause-ranges
returns-clause-ranges c = level_where_equal range_order.ghosts.cmp range_laws.total-law level_ranges
