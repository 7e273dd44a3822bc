-- The order and the forms of extension values, in terms.
use Rattle.std.proofs.Common.{◌≡◌, rules}
use Rattle.smt_ext.specs.ExtOrder.{ext_cmp, plain_value}
use Rattle.smt_ext.specs.IpView.{range_of}
use Rattle.smt_ext.specs.IpOrder.{plain_range}
use Rattle.smt_ext.specs.contracts.ext.ExtOrd.TheImpl as value_order
use Rattle.smt_ext.specs.declared.ext.Ext.{Ext}
use Rattle.smt_ext.specs.declared.ext.Ext.TheVariants.{Decimal, Ipaddr, Datetime, Duration}
use Rattle.smt_ext.specs.declared.net.IPNet.{IPNet}
use Rattle.smt_ext.specs.declared.net.IPNet.TheVariants.{V4, V6}
use Rattle.law_terms.specs.Formed.{IsFormedExtension}

-- the derived order of values is that of what they stand for
pub ext_cmp-is : (a b : Ext) → value_order.ghosts.cmp a b ≡ ext_cmp a b
ext_cmp-is a b = search rules

formed_range : (net : IPNet) → IsFormedExtension (plain_range (range_of net))
formed_range (V4 c) = search rules
formed_range (V6 c) = search rules

pub formed_value : (x : Ext) → IsFormedExtension (plain_value x)
formed_value (Decimal d) = d.fits
formed_value (Ipaddr net) = formed_range net
formed_value (Datetime d) = d.fits
formed_value (Duration d) = d.fits
