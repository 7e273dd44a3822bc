-- The names of operators, by which jobs and messages call them.
use Rattle.std.specs.Prelude.{ℕ, List, codes}
use Rattle.law_numbers.specs.BitOperators.{bits_entry, test_entry, overflow_entry}
use Rattle.law_terms.specs.Plain.{ExtensionOp, DatetimeOfBitVecOp, DatetimeValOp, DecimalValOp, DurationOfBitVecOp, DurationValOp}
use Rattle.law_terms.specs.Plain.{IpAddrV4Op, IpAddrV6Op, IpIsV4Op, IpPrefixV4Op, IpPrefixV6Op, PlainOp, AndOp, BvnegOp, BvnegoOp, EqOp}
use Rattle.law_terms.specs.Plain.{ExtOp, IteOp, NotOp, OptionGetOp, OrOp, RecordGetOp, SetInterOp, SetMemberOp, SetSubsetOp, StringLikeOp}
use Rattle.law_terms.specs.Plain.{UufOp, ZeroExtendOp, BitsOp, TestOp, OverflowOp}

-- the name of each operator of extension types by itself, by which jobs call it
abbrev pub extension_op_name : ExtensionOp → List ℕ
extension_op_name DatetimeOfBitVecOp = codes "datetime.ofBitVec"
extension_op_name DatetimeValOp = codes "datetime.val"
extension_op_name DecimalValOp = codes "decimal.val"
extension_op_name DurationOfBitVecOp = codes "duration.ofBitVec"
extension_op_name DurationValOp = codes "duration.val"
extension_op_name IpAddrV4Op = codes "ipaddr.addrV4"
extension_op_name IpAddrV6Op = codes "ipaddr.addrV6"
extension_op_name IpIsV4Op = codes "ipaddr.isV4"
extension_op_name IpPrefixV4Op = codes "ipaddr.prefixV4"
extension_op_name IpPrefixV6Op = codes "ipaddr.prefixV6"

-- The name of an operator, by which jobs call it, and scripts where they have no other name for it. The operators of extension types
-- have one name for all.
abbrev pub op_name : PlainOp → List ℕ
op_name AndOp = codes "and"
op_name (BitsOp o) = (bits_entry o).name
op_name (TestOp o) = (test_entry o).name
op_name (OverflowOp o) = (overflow_entry o).name
op_name BvnegOp = codes "bvneg"
op_name BvnegoOp = codes "bvnego"
op_name EqOp = codes "eq"
op_name (ExtOp o) = codes "ext"
op_name IteOp = codes "ite"
op_name NotOp = codes "not"
op_name OptionGetOp = codes "option.get"
op_name OrOp = codes "or"
op_name (RecordGetOp x) = codes "record.get"
op_name SetInterOp = codes "set.inter"
op_name SetMemberOp = codes "set.member"
op_name SetSubsetOp = codes "set.subset"
op_name (StringLikeOp p) = codes "string.like"
op_name (UufOp f) = codes "uuf"
op_name (ZeroExtendOp k) = codes "zero_extend"
