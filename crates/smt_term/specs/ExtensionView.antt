-- The plain form of the program's extension types and of the operators on their values, and their order in it.
use Rattle.std.specs.Prelude.{◌≡◌, ◌↔◌, IsTrue}
use Rattle.std.specs.Ordering.{nat_cmp}
use Rattle.law_terms.specs.Interpretations.{extension_op_place}
use Rattle.law_terms.specs.Plain.{ExtensionKind, IpAddrKind, DecimalKind, DatetimeKind, DurationKind, ExtensionOp, DatetimeOfBitVecOp}
use Rattle.law_terms.specs.Plain.{DatetimeValOp, DecimalValOp, DurationOfBitVecOp, DurationValOp, IpAddrV4Op, IpAddrV6Op, IpIsV4Op}
use Rattle.law_terms.specs.Plain.{IpPrefixV4Op, IpPrefixV6Op}
use Rattle.law_terms.specs.Types.{extension_kind_place}
use Rattle.smt_term.specs.contracts.extension.ExtOpOrd.TheImpl as operator_order
use Rattle.smt_term.specs.contracts.extension.ExtOpPartialEq.TheImpl as operator_equality
use Rattle.smt_term.specs.contracts.extension.ExtTypeOrd.TheImpl as kind_order
use Rattle.smt_term.specs.contracts.extension.ExtTypePartialEq.TheImpl as kind_equality
use Rattle.smt_term.specs.declared.extension.ExtOp.{ExtOp}
use Rattle.smt_term.specs.declared.extension.ExtOp.TheVariants.{DatetimeOfBitVec, DatetimeVal, DecimalVal, DurationOfBitVec, DurationVal}
use Rattle.smt_term.specs.declared.extension.ExtOp.TheVariants.{IpaddrAddrV4, IpaddrAddrV6, IpaddrIsV4, IpaddrPrefixV4, IpaddrPrefixV6}
use Rattle.smt_term.specs.declared.extension.ExtType.{ExtType}
use Rattle.smt_term.specs.declared.extension.ExtType.TheVariants.{IpAddr, Decimal, DateTime, Duration}

-- the plain form of an extension type
abbrev pub plain_kind : ExtType → ExtensionKind
plain_kind IpAddr = IpAddrKind
plain_kind Decimal = DecimalKind
plain_kind DateTime = DatetimeKind
plain_kind Duration = DurationKind

-- the plain form of an operator of the extension types
abbrev pub plain_extension_op : ExtOp → ExtensionOp
plain_extension_op DatetimeOfBitVec = DatetimeOfBitVecOp
plain_extension_op DatetimeVal = DatetimeValOp
plain_extension_op DecimalVal = DecimalValOp
plain_extension_op DurationOfBitVec = DurationOfBitVecOp
plain_extension_op DurationVal = DurationValOp
plain_extension_op IpaddrAddrV4 = IpAddrV4Op
plain_extension_op IpaddrAddrV6 = IpAddrV6Op
plain_extension_op IpaddrIsV4 = IpIsV4Op
plain_extension_op IpaddrPrefixV4 = IpPrefixV4Op
plain_extension_op IpaddrPrefixV6 = IpPrefixV6Op

-- extension types compare by their places in the order of types
abbrev pub ExtensionTypesCompareAsPlain : Type 0
ExtensionTypesCompareAsPlain =
    (a b : ExtType) → kind_order.ghosts.cmp a b ≡ nat_cmp (extension_kind_place (plain_kind a)) (extension_kind_place (plain_kind b))

-- two extension types are equal exactly where they say the same
abbrev pub EqualExtensionTypesSayTheSame : Type 0
EqualExtensionTypesSayTheSame = (a b : ExtType) → IsTrue (kind_equality.ghosts.eq a b) ↔ (plain_kind a ≡ plain_kind b)

-- operators of the extension types compare by their places in the order of operators
abbrev pub ExtensionOpsCompareAsPlain : Type 0
ExtensionOpsCompareAsPlain =
    (a b : ExtOp) →
    operator_order.ghosts.cmp a b ≡ nat_cmp (extension_op_place (plain_extension_op a)) (extension_op_place (plain_extension_op b))

-- two operators of the extension types are equal exactly where they say the same
abbrev pub EqualExtensionOpsSayTheSame : Type 0
EqualExtensionOpsSayTheSame = (a b : ExtOp) → IsTrue (operator_equality.ghosts.eq a b) ↔ (plain_extension_op a ≡ plain_extension_op b)
