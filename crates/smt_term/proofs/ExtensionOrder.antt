-- The derived orders and equalities of extension types, and of the operators on their values, are those of what they say.
use Rattle.std.proofs.Common.{◌≡◌, Bool, true, refl, sym, ap, ◌∙◌}
use Rattle.std.specs.Cmp.{Equal-is, IsTotalOrder}
use Rattle.std.specs.Ordering.{is_eq}
use Rattle.std.specs.declared.cmp.Ordering.{Ordering}
use Rattle.std.specs.declared.cmp.Ordering.TheVariants.{Equal}
use Rattle.std.proofs.lemmas.Cmp.{tied_itself}
use Rattle.smt_ext.specs.IpOrder.{plain_range}
use Rattle.smt_ext.specs.IpView.{range_of}
use Rattle.smt_ext.specs.declared.net.IPNet.{IPNet}
use Rattle.smt_ext.specs.declared.net.IPNet.TheVariants.{V4, V6}
use Rattle.law_terms.specs.Plain.{IpAddrKind}
use Rattle.law_terms.specs.Types.{kind_of}
use Rattle.smt_term.specs.ExtensionView.{EqualExtensionOpsSayTheSame, EqualExtensionTypesSayTheSame, ExtensionOpsCompareAsPlain, ExtensionTypesCompareAsPlain, plain_extension_op, plain_kind}
use Rattle.smt_term.specs.contracts.extension.ExtOpOrd.TheImpl as operator_order
use Rattle.smt_term.specs.contracts.extension.ExtOpOrd.TheImpl.Laws as operator_laws
use Rattle.smt_term.specs.contracts.extension.ExtOpPartialEq.TheImpl as operator_equality
use Rattle.smt_term.specs.contracts.extension.ExtTypeOrd.TheImpl as kind_order
use Rattle.smt_term.specs.contracts.extension.ExtTypeOrd.TheImpl.Laws as kind_laws
use Rattle.smt_term.specs.contracts.extension.ExtTypePartialEq.TheImpl as kind_equality
use Rattle.smt_term.specs.declared.extension.ExtOp.TheVariants.{DatetimeOfBitVec, DatetimeVal, DecimalVal, DurationOfBitVec, DurationVal, IpaddrAddrV4, IpaddrAddrV6, IpaddrIsV4, IpaddrPrefixV4, IpaddrPrefixV6}
use Rattle.smt_term.specs.declared.extension.ExtType.TheVariants.{IpAddr, Decimal, DateTime, Duration}
use Rattle.law_terms.proofs.SameTerm.{extension_op_same}
use Rattle.law_terms.proofs.TypeOrder.{kind_same}

pub kind_cmp-is : ExtensionTypesCompareAsPlain
kind_cmp-is IpAddr IpAddr = refl
kind_cmp-is Decimal IpAddr = refl
kind_cmp-is DateTime IpAddr = refl
kind_cmp-is Duration IpAddr = refl
kind_cmp-is a b = refl

pub extension_op_cmp-is : ExtensionOpsCompareAsPlain
extension_op_cmp-is DatetimeOfBitVec DatetimeOfBitVec = refl
extension_op_cmp-is DatetimeVal DatetimeOfBitVec = refl
extension_op_cmp-is DecimalVal DatetimeOfBitVec = refl
extension_op_cmp-is DurationOfBitVec DatetimeOfBitVec = refl
extension_op_cmp-is DurationVal DatetimeOfBitVec = refl
extension_op_cmp-is IpaddrAddrV4 DatetimeOfBitVec = refl
extension_op_cmp-is IpaddrAddrV6 DatetimeOfBitVec = refl
extension_op_cmp-is IpaddrIsV4 DatetimeOfBitVec = refl
extension_op_cmp-is IpaddrPrefixV4 DatetimeOfBitVec = refl
extension_op_cmp-is IpaddrPrefixV6 DatetimeOfBitVec = refl
extension_op_cmp-is a b = refl

-- ranges of both families are of one type
pub range_kind : (net : IPNet) → kind_of (plain_range (range_of net)) ≡ IpAddrKind
range_kind (V4 c) = refl
range_kind (V6 c) = refl

-- where a derived order is an order of what is said, which holds only what says the same level, derived `==` holds exactly
-- where both say the same
module _ {X P : Type 0} (eq : X → X → Bool) (cmp : X → X → Ordering) (plain : X → P) (plain_cmp : P → P → Ordering) (total : IsTotalOrder cmp) (matches : (a b : X) → eq a b ≡ is_eq (cmp a b)) (cmp-is : (a b : X) → cmp a b ≡ plain_cmp (plain a) (plain b)) (same : (p q : P) → plain_cmp p q ≡ Equal → p ≡ q) where
  from_eq : (a b : X) → eq a b ≡ true → plain a ≡ plain b
  from_eq a b h = same (plain a) (plain b) (sym (cmp-is a b) ∙ (Equal-is (cmp a b)).0 (sym (matches a b) ∙ h))

  to_eq : (a b : X) → plain a ≡ plain b → eq a b ≡ true
  to_eq a b h = matches a b ∙ ap is_eq (cmp-is a b ∙ (ap (λ p. plain_cmp (plain a) p) (sym h) ∙ (sym (cmp-is a a) ∙ tied_itself total a)))

  pub say_the_same : (a b : X) → (eq a b ≡ true → plain a ≡ plain b) × (plain a ≡ plain b → eq a b ≡ true)
  say_the_same a b = (from_eq a b, to_eq a b)

pub equal_kinds : EqualExtensionTypesSayTheSame
equal_kinds = say_the_same kind_equality.ghosts.eq kind_order.ghosts.cmp plain_kind _ kind_laws.total-law kind_laws.matches_eq-law kind_cmp-is kind_same

pub equal_extension_ops : EqualExtensionOpsSayTheSame
equal_extension_ops = say_the_same operator_equality.ghosts.eq operator_order.ghosts.cmp plain_extension_op _ operator_laws.total-law operator_laws.matches_eq-law extension_op_cmp-is extension_op_same
