-- Types that the test takes for equal are equal.
use Rattle.std.proofs.Common.{◌≡◌, ℕ, true, refl, ap}
use Rattle.std.specs.Cmp.{Equal-is, tied_itself}
use Rattle.std.proofs.lemmas.Cmp.{nat_cmp_total}
use Rattle.std.specs.FinMap.{nat_cmp-IsAntisymmetric}
use Rattle.std.specs.Ordering.{nat_cmp, ordering_then}
use Rattle.std.specs.declared.cmp.Ordering.{Ordering}
use Rattle.std.specs.declared.cmp.Ordering.TheVariants.{Equal}
use Rattle.law_terms.specs.Types.{extension_kind_place, type_cmp, attribute_types_cmp, type_eq}
use Rattle.law_terms.specs.ValueOrder.{text_cmp}
use Rattle.law_terms.proofs.ValueOrder.{text_same, then_equal, text_itself}
use Rattle.law_terms.specs.Plain.{ExtensionKind, IpAddrKind, DecimalKind, DatetimeKind, DurationKind, PlainType, OptionType, BitVecType, BoolType, EntityType, ExtensionType, StringType, RecordType, SetType, AttributeTypes, no_attributes, attribute}

pub kind_same : (k l : ExtensionKind) → nat_cmp (extension_kind_place k) (extension_kind_place l) ≡ Equal → k ≡ l
kind_same IpAddrKind IpAddrKind h = refl
kind_same DecimalKind DecimalKind h = refl
kind_same DatetimeKind DatetimeKind h = refl
kind_same DurationKind DurationKind h = refl
kind_same k l h = cc

mutual
  pub type_same : (t u : PlainType) → type_cmp t u ≡ Equal → t ≡ u
  type_same (OptionType t) (OptionType u) h = ap OptionType (type_same t u h)
  type_same (BitVecType n) (BitVecType m) h = ap BitVecType (nat_cmp-IsAntisymmetric n m h)
  type_same BoolType BoolType h = refl
  type_same (EntityType e) (EntityType f) h = ap EntityType (text_same e f h)
  type_same (ExtensionType k) (ExtensionType l) h = ap ExtensionType (kind_same k l h)
  type_same StringType StringType h = refl
  type_same (RecordType x) (RecordType y) h = ap RecordType (attributes_same x y h)
  type_same (SetType t) (SetType u) h = ap SetType (type_same t u h)
  type_same t u h = cc

  attributes_same : (x y : AttributeTypes) → attribute_types_cmp x y ≡ Equal → x ≡ y
  attributes_same no_attributes no_attributes h = refl
  attributes_same no_attributes (attribute b u y) h = cc
  attributes_same (attribute a t x) no_attributes h = cc
  attributes_same (attribute a t x) (attribute b u y) h =
      let e : (ordering_then (text_cmp a b) (type_cmp t u) ≡ Equal) × (attribute_types_cmp x y ≡ Equal) = then_equal (ordering_then (text_cmp a b) (type_cmp t u)) (attribute_types_cmp x y) h in
      let f : (text_cmp a b ≡ Equal) × (type_cmp t u ≡ Equal) = then_equal (text_cmp a b) (type_cmp t u) e.0 in
      let o : a ≡ b = text_same a b f.0 in
      let p : t ≡ u = type_same t u f.1 in
      let q : x ≡ y = attributes_same x y e.1 in
      λ i. attribute (o i) (p i) (q i)

pub eq_same : (t u : PlainType) → type_eq t u ≡ true → t ≡ u
eq_same t u h = type_same t u ((Equal-is (type_cmp t u)).0 h)

then-equal : (o p : Ordering) → o ≡ Equal → p ≡ Equal → ordering_then o p ≡ Equal
then-equal o p h g = (λ i. ordering_then (h i) (g i))

nat_itself : (n : ℕ) → nat_cmp n n ≡ Equal
nat_itself n = tied_itself nat_cmp_total n

mutual
  pub type_itself : (t : PlainType) → type_cmp t t ≡ Equal
  type_itself (OptionType t) = type_itself t
  type_itself (BitVecType n) = nat_itself n
  type_itself BoolType = refl
  type_itself (EntityType e) = text_itself e
  type_itself (ExtensionType k) = nat_itself (extension_kind_place k)
  type_itself StringType = refl
  type_itself (RecordType x) = attributes_itself x
  type_itself (SetType t) = type_itself t

  attributes_itself : (x : AttributeTypes) → attribute_types_cmp x x ≡ Equal
  attributes_itself no_attributes = refl
  attributes_itself (attribute a t x) = then-equal _ _ (then-equal _ _ (text_itself a) (type_itself t)) (attributes_itself x)
