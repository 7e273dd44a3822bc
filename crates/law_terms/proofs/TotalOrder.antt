-- The order of values is total.
use Rattle.std.proofs.Common.{◌≡◌, ℕ, ◌<◌, ◌≤◌, Bool, true, false, List, refl, ap, ◌∙◌, sym, arith}
use Rattle.std.specs.Prelude.{ℤ, pos, negsuc, Option, Some, None, nat_le, nat_lt}
use Rattle.std.specs.Cmp.{IsTotalOrder}
use Rattle.std.specs.FinMap.{nat_cmp-IsAntisymmetric}
use Rattle.std.specs.Option.{option_cmp}
use Rattle.std.specs.Ordering.{nat_cmp, bool_cmp, ordering_then}
use Rattle.std.specs.declared.cmp.Ordering.{Ordering}
use Rattle.std.specs.declared.cmp.Ordering.TheVariants.{Less, Equal, Greater}
use Rattle.std.proofs.lemmas.Bool.{leb-true, lt-ltb}
use Rattle.std.proofs.lemmas.Cmp.{nat_cmp_total, nat_list_cmp_total}
use Rattle.law_terms.specs.ValueOrder.{text_cmp, twos_complement_cmp, extension_cmp, extension_place, value_place, value_cmp, values_cmp, field_values_cmp}
use Rattle.law_terms.proofs.ValueOrder.{then_equal, text_same, value_same, value_turned}
use Rattle.law_terms.specs.Plain.{PlainExtension, DecimalOf, Ipv4Of, Ipv6Of, DatetimeOf, DurationOf}
use Rattle.law_terms.specs.Values.{Value, BoolValue, BitVecValue, StringValue, EntityValue, ExtensionValue, NoneValue, SomeValue, RecordValue, SetValue, Values, no_values, one_value, FieldValues, no_field_values, one_field_value}

-- three items by a first part and then a second: o and p are the answers on first and second against second and third
pub then_less : (o12 o23 o13 p12 p23 p13 : Ordering) → (o12 ≡ Less → o23 ≡ Less → o13 ≡ Less) → (o12 ≡ Equal → o13 ≡ o23) → (o23 ≡ Equal → o13 ≡ o12) → (p12 ≡ Less → p23 ≡ Less → p13 ≡ Less) → ordering_then o12 p12 ≡ Less → ordering_then o23 p23 ≡ Less → ordering_then o13 p13 ≡ Less
then_less Less Less o13 p12 p23 p13 t l r s h g = ap (λ o. ordering_then o p13) (t refl refl)
then_less Less Equal o13 p12 p23 p13 t l r s h g = ap (λ o. ordering_then o p13) (r refl)
then_less Equal Less o13 p12 p23 p13 t l r s h g = ap (λ o. ordering_then o p13) (l refl)
then_less Equal Equal o13 p12 p23 p13 t l r s h g = ap (λ o. ordering_then o p13) (l refl) ∙ s h g
then_less Greater o23 o13 p12 p23 p13 t l r s h g = cc
then_less Less Greater o13 p12 p23 p13 t l r s h g = cc
then_less Equal Greater o13 p12 p23 p13 t l r s h g = cc

-- the same, where the first parts are compared by an order that agrees with equality
module _ {A : Type 0} (cmp : A → A → Ordering) (agrees : (x y : A) → cmp x y ≡ Equal → x ≡ y) (x y z : A) (p12 p23 p13 : Ordering) where
  pub then_chain : (cmp x y ≡ Less → cmp y z ≡ Less → cmp x z ≡ Less) → (p12 ≡ Less → p23 ≡ Less → p13 ≡ Less) → ordering_then (cmp x y) p12 ≡ Less → ordering_then (cmp y z) p23 ≡ Less → ordering_then (cmp x z) p13 ≡ Less
  then_chain t s h g =
      then_less (cmp x y) (cmp y z) (cmp x z) p12 p23 p13 t (λ e. ap (λ u. cmp u z) (agrees x y e)) (λ e. sym (ap (λ u. cmp x u) (agrees y z e))) s h g

pub nat_less : (a b c : ℕ) → nat_cmp a b ≡ Less → nat_cmp b c ≡ Less → nat_cmp a c ≡ Less
nat_less = nat_cmp_total.trans

pub text_less : (a b c : List ℕ) → text_cmp a b ≡ Less → text_cmp b c ≡ Less → text_cmp a c ≡ Less
text_less = nat_list_cmp_total.trans

-- what has a name: by the name, then by an order that agrees with equality, and then by the rest
module _ {A : Type 0} (cmp : A → A → Ordering) (agrees : (x y : A) → cmp x y ≡ Equal → x ≡ y) (a b c : List ℕ) (x y z : A) (p12 p23 p13 : Ordering) where
  both_left : ordering_then (text_cmp a b) (cmp x y) ≡ Equal → ordering_then (text_cmp a c) (cmp x z) ≡ ordering_then (text_cmp b c) (cmp y z)
  both_left e =
      let k : (text_cmp a b ≡ Equal) × (cmp x y ≡ Equal) = then_equal (text_cmp a b) (cmp x y) e in
      let p : a ≡ b = text_same a b k.0 in
      let q : x ≡ y = agrees x y k.1 in
      λ i. ordering_then (text_cmp (p i) c) (cmp (q i) z)

  both_right : ordering_then (text_cmp b c) (cmp y z) ≡ Equal → ordering_then (text_cmp a c) (cmp x z) ≡ ordering_then (text_cmp a b) (cmp x y)
  both_right e =
      let k : (text_cmp b c ≡ Equal) × (cmp y z ≡ Equal) = then_equal (text_cmp b c) (cmp y z) e in
      let p : c ≡ b = sym (text_same b c k.0) in
      let q : z ≡ y = sym (agrees y z k.1) in
      λ i. ordering_then (text_cmp a (p i)) (cmp x (q i))

  pub named_chain : (cmp x y ≡ Less → cmp y z ≡ Less → cmp x z ≡ Less) → (p12 ≡ Less → p23 ≡ Less → p13 ≡ Less)
      → ordering_then (ordering_then (text_cmp a b) (cmp x y)) p12 ≡ Less → ordering_then (ordering_then (text_cmp b c) (cmp y z)) p23 ≡ Less → ordering_then (ordering_then (text_cmp a c) (cmp x z)) p13 ≡ Less
  named_chain t s h g =
      then_less (ordering_then (text_cmp a b) (cmp x y)) (ordering_then (text_cmp b c) (cmp y z)) (ordering_then (text_cmp a c) (cmp x z)) p12 p23 p13
      (then_chain text_cmp text_same a b c (cmp x y) (cmp y z) (cmp x z) (text_less a b c) t) both_left both_right s h g

pub bool_less : (a b c : Bool) → bool_cmp a b ≡ Less → bool_cmp b c ≡ Less → bool_cmp a c ≡ Less
bool_less false true true h g = refl
bool_less false true false h g = cc
bool_less false false c h g = cc
bool_less true false c h g = cc
bool_less true true c h g = cc

number_less : (x y z : ℤ) → twos_complement_cmp x y ≡ Less → twos_complement_cmp y z ≡ Less → twos_complement_cmp x z ≡ Less
number_less (pos a) (pos b) (pos c) h g = nat_less a b c h g
number_less (negsuc a) (negsuc b) (negsuc c) h g = nat_less c b a g h
number_less (pos a) (pos b) (negsuc c) h g = refl
number_less (pos a) (negsuc b) (negsuc c) h g = refl
number_less (pos a) (negsuc b) (pos c) h g = cc
number_less (negsuc a) (pos b) z h g = cc
number_less (negsuc a) (negsuc b) (pos c) h g = cc

option_less : (p q r : Option ℕ) → option_cmp nat_cmp p q ≡ Less → option_cmp nat_cmp q r ≡ Less → option_cmp nat_cmp p r ≡ Less
option_less (Some a) (Some b) (Some c) h g = nat_less a b c h g
option_less None (Some b) (Some c) h g = refl
option_less None (Some b) None h g = cc
option_less None None r h g = cc
option_less (Some a) None r h g = cc
option_less (Some a) (Some b) None h g = cc

address_less : (a b c : ℕ) (p q r : Option ℕ) → ordering_then (nat_cmp a b) (option_cmp nat_cmp p q) ≡ Less → ordering_then (nat_cmp b c) (option_cmp nat_cmp q r) ≡ Less → ordering_then (nat_cmp a c) (option_cmp nat_cmp p r) ≡ Less
address_less a b c p q r h g = then_chain nat_cmp nat_cmp-IsAntisymmetric a b c _ _ _ (nat_less a b c) (option_less p q r) h g

-- kinds

extension_apart : (x y : PlainExtension) → nat_lt (extension_place x) (extension_place y) ≡ true → extension_cmp x y ≡ Less
extension_apart (DecimalOf x) (DecimalOf y) h = cc
extension_apart (DatetimeOf x) (DatetimeOf y) h = cc
extension_apart (DurationOf x) (DurationOf y) h = cc
extension_apart (Ipv4Of a p) (Ipv4Of b q) h = cc
extension_apart (Ipv6Of a p) (Ipv6Of b q) h = cc
extension_apart x y h = cc

extension_ordered : (x y : PlainExtension) → extension_cmp x y ≡ Less → nat_le (extension_place x) (extension_place y) ≡ true
extension_ordered (DecimalOf x) (DecimalOf y) h = refl
extension_ordered (DatetimeOf x) (DatetimeOf y) h = refl
extension_ordered (DurationOf x) (DurationOf y) h = refl
extension_ordered (Ipv4Of a p) (Ipv4Of b q) h = refl
extension_ordered (Ipv6Of a p) (Ipv6Of b q) h = refl
extension_ordered x y h = cc

extension_less : (x y z : PlainExtension) → extension_cmp x y ≡ Less → extension_cmp y z ≡ Less → extension_cmp x z ≡ Less
extension_less (DecimalOf x) (DecimalOf y) (DecimalOf z) h g = number_less x y z h g
extension_less (DatetimeOf x) (DatetimeOf y) (DatetimeOf z) h g = number_less x y z h g
extension_less (DurationOf x) (DurationOf y) (DurationOf z) h g = number_less x y z h g
extension_less (Ipv4Of a p) (Ipv4Of b q) (Ipv4Of c r) h g = address_less a b c p q r h g
extension_less (Ipv6Of a p) (Ipv6Of b q) (Ipv6Of c r) h g = address_less a b c p q r h g
extension_less x y z h g =
    let p : extension_place x ≤ extension_place y = leb-true (extension_place x) (extension_place y) (extension_ordered x y h) in
    let q : extension_place y ≤ extension_place z = leb-true (extension_place y) (extension_place z) (extension_ordered y z g) in
    let r : extension_place x < extension_place z = omega arith in
    extension_apart x z (lt-ltb (extension_place x) (extension_place z) r)

value_apart : (v w : Value) → nat_lt (value_place v) (value_place w) ≡ true → value_cmp v w ≡ Less
value_apart (BoolValue a) (BoolValue b) h = cc
value_apart (BitVecValue n a) (BitVecValue m b) h = cc
value_apart (StringValue s) (StringValue t) h = cc
value_apart (EntityValue s a) (EntityValue t b) h = cc
value_apart (ExtensionValue x) (ExtensionValue y) h = cc
value_apart NoneValue NoneValue h = cc
value_apart (SomeValue v) (SomeValue w) h = cc
value_apart (RecordValue fs) (RecordValue gs) h = cc
value_apart (SetValue vs) (SetValue ws) h = cc
value_apart v w h = cc

value_ordered : (v w : Value) → value_cmp v w ≡ Less → nat_le (value_place v) (value_place w) ≡ true
value_ordered (BoolValue a) (BoolValue b) h = refl
value_ordered (BitVecValue n a) (BitVecValue m b) h = refl
value_ordered (StringValue s) (StringValue t) h = refl
value_ordered (EntityValue s a) (EntityValue t b) h = refl
value_ordered (ExtensionValue x) (ExtensionValue y) h = refl
value_ordered NoneValue NoneValue h = refl
value_ordered (SomeValue v) (SomeValue w) h = refl
value_ordered (RecordValue fs) (RecordValue gs) h = refl
value_ordered (SetValue vs) (SetValue ws) h = refl
value_ordered v w h = cc

mutual
  pub value_less : (v w u : Value) → value_cmp v w ≡ Less → value_cmp w u ≡ Less → value_cmp v u ≡ Less
  value_less (BoolValue a) (BoolValue b) (BoolValue c) h g = bool_less a b c h g
  value_less (BitVecValue n a) (BitVecValue m b) (BitVecValue k c) h g = then_chain nat_cmp nat_cmp-IsAntisymmetric n m k _ _ _ (nat_less n m k) (nat_less a b c) h g
  value_less (StringValue s) (StringValue t) (StringValue r) h g = text_less s t r h g
  value_less (EntityValue s a) (EntityValue t b) (EntityValue r c) h g = then_chain text_cmp text_same s t r _ _ _ (text_less s t r) (text_less a b c) h g
  value_less (ExtensionValue x) (ExtensionValue y) (ExtensionValue z) h g = extension_less x y z h g
  value_less NoneValue NoneValue NoneValue h g = h
  value_less (SomeValue v) (SomeValue w) (SomeValue u) h g = value_less v w u h g
  value_less (RecordValue fs) (RecordValue gs) (RecordValue hs) h g = fields_less fs gs hs h g
  value_less (SetValue vs) (SetValue ws) (SetValue us) h g = values_less vs ws us h g
  value_less v w u h g =
      let p : value_place v ≤ value_place w = leb-true (value_place v) (value_place w) (value_ordered v w h) in
      let q : value_place w ≤ value_place u = leb-true (value_place w) (value_place u) (value_ordered w u g) in
      let r : value_place v < value_place u = omega arith in
      value_apart v u (lt-ltb (value_place v) (value_place u) r)

  values_less : (vs ws us : Values) → values_cmp vs ws ≡ Less → values_cmp ws us ≡ Less → values_cmp vs us ≡ Less
  values_less (one_value v vs) (one_value w ws) (one_value u us) h g = then_chain value_cmp value_same v w u _ _ _ (value_less v w u) (values_less vs ws us) h g
  values_less no_values (one_value w ws) (one_value u us) h g = refl
  values_less no_values no_values us h g = cc
  values_less (one_value v vs) no_values us h g = cc
  values_less vs (one_value w ws) no_values h g = cc

  fields_less : (fs gs hs : FieldValues) → field_values_cmp fs gs ≡ Less → field_values_cmp gs hs ≡ Less → field_values_cmp fs hs ≡ Less
  fields_less (one_field_value a v fs) (one_field_value b w gs) (one_field_value c u hs) h g =
      named_chain value_cmp value_same a b c v w u _ _ _ (value_less v w u) (fields_less fs gs hs) h g
  fields_less no_field_values (one_field_value b w gs) (one_field_value c u hs) h g = refl
  fields_less no_field_values no_field_values hs h g = cc
  fields_less (one_field_value a v fs) no_field_values hs h g = cc
  fields_less fs (one_field_value b w gs) no_field_values h g = cc

value_level : (v w u : Value) → value_cmp v w ≡ Equal → value_cmp v u ≡ value_cmp w u
value_level v w u e = ap (λ x. value_cmp x u) (value_same v w e)

pub values_total : IsTotalOrder value_cmp
values_total = record { antisymm = value_turned; trans = value_less; congr = value_level }
