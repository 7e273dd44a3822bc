-- The order of values agrees with equality, and turns round with its arguments.
use Rattle.std.proofs.Common.{◌≡◌, ℕ, Bool, true, false, List, refl, ap, ◌∙◌, sym}
use Rattle.std.specs.Prelude.{bytes_eq, ℤ, pos, negsuc, Option, Some, None}
use Rattle.std.specs.FinMap.{nat_cmp-IsAntisymmetric, slice_cmp-IsAntisymmetric}
use Rattle.std.specs.Option.{option_cmp}
use Rattle.std.specs.Bool.{Decides}
use Rattle.std.specs.Cmp.{Equal-is}
use Rattle.std.specs.Ordering.{nat_cmp, bool_cmp, ordering_then, ordering_reverse, is_eq}
use Rattle.std.specs.declared.cmp.Ordering.{Ordering}
use Rattle.std.specs.declared.cmp.Ordering.TheVariants.{Less, Equal, Greater}
use Rattle.std.proofs.lemmas.Cmp.{nat_cmp_total, nat_list_cmp_total}
use Rattle.std.proofs.lemmas.Slice.Eq.{bytes_eq-Decides}
use Rattle.law_terms.specs.ValueOrder.{text_cmp, twos_complement_cmp, extension_cmp, value_cmp, value_eq, values_cmp, field_values_cmp}
use Rattle.law_terms.specs.Plain.{PlainExtension, DecimalOf, Ipv4Of, Ipv6Of, DatetimeOf, DurationOf}
use Rattle.law_terms.specs.Values.{Value, BoolValue, BitVecValue, StringValue, EntityValue, ExtensionValue, NoneValue, SomeValue, RecordValue, SetValue, Values, no_values, one_value, FieldValues, no_field_values, one_field_value}

pub then_equal : (o p : Ordering) → ordering_then o p ≡ Equal → (o ≡ Equal) × (p ≡ Equal)
then_equal Less p h = cc
then_equal Equal p h = (refl, h)
then_equal Greater p h = cc

then_turned : (a b : Ordering) → ordering_reverse (ordering_then a b) ≡ ordering_then (ordering_reverse a) (ordering_reverse b)
then_turned Less b = refl
then_turned Equal b = refl
then_turned Greater b = refl

pub then_both : (a b c d : Ordering) → a ≡ ordering_reverse b → c ≡ ordering_reverse d → ordering_then a c ≡ ordering_reverse (ordering_then b d)
then_both a b c d p q = (λ i. ordering_then (p i) (q i)) ∙ sym (then_turned b d)

-- ---- equal by the order is equal

pub text_same : (a b : List ℕ) → text_cmp a b ≡ Equal → a ≡ b
text_same = slice_cmp-IsAntisymmetric nat_cmp-IsAntisymmetric

pub bool_same : (b c : Bool) → bool_cmp b c ≡ Equal → b ≡ c
bool_same true true h = refl
bool_same false false h = refl
bool_same true false h = cc
bool_same false true h = cc

number_same : (x y : ℤ) → twos_complement_cmp x y ≡ Equal → x ≡ y
number_same (pos a) (pos b) h = ap pos (nat_cmp-IsAntisymmetric a b h)
number_same (pos a) (negsuc b) h = cc
number_same (negsuc a) (pos b) h = cc
number_same (negsuc a) (negsuc b) h = ap negsuc (sym (nat_cmp-IsAntisymmetric b a h))

option_same : (p q : Option ℕ) → option_cmp nat_cmp p q ≡ Equal → p ≡ q
option_same None None h = refl
option_same None (Some b) h = cc
option_same (Some a) None h = cc
option_same (Some a) (Some b) h = ap Some (nat_cmp-IsAntisymmetric a b h)

address_same : (a b : ℕ) (p q : Option ℕ) → ordering_then (nat_cmp a b) (option_cmp nat_cmp p q) ≡ Equal → (a ≡ b) × (p ≡ q)
address_same a b p q h =
    let e : (nat_cmp a b ≡ Equal) × (option_cmp nat_cmp p q ≡ Equal) = then_equal (nat_cmp a b) (option_cmp nat_cmp p q) h in
    (nat_cmp-IsAntisymmetric a b e.0, option_same p q e.1)

extension_same : (x y : PlainExtension) → extension_cmp x y ≡ Equal → x ≡ y
extension_same (DecimalOf x) (DecimalOf y) h = ap DecimalOf (number_same x y h)
extension_same (DatetimeOf x) (DatetimeOf y) h = ap DatetimeOf (number_same x y h)
extension_same (DurationOf x) (DurationOf y) h = ap DurationOf (number_same x y h)
extension_same (Ipv4Of a p) (Ipv4Of b q) h = let e : (a ≡ b) × (p ≡ q) = address_same a b p q h in λ i. Ipv4Of (e.0 i) (e.1 i)
extension_same (Ipv6Of a p) (Ipv6Of b q) h = let e : (a ≡ b) × (p ≡ q) = address_same a b p q h in λ i. Ipv6Of (e.0 i) (e.1 i)
extension_same x y h = cc

mutual
  pub value_same : (v w : Value) → value_cmp v w ≡ Equal → v ≡ w
  value_same (BoolValue a) (BoolValue b) h = ap BoolValue (bool_same a b h)
  value_same (BitVecValue n a) (BitVecValue m b) h =
      let e : (nat_cmp n m ≡ Equal) × (nat_cmp a b ≡ Equal) = then_equal (nat_cmp n m) (nat_cmp a b) h in
      λ i. BitVecValue (nat_cmp-IsAntisymmetric n m e.0 i) (nat_cmp-IsAntisymmetric a b e.1 i)
  value_same (StringValue s) (StringValue t) h = ap StringValue (text_same s t h)
  value_same (EntityValue s a) (EntityValue t b) h =
      let e : (text_cmp s t ≡ Equal) × (text_cmp a b ≡ Equal) = then_equal (text_cmp s t) (text_cmp a b) h in
      λ i. EntityValue (text_same s t e.0 i) (text_same a b e.1 i)
  value_same (ExtensionValue x) (ExtensionValue y) h = ap ExtensionValue (extension_same x y h)
  value_same NoneValue NoneValue h = refl
  value_same (SomeValue v) (SomeValue w) h = ap SomeValue (value_same v w h)
  value_same (RecordValue fs) (RecordValue gs) h = ap RecordValue (fields_same fs gs h)
  value_same (SetValue vs) (SetValue ws) h = ap SetValue (values_same vs ws h)
  value_same v w h = cc

  values_same : (vs ws : Values) → values_cmp vs ws ≡ Equal → vs ≡ ws
  values_same no_values no_values h = refl
  values_same no_values (one_value w ws) h = cc
  values_same (one_value v vs) no_values h = cc
  values_same (one_value v vs) (one_value w ws) h =
      let e : (value_cmp v w ≡ Equal) × (values_cmp vs ws ≡ Equal) = then_equal (value_cmp v w) (values_cmp vs ws) h in
      let p : v ≡ w = value_same v w e.0 in
      let q : vs ≡ ws = values_same vs ws e.1 in
      λ i. one_value (p i) (q i)

  fields_same : (fs gs : FieldValues) → field_values_cmp fs gs ≡ Equal → fs ≡ gs
  fields_same no_field_values no_field_values h = refl
  fields_same no_field_values (one_field_value b w gs) h = cc
  fields_same (one_field_value a v fs) no_field_values h = cc
  fields_same (one_field_value a v fs) (one_field_value b w gs) h =
      let e : (ordering_then (text_cmp a b) (value_cmp v w) ≡ Equal) × (field_values_cmp fs gs ≡ Equal) = then_equal (ordering_then (text_cmp a b) (value_cmp v w)) (field_values_cmp fs gs) h in
      let f : (text_cmp a b ≡ Equal) × (value_cmp v w ≡ Equal) = then_equal (text_cmp a b) (value_cmp v w) e.0 in
      let o : a ≡ b = text_same a b f.0 in
      let p : v ≡ w = value_same v w f.1 in
      let q : fs ≡ gs = fields_same fs gs e.1 in
      λ i. one_field_value (o i) (p i) (q i)

-- ---- the order turns round

pub nat_turned : (a b : ℕ) → nat_cmp a b ≡ ordering_reverse (nat_cmp b a)
nat_turned = nat_cmp_total.antisymm

pub text_turned : (a b : List ℕ) → text_cmp a b ≡ ordering_reverse (text_cmp b a)
text_turned = nat_list_cmp_total.antisymm

pub bool_turned : (b c : Bool) → bool_cmp b c ≡ ordering_reverse (bool_cmp c b)
bool_turned true true = refl
bool_turned false false = refl
bool_turned true false = refl
bool_turned false true = refl

number_turned : (x y : ℤ) → twos_complement_cmp x y ≡ ordering_reverse (twos_complement_cmp y x)
number_turned (pos a) (pos b) = nat_turned a b
number_turned (pos a) (negsuc b) = refl
number_turned (negsuc a) (pos b) = refl
number_turned (negsuc a) (negsuc b) = nat_turned b a

option_turned : (p q : Option ℕ) → option_cmp nat_cmp p q ≡ ordering_reverse (option_cmp nat_cmp q p)
option_turned None None = refl
option_turned None (Some b) = refl
option_turned (Some a) None = refl
option_turned (Some a) (Some b) = nat_turned a b

extension_turned : (x y : PlainExtension) → extension_cmp x y ≡ ordering_reverse (extension_cmp y x)
extension_turned (DecimalOf x) (DecimalOf y) = number_turned x y
extension_turned (DatetimeOf x) (DatetimeOf y) = number_turned x y
extension_turned (DurationOf x) (DurationOf y) = number_turned x y
extension_turned (Ipv4Of a p) (Ipv4Of b q) = then_both _ _ _ _ (nat_turned a b) (option_turned p q)
extension_turned (Ipv6Of a p) (Ipv6Of b q) = then_both _ _ _ _ (nat_turned a b) (option_turned p q)
extension_turned x y = refl

mutual
  pub value_turned : (v w : Value) → value_cmp v w ≡ ordering_reverse (value_cmp w v)
  value_turned (BoolValue a) (BoolValue b) = bool_turned a b
  value_turned (BitVecValue n a) (BitVecValue m b) = then_both _ _ _ _ (nat_turned n m) (nat_turned a b)
  value_turned (StringValue s) (StringValue t) = text_turned s t
  value_turned (EntityValue s a) (EntityValue t b) = then_both _ _ _ _ (text_turned s t) (text_turned a b)
  value_turned (ExtensionValue x) (ExtensionValue y) = extension_turned x y
  value_turned NoneValue NoneValue = refl
  value_turned (SomeValue v) (SomeValue w) = value_turned v w
  value_turned (RecordValue fs) (RecordValue gs) = fields_turned fs gs
  value_turned (SetValue vs) (SetValue ws) = values_turned vs ws
  value_turned v w = refl

  values_turned : (vs ws : Values) → values_cmp vs ws ≡ ordering_reverse (values_cmp ws vs)
  values_turned no_values no_values = refl
  values_turned no_values (one_value w ws) = refl
  values_turned (one_value v vs) no_values = refl
  values_turned (one_value v vs) (one_value w ws) = then_both _ _ _ _ (value_turned v w) (values_turned vs ws)

  fields_turned : (fs gs : FieldValues) → field_values_cmp fs gs ≡ ordering_reverse (field_values_cmp gs fs)
  fields_turned no_field_values no_field_values = refl
  fields_turned no_field_values (one_field_value b w gs) = refl
  fields_turned (one_field_value a v fs) no_field_values = refl
  fields_turned (one_field_value a v fs) (one_field_value b w gs) = then_both _ _ _ _ (then_both _ _ _ _ (text_turned a b) (value_turned v w)) (fields_turned fs gs)

pub own_turn : (o : Ordering) → o ≡ ordering_reverse o → o ≡ Equal
own_turn Less h = cc
own_turn Equal h = refl
own_turn Greater h = cc

pub value_itself : (v : Value) → value_cmp v v ≡ Equal
value_itself v = own_turn (value_cmp v v) (value_turned v v)

pub values_decided : (v w : Value) → Decides (value_eq v w) (v ≡ w)
values_decided v w = (λ h. value_same v w ((Equal-is (value_cmp v w)).0 h), λ e. sym (ap (λ u. value_eq v u) e) ∙ ap is_eq (value_itself v))

pub text_itself : (s : List ℕ) → text_cmp s s ≡ Equal
text_itself s = own_turn (text_cmp s s) (text_turned s s)

pub bytes_itself : (s : List ℕ) → bytes_eq s s ≡ true
bytes_itself s = (bytes_eq-Decides s s).1 refl
