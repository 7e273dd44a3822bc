-- The order of values, and the lists that a set value stands on.
use Rattle.std.specs.Prelude.{◌≡◌, ℕ, Bool, true, ◌&&◌, List, [], ◌∷◌, ℤ, pos, negsuc, Decides}
use Rattle.std.specs.BTreeSet.{insert_key}
use Rattle.std.specs.Cmp.{IsTotalOrder}
use Rattle.std.specs.Cmp.Lexicographic.{slice_cmp}
use Rattle.std.specs.Option.{option_cmp}
use Rattle.std.specs.Ordering.{nat_cmp, bool_cmp, ordering_then, is_eq, is_lt}
use Rattle.std.specs.declared.cmp.Ordering.{Ordering}
use Rattle.std.specs.declared.cmp.Ordering.TheVariants.{Less, Equal, Greater}
use Rattle.law_terms.specs.Plain.{PlainExtension, DecimalOf, Ipv4Of, Ipv6Of, DatetimeOf, DurationOf}
use Rattle.law_terms.specs.Values.{Value, BoolValue, BitVecValue, StringValue, EntityValue, ExtensionValue, NoneValue, SomeValue}
use Rattle.law_terms.specs.Values.{RecordValue, SetValue, Values, no_values, one_value, FieldValues, no_field_values, one_field_value}

-- lists of numbers by their first difference, a proper prefix first
abbrev pub text_cmp : List ℕ → List ℕ → Ordering
text_cmp = slice_cmp nat_cmp

-- a number of 64 bits by its two's complement, read without sign: the numbers from 0 up, then the negative ones
abbrev pub twos_complement_cmp : ℤ → ℤ → Ordering
twos_complement_cmp (pos a) (pos b) = nat_cmp a b
twos_complement_cmp (pos a) (negsuc b) = Less
twos_complement_cmp (negsuc a) (pos b) = Greater
twos_complement_cmp (negsuc a) (negsuc b) = nat_cmp b a

-- the place of an extension value's kind
abbrev pub extension_place : PlainExtension → ℕ
extension_place (DecimalOf z) = 0
extension_place (DatetimeOf z) = 1
extension_place (DurationOf z) = 2
extension_place (Ipv4Of a p) = 3
extension_place (Ipv6Of a p) = 4

-- the order of extension values: by kind, and then by the bits of the number, or by the address and then no prefix before a prefix
abbrev pub extension_cmp : PlainExtension → PlainExtension → Ordering
extension_cmp (DecimalOf x) (DecimalOf y) = twos_complement_cmp x y
extension_cmp (DatetimeOf x) (DatetimeOf y) = twos_complement_cmp x y
extension_cmp (DurationOf x) (DurationOf y) = twos_complement_cmp x y
extension_cmp (Ipv4Of a p) (Ipv4Of b q) = ordering_then (nat_cmp a b) (option_cmp nat_cmp p q)
extension_cmp (Ipv6Of a p) (Ipv6Of b q) = ordering_then (nat_cmp a b) (option_cmp nat_cmp p q)
extension_cmp x y = nat_cmp (extension_place x) (extension_place y)

-- the place of a value's kind
abbrev pub value_place : Value → ℕ
value_place (BoolValue b) = 0
value_place (BitVecValue n a) = 1
value_place (StringValue s) = 2
value_place (EntityValue e i) = 3
value_place (ExtensionValue x) = 4
value_place NoneValue = 5
value_place (SomeValue v) = 6
value_place (RecordValue fs) = 7
value_place (SetValue vs) = 8

abbrev mutual
  -- The order of values: by kind, then part by part at the first difference. It is a choice of ours, by which a set is one list; it
  -- has no meaning in SMT-LIB.
  pub value_cmp : Value → Value → Ordering
  value_cmp (BoolValue a) (BoolValue b) = bool_cmp a b
  value_cmp (BitVecValue n a) (BitVecValue m b) = ordering_then (nat_cmp n m) (nat_cmp a b)
  value_cmp (StringValue s) (StringValue t) = text_cmp s t
  value_cmp (EntityValue e i) (EntityValue f j) = ordering_then (text_cmp e f) (text_cmp i j)
  value_cmp (ExtensionValue x) (ExtensionValue y) = extension_cmp x y
  value_cmp (SomeValue v) (SomeValue w) = value_cmp v w
  value_cmp (RecordValue fs) (RecordValue gs) = field_values_cmp fs gs
  value_cmp (SetValue vs) (SetValue ws) = values_cmp vs ws
  value_cmp v w = nat_cmp (value_place v) (value_place w)

  -- lists of elements by their first difference, a proper prefix first
  pub values_cmp : Values → Values → Ordering
  values_cmp no_values no_values = Equal
  values_cmp no_values (one_value w ws) = Less
  values_cmp (one_value v vs) no_values = Greater
  values_cmp (one_value v vs) (one_value w ws) = ordering_then (value_cmp v w) (values_cmp vs ws)

  -- records at their first difference, by the attribute and then the value, a proper prefix first
  pub field_values_cmp : FieldValues → FieldValues → Ordering
  field_values_cmp no_field_values no_field_values = Equal
  field_values_cmp no_field_values (one_field_value b w gs) = Less
  field_values_cmp (one_field_value a v fs) no_field_values = Greater
  field_values_cmp (one_field_value a v fs) (one_field_value b w gs) =
      ordering_then (ordering_then (text_cmp a b) (value_cmp v w)) (field_values_cmp fs gs)

-- equality of values, as a test
abbrev pub value_eq : Value → Value → Bool
value_eq v w = is_eq (value_cmp v w)

-- an item stands strictly before the first of a list, where the list has one
abbrev pub is_below : {K : Type 0} → (K → K → Ordering) → K → List K → Bool
is_below cmp k [] = true
is_below cmp k (x ∷ xs) = is_lt (cmp k x)

-- the items ascend strictly: each stands before the next
abbrev pub ascends : {K : Type 0} → (K → K → Ordering) → List K → Bool
ascends cmp [] = true
ascends cmp (x ∷ xs) = is_below cmp x xs && ascends cmp xs

-- the items in order, each once
abbrev pub sorted : {K : Type 0} → (K → K → Ordering) → List K → List K
sorted cmp [] = []
sorted cmp (k ∷ ks) = insert_key cmp (sorted cmp ks) k

-- the values in order, each once
abbrev pub sorted_values : List Value → List Value
sorted_values vs = sorted value_cmp vs

-- a list of values, in the form in which a set has its elements
abbrev pub values : List Value → Values
values [] = no_values
values (v ∷ vs) = one_value v (values vs)

-- the elements of a set, as a list
abbrev pub list_of_values : Values → List Value
list_of_values no_values = []
list_of_values (one_value v vs) = v ∷ list_of_values vs

-- the set of the values of a list, in any order and with repeats
abbrev pub set_of : List Value → Value
set_of vs = SetValue (values (sorted_values vs))

-- the test of equality of values decides it
abbrev pub EqualityIsDecided : Type 0
EqualityIsDecided = (v w : Value) → Decides (value_eq v w) (v ≡ w)

-- the order of values is total
abbrev pub OrderIsTotal : Type 0
OrderIsTotal = IsTotalOrder value_cmp
