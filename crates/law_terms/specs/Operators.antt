-- The value of each operator.
use Rattle.std.specs.Prelude.{ℕ, bytes_eq, ◌+◌, Bool, true, false, cond, not, ◌&&◌, ◌||◌, List, [], ◌∷◌, filter, Option, Some, None}
use Rattle.std.specs.List.{list_any, list_all}
use Rattle.law_numbers.specs.BitOperators.{bits_entry, test_entry, overflow_entry}
use Rattle.law_numbers.specs.BitVectors as bits
use Rattle.law_numbers.specs.BitVectors.{signed, bits_of}
use Rattle.law_terms.specs.Patterns.{matches}
use Rattle.law_terms.specs.Tables.{Interpretation, value_at}
use Rattle.law_terms.specs.ValueOrder.{value_eq, list_of_values, set_of}
use Rattle.law_terms.specs.Plain.{PlainType, ExtensionOp, DatetimeOfBitVecOp, DatetimeValOp, DecimalValOp, DurationOfBitVecOp}
use Rattle.law_terms.specs.Plain.{DurationValOp, IpAddrV4Op, IpAddrV6Op, IpIsV4Op, IpPrefixV4Op, IpPrefixV6Op, PlainOp, AndOp, BvnegOp}
use Rattle.law_terms.specs.Plain.{BvnegoOp, EqOp, ExtOp, IteOp, NotOp, OptionGetOp, OrOp, RecordGetOp, SetInterOp, SetMemberOp, SetSubsetOp}
use Rattle.law_terms.specs.Plain.{StringLikeOp, UufOp, ZeroExtendOp, DecimalOf, Ipv4Of, Ipv6Of, DatetimeOf, DurationOf, BitsOp, TestOp}
use Rattle.law_terms.specs.Plain.{OverflowOp}
use Rattle.law_terms.specs.Values.{Value, BoolValue, BitVecValue, StringValue, ExtensionValue, NoneValue, SomeValue, RecordValue, SetValue}
use Rattle.law_terms.specs.Values.{FieldValues, no_field_values, one_field_value}

-- What a value holds, where it is of the kind. What these give for other values is no matter: typed terms do not come to it.

-- the truth of a Boolean
abbrev pub truth : Value → Bool
truth (BoolValue b) = b
truth v = false

-- the width of a bitvector
abbrev pub width : Value → ℕ
width (BitVecValue n a) = n
width v = 0

-- the number of a bitvector
abbrev pub number : Value → ℕ
number (BitVecValue n a) = a
number v = 0

-- the code points of a string
abbrev pub characters : Value → List ℕ
characters (StringValue s) = s
characters v = []

-- the elements of a set, in order
abbrev pub elements : Value → List Value
elements (SetValue vs) = list_of_values vs
elements v = []

-- the value of the first field of this attribute
abbrev pub field_value : List ℕ → FieldValues → Value
field_value x no_field_values = BoolValue false
field_value x (one_field_value a v fs) = elim (bytes_eq x a) [ true ↦ v | false ↦ field_value x fs ]

-- the value of an attribute of a record
abbrev pub attribute_value : List ℕ → Value → Value
attribute_value x (RecordValue fs) = field_value x fs
attribute_value x v = BoolValue false

-- whether a value is among the elements of a set (cvc5's finite sets, set.member)
abbrev pub is_member : Value → List Value → Bool
is_member v vs = list_any (value_eq v) vs

-- whether each element of the first set is one of the second (cvc5's finite sets, set.subset)
abbrev pub is_subset : List Value → List Value → Bool
is_subset vs ws = list_all (λ v. is_member v ws) vs

-- the elements of the first set that are in the second (cvc5's finite sets, set.inter)
abbrev pub intersection : List Value → List Value → List Value
intersection vs ws = filter (λ v. is_member v ws) vs

-- the value inside an option, or what stands for it at none
abbrev pub value_inside : Value → Value → Value
value_inside default (SomeValue v) = v
value_inside default v = default

-- the prefix of an IP range, as an option of n bits; none where there is no prefix
abbrev pub prefix_value : ℕ → Option ℕ → Value
prefix_value n None = NoneValue
prefix_value n (Some p) = SomeValue (BitVecValue n p)

-- The value of an operator of an extension type: the bits of a number in two's complement, the number of such bits, or a part of
-- an IP range. A selector at a range of the other family is the interpretation's, since SMT-LIB leaves a selector open at a value
-- of another constructor.
abbrev pub apply_extension : Interpretation → ExtensionOp → Value → Value
apply_extension I DecimalValOp (ExtensionValue (DecimalOf z)) = BitVecValue 64 (bits_of 64 z)
apply_extension I DatetimeValOp (ExtensionValue (DatetimeOf z)) = BitVecValue 64 (bits_of 64 z)
apply_extension I DurationValOp (ExtensionValue (DurationOf z)) = BitVecValue 64 (bits_of 64 z)
apply_extension I DatetimeOfBitVecOp v = ExtensionValue (DatetimeOf (signed 64 (number v)))
apply_extension I DurationOfBitVecOp v = ExtensionValue (DurationOf (signed 64 (number v)))
apply_extension I IpIsV4Op (ExtensionValue (Ipv4Of a p)) = BoolValue true
apply_extension I IpAddrV4Op (ExtensionValue (Ipv4Of a p)) = BitVecValue 32 a
apply_extension I IpPrefixV4Op (ExtensionValue (Ipv4Of a p)) = prefix_value 5 p
apply_extension I IpAddrV6Op (ExtensionValue (Ipv6Of a p)) = BitVecValue 128 a
apply_extension I IpPrefixV6Op (ExtensionValue (Ipv6Of a p)) = prefix_value 7 p
apply_extension I IpAddrV4Op v = value_at (I.other_family IpAddrV4Op) v
apply_extension I IpAddrV6Op v = value_at (I.other_family IpAddrV6Op) v
apply_extension I IpPrefixV4Op v = value_at (I.other_family IpPrefixV4Op) v
apply_extension I IpPrefixV6Op v = value_at (I.other_family IpPrefixV6Op) v
apply_extension I o v = BoolValue false

-- the bits that an operation on two bitvectors gives, in the width of the first
abbrev pub to_bits : (ℕ → ℕ → ℕ → ℕ) → Value → Value → Value
to_bits f a b = BitVecValue (width a) (f (width a) (number a) (number b))

-- the truth that a test of two bitvectors gives, by the width of the first
abbrev pub to_truth : (ℕ → ℕ → ℕ → Bool) → Value → Value → Value
to_truth f a b = BoolValue (f (width a) (number a) (number b))

-- The value of an operator with this result type at these arguments, as the theories Core, FixedSizeBitVectors and UnicodeStrings,
-- the logic QF_BV and cvc5's finite sets define it. A function has the interpretation's table, and `option.get` of none the
-- interpretation's value for the result type. At arguments that no typed term has, the value is false.
abbrev pub apply : Interpretation → PlainOp → PlainType → List Value → Value
apply I NotOp t (a ∷ []) = BoolValue (not (truth a))
apply I AndOp t (a ∷ b ∷ []) = BoolValue (truth a && truth b)
apply I OrOp t (a ∷ b ∷ []) = BoolValue (truth a || truth b)
apply I EqOp t (a ∷ b ∷ []) = BoolValue (value_eq a b)
apply I IteOp t (g ∷ a ∷ b ∷ []) = cond (truth g) a b
apply I (UufOp f) t (a ∷ []) = value_at (I.function f) a
apply I BvnegOp t (a ∷ []) = BitVecValue (width a) (bits.bvneg (width a) (number a))
apply I (BitsOp o) t (a ∷ b ∷ []) = to_bits (bits_entry o).function a b
apply I (TestOp o) t (a ∷ b ∷ []) = to_truth (test_entry o).function a b
apply I (OverflowOp o) t (a ∷ b ∷ []) = to_truth (overflow_entry o).function a b
apply I BvnegoOp t (a ∷ []) = BoolValue (bits.bvnego (width a) (number a))
apply I (ZeroExtendOp k) t (a ∷ []) = BitVecValue (width a + k) (number a)
apply I SetMemberOp t (a ∷ s ∷ []) = BoolValue (is_member a (elements s))
apply I SetSubsetOp t (r ∷ s ∷ []) = BoolValue (is_subset (elements r) (elements s))
apply I SetInterOp t (r ∷ s ∷ []) = set_of (intersection (elements r) (elements s))
apply I OptionGetOp t (a ∷ []) = value_inside (I.inside_none t) a
apply I (RecordGetOp x) t (a ∷ []) = attribute_value x a
apply I (StringLikeOp p) t (a ∷ []) = BoolValue (matches p (characters a))
apply I (ExtOp o) t (a ∷ []) = apply_extension I o a
apply I o t vs = BoolValue false
