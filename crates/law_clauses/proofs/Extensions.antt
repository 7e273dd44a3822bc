-- Clauses of extension values are valid.
use Rattle.std.proofs.Common.{◌≡◌, ℕ, true, false, ◌||◌, List, ap, refl, sym, ◌∙◌}
use Rattle.std.specs.Prelude.{ℤ, pos, Option, Some, None, ⊤}
use Rattle.law_numbers.proofs.TwosComplement.{signed_has_its_bits}
use Rattle.law_numbers.specs.BitVectors.{bits_of}
use Rattle.law_numbers.specs.Longs.{IsLong}
use Rattle.law_terms.specs.Meaning.{meaning}
use Rattle.law_terms.specs.Operators.{apply_extension, number, prefix_value, truth}
use Rattle.law_terms.specs.Plain.{ExtensionKind, IpAddrKind, DecimalKind, DatetimeKind, DurationKind, ExtensionType, ExtensionOp, DatetimeValOp, DecimalValOp, DurationValOp, IpAddrV4Op, IpAddrV6Op, IpIsV4Op, IpPrefixV4Op, IpPrefixV6Op, PlainExtension, DecimalOf, Ipv4Of, Ipv6Of, DatetimeOf, DurationOf, PlainTerm}
use Rattle.law_terms.specs.Shapes.{IsShaped}
use Rattle.law_terms.specs.Tables.{Interpretation}
use Rattle.law_terms.specs.TypeValues.{Enums}
use Rattle.law_terms.specs.ValueOrder.{value_eq}
use Rattle.law_terms.specs.Values.{Value, BitVecValue, ExtensionValue, SomeValue}
use Rattle.law_clauses.specs.Extensions.{ExtensionsAreValid}
use Rattle.law_clauses.proofs.Longs.{same_long}
use Rattle.law_clauses.proofs.Quotients.{bits_form}
use Rattle.law_clauses.proofs.Structure.{is_same, same_value}

-- ---- decimals, datetimes and durations

abbrev IsLongKind : ExtensionKind → Type 0
IsLongKind IpAddrKind = ⊥
IsLongKind k = ⊤

-- the value of a kind with a number, and the operator that gives its bits
abbrev long_value : ExtensionKind → ℤ → PlainExtension
long_value DecimalKind z = DecimalOf z
long_value DatetimeKind z = DatetimeOf z
long_value DurationKind z = DurationOf z
long_value IpAddrKind z = DecimalOf z

abbrev bits_op : ExtensionKind → ExtensionOp
bits_op DatetimeKind = DatetimeValOp
bits_op DurationKind = DurationValOp
bits_op k = DecimalValOp

abbrev long_in : Value → ℤ
long_in (ExtensionValue (DecimalOf z)) = z
long_in (ExtensionValue (DatetimeOf z)) = z
long_in (ExtensionValue (DurationOf z)) = z
long_in v = pos 0

long_form : (k : ExtensionKind) (v : Value) → IsLongKind k → IsShaped (ExtensionType k) v → (v ≡ ExtensionValue (long_value k (long_in v))) × IsLong (long_in v)
long_form DecimalKind (ExtensionValue (DecimalOf z)) l h = (refl, h)
long_form DatetimeKind (ExtensionValue (DatetimeOf z)) l h = (refl, h)
long_form DurationKind (ExtensionValue (DurationOf z)) l h = (refl, h)
long_form IpAddrKind v l h = absurd l
long_form k v l h = elim h [ ]

module _ (I : Interpretation) where
  its_bits : (k : ExtensionKind) (z : ℤ) → IsLongKind k → apply_extension I (bits_op k) (ExtensionValue (long_value k z)) ≡ BitVecValue 64 (bits_of 64 z)
  its_bits DecimalKind z l = refl
  its_bits DatetimeKind z l = refl
  its_bits DurationKind z l = refl
  its_bits IpAddrKind z l = absurd l

  same_of_bits : (k : ExtensionKind) (v w : Value) → IsLongKind k → IsShaped (ExtensionType k) v → IsShaped (ExtensionType k) w → apply_extension I (bits_op k) v ≡ apply_extension I (bits_op k) w → v ≡ w
  same_of_bits k v w l h g e =
      let p = long_form k v l h in
      let q = long_form k w l g in
      let x : apply_extension I (bits_op k) v ≡ BitVecValue 64 (bits_of 64 (long_in v)) = ap (apply_extension I (bits_op k)) p.0 ∙ its_bits k (long_in v) l in
      let y : apply_extension I (bits_op k) w ≡ BitVecValue 64 (bits_of 64 (long_in w)) = ap (apply_extension I (bits_op k)) q.0 ∙ its_bits k (long_in w) l in
      p.0 ∙ (ap (λ z. ExtensionValue (long_value k z)) (same_long (long_in v) (long_in w) p.1 q.1 (ap number (sym x ∙ (e ∙ y)))) ∙ sym q.0)

  -- ---- IP ranges

  abbrev prefix_in : Value → Option ℕ
  prefix_in (SomeValue v) = Some (number v)
  prefix_in v = None

  its_prefix : (n : ℕ) (p : Option ℕ) → prefix_in (prefix_value n p) ≡ p
  its_prefix n None = refl
  its_prefix n (Some k) = refl

  same_prefix : (n : ℕ) (p q : Option ℕ) → prefix_value n p ≡ prefix_value n q → p ≡ q
  same_prefix n p q e = sym (its_prefix n p) ∙ (ap prefix_in e ∙ its_prefix n q)

  v4_same : (v w : Value) → IsShaped (ExtensionType IpAddrKind) v → IsShaped (ExtensionType IpAddrKind) w → truth (apply_extension I IpIsV4Op v) ≡ true → truth (apply_extension I IpIsV4Op w) ≡ true → apply_extension I IpAddrV4Op v ≡ apply_extension I IpAddrV4Op w → apply_extension I IpPrefixV4Op v ≡ apply_extension I IpPrefixV4Op w → v ≡ w
  v4_same (ExtensionValue (Ipv4Of a p)) (ExtensionValue (Ipv4Of b q)) h k e f x y = let s : a ≡ b = ap number x in let t : p ≡ q = same_prefix 5 p q y in λ i. ExtensionValue (Ipv4Of (s i) (t i))
  v4_same (ExtensionValue (Ipv4Of a p)) (ExtensionValue (Ipv6Of b q)) h k e f x y = cc
  v4_same (ExtensionValue (Ipv4Of a p)) w h k e f x y = elim k [ ]
  v4_same (ExtensionValue (Ipv6Of a p)) w h k e f x y = cc
  v4_same v w h k e f x y = elim h [ ]

  v6_same : (v w : Value) → IsShaped (ExtensionType IpAddrKind) v → IsShaped (ExtensionType IpAddrKind) w → apply_extension I IpAddrV6Op v ≡ apply_extension I IpAddrV6Op w → apply_extension I IpPrefixV6Op v ≡ apply_extension I IpPrefixV6Op w → (truth (apply_extension I IpIsV4Op v) || (truth (apply_extension I IpIsV4Op w) || (value_eq v w || false))) ≡ true
  v6_same (ExtensionValue (Ipv4Of a p)) w h k x y = refl
  v6_same (ExtensionValue (Ipv6Of a p)) (ExtensionValue (Ipv4Of b q)) h k x y = refl
  v6_same (ExtensionValue (Ipv6Of a p)) (ExtensionValue (Ipv6Of b q)) h k x y = let s : a ≡ b = ap number x in let t : p ≡ q = same_prefix 7 p q y in is_same (ExtensionValue (Ipv6Of a p)) (ExtensionValue (Ipv6Of b q)) (λ i. ExtensionValue (Ipv6Of (s i) (t i)))
  v6_same (ExtensionValue (Ipv6Of a p)) w h k x y = elim k [ ]
  v6_same v w h k x y = elim h [ ]

pub extensions_are_valid : (enums : Enums) (roots : List PlainTerm) → ExtensionsAreValid enums roots
extensions_are_valid enums roots = record {
  decimals = λ t u s I g h. is_same _ _ (same_of_bits I DecimalKind (meaning I t) (meaning I u) tt (s.0 I g) (s.1 I g) (same_value (apply_extension I DecimalValOp (meaning I t)) (apply_extension I DecimalValOp (meaning I u)) h.0));
  datetimes = λ t u s I g h. is_same _ _ (same_of_bits I DatetimeKind (meaning I t) (meaning I u) tt (s.0 I g) (s.1 I g) (same_value (apply_extension I DatetimeValOp (meaning I t)) (apply_extension I DatetimeValOp (meaning I u)) h.0));
  durations = λ t u s I g h. is_same _ _ (same_of_bits I DurationKind (meaning I t) (meaning I u) tt (s.0 I g) (s.1 I g) (same_value (apply_extension I DurationValOp (meaning I t)) (apply_extension I DurationValOp (meaning I u)) h.0));
  v4 = λ t u s I g h. is_same _ _ (v4_same I (meaning I t) (meaning I u) (s.0 I g) (s.1 I g) h.0 h.1.0 (same_value (apply_extension I IpAddrV4Op (meaning I t)) (apply_extension I IpAddrV4Op (meaning I u)) h.1.1.0) (same_value (apply_extension I IpPrefixV4Op (meaning I t)) (apply_extension I IpPrefixV4Op (meaning I u)) h.1.1.1.0));
  v6 = λ t u s I g h. v6_same I (meaning I t) (meaning I u) (s.0 I g) (s.1 I g) (same_value (apply_extension I IpAddrV6Op (meaning I t)) (apply_extension I IpAddrV6Op (meaning I u)) h.0) (same_value (apply_extension I IpPrefixV6Op (meaning I t)) (apply_extension I IpPrefixV6Op (meaning I u)) h.1.0);
  datetime_bits = λ b s I g h. let p = bits_form 64 (meaning I b) (s I g) in is_same _ _ (ap (BitVecValue 64) (signed_has_its_bits 64 (number (meaning I b)) p.1) ∙ sym p.0);
  duration_bits = λ b s I g h. let p = bits_form 64 (meaning I b) (s I g) in is_same _ _ (ap (BitVecValue 64) (signed_has_its_bits 64 (number (meaning I b)) p.1) ∙ sym p.0);
}
