-- Clauses of quotients and remainders are valid.
use Rattle.std.proofs.Common.{◌≡◌, ◌+◌, ◌-◌, ◌*◌, ◌/◌, ◌%◌, ◌^◌, ◌<◌, ◌≤◌, ℕ, zero, suc, Bool, true, false, ◌||◌, arith, ap, refl, sym, ◌∙◌, mod-lt, mod-eq_of_lt, div-add-mod', div-mul-le_self, lt_of_lt_of_le, lt_of_le_of_lt}
use Rattle.std.specs.Prelude.{◌==◌, cond, nat_lt}
use Rattle.std.proofs.lemmas.Bool.Decides.{Decides-eqb, Decides-ltb}
use native.Mathlib.Nat.{pow-le-pow_right}
use Rattle.law_numbers.specs.BitVectors.{bvadd, bvmul, bvudiv, bvult, bvurem}
use Rattle.law_terms.proofs.ValueOrder.{values_decided}
use Rattle.law_terms.specs.Meaning.{meaning}
use Rattle.law_terms.specs.Operators.{number, width, to_bits, to_truth, truth}
use Rattle.law_terms.specs.Plain.{BitVecType}
use Rattle.law_terms.specs.Shapes.{IsShaped}
use Rattle.law_terms.specs.ValueOrder.{value_eq}
use Rattle.law_terms.specs.Values.{Value, BoolValue, BitVecValue, StringValue, EntityValue, ExtensionValue, NoneValue, SomeValue, RecordValue, SetValue}
use Rattle.law_clauses.specs.Quotients.{QuotientsAreValid}
use Rattle.law_clauses.proofs.Sequents.{or_behind, or_one}
use Rattle.law_clauses.proofs.Structure.{is_same, same_value}

pub bits_form : (n : ℕ) (v : Value) → IsShaped (BitVecType n) v → (v ≡ BitVecValue n (number v)) × (number v < 2 ^ n)
bits_form n (BitVecValue m a) h = (ap (λ k. BitVecValue k a) h.0, h.1)
bits_form n (BoolValue b) h = absurd h
bits_form n (StringValue s) h = absurd h
bits_form n (EntityValue e i) h = absurd h
bits_form n (ExtensionValue y) h = absurd h
bits_form n NoneValue h = absurd h
bits_form n (SomeValue v) h = absurd h
bits_form n (RecordValue fs) h = absurd h
bits_form n (SetValue vs) h = absurd h

positive : (b : ℕ) → (b == 0) ≡ false → 0 < b
positive zero e = cc
positive (suc b) e = omega arith

-- nothing is lost in twice the width
again : (n a b : ℕ) → a < 2 ^ n → (b == 0) ≡ false → a ≡ bvadd (n + n) (bvmul (n + n) (bvudiv n a b) b) (bvurem n a b)
again n a b l e =
    let wider : n ≤ n + n = omega arith in
    let two : 0 < 2 = omega arith in
    let small : a < 2 ^ (n + n) = lt_of_lt_of_le l (pow-le-pow_right two wider) in
    let p : a / b * b < 2 ^ (n + n) = lt_of_le_of_lt (div-mul-le_self a b) small in
    sym (ap (λ c. (((cond c (2 ^ n - 1) (a / b)) * b) % 2 ^ (n + n) + cond c a (a % b)) % 2 ^ (n + n)) e ∙ (ap (λ x. (x + a % b) % 2 ^ (n + n)) (mod-eq_of_lt p) ∙ (ap (λ x. x % 2 ^ (n + n)) (div-add-mod' a b) ∙ mod-eq_of_lt small)))

less : (n a b : ℕ) → (b == 0) ≡ false → nat_lt (bvurem n a b) b ≡ true
less n a b e = ap (λ c. nat_lt (cond c a (a % b)) b) e ∙ (Decides-ltb (a % b) b).1 (mod-lt a (positive b e))

-- a divisor is zero, or something follows from its not being zero
zero_or : (n b : ℕ) (c : Bool) → ((b == 0) ≡ false → c ≡ true) → (value_eq (BitVecValue n b) (BitVecValue n 0) || (c || false)) ≡ true
zero_or n b c f = by (b == 0) refl
  where
    by : (t : Bool) → (b == 0) ≡ t → (value_eq (BitVecValue n b) (BitVecValue n 0) || (c || false)) ≡ true
    by true e = ap (λ x. x || (c || false)) ((values_decided (BitVecValue n b) (BitVecValue n 0)).1 (ap (BitVecValue n) ((Decides-eqb b 0).0 e)))
    by false e = or_behind (value_eq (BitVecValue n b) (BitVecValue n 0)) (c || false) (or_one c (f e))

abbrev pub wide_value : ℕ → Value → Value
wide_value n v = BitVecValue (width v + n) (number v)

-- the dividend made again, of two values
abbrev made : ℕ → Value → Value → Value
made n v w = to_bits bvadd (to_bits bvmul (wide_value n (to_bits bvudiv v w)) (wide_value n w)) (wide_value n (to_bits bvurem v w))

-- both values by their numbers
module _ (n : ℕ) (v w : Value) (p : v ≡ BitVecValue n (number v)) (q : w ≡ BitVecValue n (number w)) where
  pub by_numbers : (F : Value → Value → Bool) → F (BitVecValue n (number v)) (BitVecValue n (number w)) ≡ true → F v w ≡ true
  by_numbers F e = ap (λ x. F x w) p ∙ (ap (λ y. F (BitVecValue n (number v)) y) q ∙ e)

pub quotients_are_valid : QuotientsAreValid
quotients_are_valid enums roots n a b s = (
  λ I g h. is_same _ _ (ap (λ x. to_bits bvudiv x (meaning I b)) (bits_form n (meaning I a) (s.0 I g)).0 ∙ ap (to_bits bvudiv (BitVecValue n (number (meaning I a)))) (same_value (meaning I b) (BitVecValue n 0) h.0)),
  (
    λ I g h. is_same _ _ (ap (λ x. to_bits bvurem x (meaning I b)) (bits_form n (meaning I a) (s.0 I g)).0 ∙ (ap (to_bits bvurem (BitVecValue n (number (meaning I a)))) (same_value (meaning I b) (BitVecValue n 0) h.0) ∙ sym (bits_form n (meaning I a) (s.0 I g)).0)),
    (
      λ I g h.
          let v = bits_form n (meaning I a) (s.0 I g) in
          let w = bits_form n (meaning I b) (s.1 I g) in
          by_numbers n (meaning I a) (meaning I b) v.0 w.0 (λ x y. value_eq y (BitVecValue n 0) || (value_eq (wide_value n x) (made n x y) || false))
          (zero_or n (number (meaning I b)) _ (λ e. (values_decided _ _).1 (ap (BitVecValue (n + n)) (again n (number (meaning I a)) (number (meaning I b)) v.1 e)))),
      (
        λ I g h.
            let v = bits_form n (meaning I a) (s.0 I g) in
            let w = bits_form n (meaning I b) (s.1 I g) in
            by_numbers n (meaning I a) (meaning I b) v.0 w.0 (λ x y. value_eq y (BitVecValue n 0) || (truth (to_truth bvult (to_bits bvurem x y) y) || false))
            (zero_or n (number (meaning I b)) _ (λ e. less n (number (meaning I a)) (number (meaning I b)) e)),
        tt,
      ),
    ),
  ),
)
