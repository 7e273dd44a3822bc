-- When one range of addresses lies in another.
use Rattle.std.proofs.Common.{◌≡◌, ℕ, ◌+◌, ◌-◌, ◌*◌, ◌/◌, ◌^◌, ◌<◌, ◌≤◌, Bool, refl, sym, ap, ◌∙◌, subst, arith, inl, inr}
use Rattle.std.specs.Prelude.{IsTrue, ◌↔◌}
use Rattle.std.proofs.Math.Nat.{div-div-eq-div-mul, add-div_right, div-lt_iff_lt-mul, mul-le-mul_right}
use Rattle.std.proofs.Math.Pow.{pow-lt}
use Rattle.std.proofs.lemmas.Nat.{pow_pos, pow-add, div-mul-add}
use Rattle.std.proofs.lemmas.Bool.{cases_lt}
use Rattle.smt_bits.specs.BitVec.{width_of, number_of}
use Rattle.smt_bits.specs.declared.bitvec.BitVec.{BitVec}
use Rattle.smt_ext.specs.IpRanges.{Range, address_bits, free_bits, LiesIn}

-- more free bits are a quotient of the quotient
coarser : (a h k : ℕ) → h ≤ k → a / 2 ^ k ≡ a / 2 ^ h / 2 ^ (k - h)
coarser a h k le =
    let e : h + (k - h) ≡ k = omega arith in
    sym (div-div-eq-div-mul a (2 ^ h) (2 ^ (k - h)) ∙ ap (λ x. a / x) (sym (pow-add 2 h (k - h))) ∙ ap (λ x. a / 2 ^ x) e)

-- addresses with one quotient by 2 to the h have one by 2 to the k
within : (s o h k : ℕ) → h ≤ k → s / 2 ^ k ≡ o / 2 ^ k → (a : ℕ) → a / 2 ^ h ≡ s / 2 ^ h → a / 2 ^ k ≡ o / 2 ^ k
within s o h k le outer a inner = coarser a h k le ∙ ap (λ q. q / 2 ^ (k - h)) inner ∙ sym (coarser s h k le) ∙ outer

abbrev Each : ℕ → ℕ → ℕ → ℕ → ℕ → Type 0
Each n s o h k = (a : ℕ) → a < 2 ^ n → a / 2 ^ h ≡ s / 2 ^ h → a / 2 ^ k ≡ o / 2 ^ k

-- a block with more free bits has two addresses with different quotients
not_wider : (n s o h k : ℕ) → k < h → h ≤ n → s < 2 ^ n → Each n s o h k → ⊥
not_wider n s o h k lt le small each =
    let q = s / 2 ^ h in
    let some_h : 0 < 2 ^ h = pow_pos h in
    let some_k : 0 < 2 ^ k = pow_pos k in
    let less : 2 ^ k < 2 ^ h = pow-lt lt in
    let e : n ≡ (n - h) + h = omega arith in
    let parts : 2 ^ n ≡ 2 ^ (n - h) * 2 ^ h = ap (λ x. 2 ^ x) e ∙ pow-add 2 (n - h) h in
    let few : q < 2 ^ (n - h) = (div-lt_iff_lt-mul some_h).1 (omega arith) in
    let most : (q + 1) * 2 ^ h ≤ 2 ^ (n - h) * 2 ^ h = mul-le-mul_right (2 ^ h) (omega arith) in
    let first = each (q * 2 ^ h + 0) (omega arith) (div-mul-add q (2 ^ h) 0 some_h) in
    let second = each (q * 2 ^ h + 2 ^ k) (omega arith) (div-mul-add q (2 ^ h) (2 ^ k) less) in
    let step = add-div_right (q * 2 ^ h + 0) some_k in
    let same : (q * 2 ^ h + 0 + 2 ^ k) / 2 ^ k ≡ (q * 2 ^ h + 2 ^ k) / 2 ^ k = ap (λ x. x / 2 ^ k) (omega arith) in
    omega arith

must_share : (n s o h k : ℕ) → h ≤ n → s < 2 ^ n → Each n s o h k → (h ≤ k) × (s / 2 ^ k ≡ o / 2 ^ k)
must_share n s o h k le small each =
    elim (cases_lt k h) [
      | inl lt ↦ absurd (not_wider n s o h k lt le small each)
      | inr wide ↦ (wide, each s small refl)
    ]

pub LiesIn-from : (r t : Range) → r.family ≡ t.family → free_bits r ≤ free_bits t → r.address / 2 ^ free_bits t ≡ t.address / 2 ^ free_bits t → LiesIn r t
LiesIn-from r t same le shared = record {
  one_family = same;
  every =
      λ a h. record {
        is_address = subst (λ f. a < 2 ^ address_bits f) same h.is_address;
        has_prefix = within r.address t.address (free_bits r) (free_bits t) le shared a h.has_prefix;
      };
}

pub LiesIn-shares : (r t : Range) → r.address < 2 ^ address_bits r.family → LiesIn r t → (free_bits r ≤ free_bits t) × (r.address / 2 ^ free_bits t ≡ t.address / 2 ^ free_bits t)
LiesIn-shares r t small h =
    must_share (address_bits r.family) r.address t.address (free_bits r) (free_bits t) (omega arith) small
    (λ a lt e. (h.every a (record { is_address = lt; has_prefix = e })).has_prefix)

-- the test of numbers is the test of ranges
pub test_of_ranges : (test : Bool) (r t : Range) (a o h k : ℕ) → a ≡ r.address → o ≡ t.address → h ≡ free_bits r → k ≡ free_bits t → r.family ≡ t.family → r.address < 2 ^ address_bits r.family → IsTrue test ↔ ((h ≤ k) × (a / 2 ^ k ≡ o / 2 ^ k)) → IsTrue test ↔ LiesIn r t
test_of_ranges test r t a o h k ea eo eh ek same small says = (
  λ yes.
      let p = says.0 yes in
      let le : free_bits r ≤ free_bits t = omega (arith, p.0) in
      let shared = ap (λ x. x / 2 ^ free_bits t) (sym ea) ∙ ap (λ x. a / 2 ^ x) (sym ek) ∙ p.1 ∙ ap (λ x. o / 2 ^ x) ek ∙ ap (λ x. x / 2 ^ free_bits t) eo in
      LiesIn-from r t same le shared,
  λ lies.
      let p = LiesIn-shares r t small lies in
      let le : h ≤ k = omega (arith, p.0) in
      let shared = ap (λ x. a / 2 ^ x) ek ∙ ap (λ x. x / 2 ^ free_bits t) ea ∙ p.1 ∙ ap (λ x. x / 2 ^ free_bits t) (sym eo) ∙ ap (λ x. o / 2 ^ x) (sym ek) in
      says.1 (le, shared),
)

-- the number of bits of a known width
pub below : (bits : BitVec) (n : ℕ) → width_of bits ≡ n → number_of bits < 2 ^ n
below bits n e =
    let b : number_of bits < 2 ^ width_of bits = bits.below_width in
    let same : 2 ^ width_of bits ≡ 2 ^ n = ap (λ x. 2 ^ x) e in
    omega arith
