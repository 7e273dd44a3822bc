-- Shifts and concatenation at the machine's 128 bits.
use Rattle.std.proofs.Common.{◌≡◌, ℕ, ◌+◌, ◌*◌, ◌/◌, ◌%◌, ◌^◌, ◌<◌, ◌≤◌, Bool, true, false, refl, ap, sym, ◌∙◌, arith}
use Rattle.std.specs.Prelude.{bit_or, nat_lt}
use Rattle.std.proofs.Math.Nat.{mod-eq_of_lt, mul_comm, zero-mod, div-le_self}
use Rattle.std.proofs.Math.Pow.{pow-add}
use Rattle.std.proofs.lemmas.Nat.{shl_whole, or_shifted, mul-add-lt}
use Rattle.std.proofs.lemmas.Bool.{ltb-true, ltb-false}
use Rattle.law_numbers.specs.BitVectors.{bvshl, bvlshr, concat}
use Rattle.law_numbers.proofs.Masks.{cut}

near_at : (t : Bool) (n b x : ℕ) → nat_lt b n ≡ t → b < n → (elim t [ true ↦ x | false ↦ 0 ]) ≡ x
near_at true n b x e h = refl
near_at false n b x e h = absurd (let k : n ≤ b = ltb-false b n e in omega arith)

far_at : (t : Bool) (n b x : ℕ) → nat_lt b n ≡ t → n ≤ b → ◌≡◌ {A = ℕ} (elim t [ true ↦ x | false ↦ 0 ]) 0
far_at true n b x e h = absurd (let k : b < n = ltb-true b n e in omega arith)
far_at false n b x e h = refl

pub left_far : (n a b r : ℕ) → n ≤ b → r ≡ 0 % 2 ^ n → r ≡ bvshl n a b
left_far n a b r h e = e ∙ zero-mod (2 ^ n) ∙ sym (far_at (nat_lt b n) n b ((a * 2 ^ b) % 2 ^ n) refl h)

pub right_far : (n a b r : ℕ) → n ≤ b → r ≡ 0 % 2 ^ n → r ≡ bvlshr n a b
right_far n a b r h e = e ∙ zero-mod (2 ^ n) ∙ sym (far_at (nat_lt b n) n b (a / 2 ^ b) refl h)

pub left_near : (n a b p r : ℕ) → n ≤ 128 → p < n → p ≡ b → r ≡ a * 2 ^ p % 2 ^ 128 % 2 ^ n → r ≡ bvshl n a b
left_near n a b p r h k e q =
    let s : b < n = omega arith in
    q ∙ cut (a * 2 ^ p) n h ∙ ap (λ x. a * 2 ^ x % 2 ^ n) e ∙ sym (near_at (nat_lt b n) n b ((a * 2 ^ b) % 2 ^ n) refl s)

pub right_near : (n a b p r : ℕ) → a < 2 ^ n → p < n → p ≡ b → r ≡ a / 2 ^ p % 2 ^ n → r ≡ bvlshr n a b
right_near n a b p r h k e q =
    let s : b < n = omega arith in
    let d : a / 2 ^ p ≤ a = div-le_self a (2 ^ p) in
    q ∙ mod-eq_of_lt (omega arith) ∙ ap (λ x. a / 2 ^ x) e ∙ sym (near_at (nat_lt b n) n b (a / 2 ^ b) refl s)

-- numbers of l and m bits, one above the other
pub joined : (a b l m p : ℕ) → p ≡ m → a < 2 ^ l → b < 2 ^ m → l + m ≤ 128 → bit_or (a * 2 ^ p % 2 ^ 128) b ≡ concat m a b
joined a b l m p e h k s =
    ap (λ x. bit_or (a * 2 ^ x % 2 ^ 128) b) e ∙ ap (λ x. bit_or x b) (shl_whole a l m 128 h s) ∙ or_shifted a m b k

pub joined_below : (a b l m w : ℕ) → w ≡ l + m → a < 2 ^ l → b < 2 ^ m → concat m a b < 2 ^ w
joined_below a b l m w e h k =
    let f : a * 2 ^ m + b < 2 ^ m * 2 ^ l = mul-add-lt a (2 ^ m) b (2 ^ l) h k in
    let g : 2 ^ w ≡ 2 ^ m * 2 ^ l = ap (λ x. 2 ^ x) e ∙ pow-add 2 l m ∙ mul_comm (2 ^ l) (2 ^ m) in
    omega (arith, f, g)
