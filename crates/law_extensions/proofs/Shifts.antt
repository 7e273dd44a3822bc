-- Addresses with their free bits cleared, and set, by shifts.
use Rattle.std.proofs.Common.{◌≡◌, ℕ, ◌+◌, ◌-◌, ◌*◌, ◌/◌, ◌%◌, ◌^◌, ◌<◌, ◌≤◌, true, false, refl, ap, sym, ◌∙◌, arith, inl, inr}
use Rattle.std.proofs.Math.Nat.{mod-eq_of_lt, mod_self, add-mod_left, div-mul-le_self, div-eq_of_lt, div-lt_iff_lt-mul, mul-le-mul_right, zero-mul, zero-mod}
use Rattle.std.proofs.Math.Pow.{pow_mono}
use Rattle.std.proofs.lemmas.Bool.{cases_lt, lt-ltb, le-ltb}
use Rattle.std.proofs.lemmas.Nat.{pow_pos, pow-add}
use Rattle.law_numbers.specs.BitVectors.{bvadd, bvlshr, bvshl, bvsub}

-- shifts by fewer places than the width, and by the width and more
shl_near : (n a f : ℕ) → f < n → bvshl n a f ≡ (a * 2 ^ f) % 2 ^ n
shl_near n a f h = ap (λ t. elim t [ true ↦ (a * 2 ^ f) % 2 ^ n | false ↦ 0 ]) (lt-ltb f n h)

lshr_near : (n a f : ℕ) → f < n → bvlshr n a f ≡ a / 2 ^ f
lshr_near n a f h = ap (λ t. elim t [ true ↦ a / 2 ^ f | false ↦ 0 ]) (lt-ltb f n h)

shl_far : (n a f : ℕ) → n ≤ f → bvshl n a f ≡ 0
shl_far n a f h = ap (λ t. elim t [ true ↦ (a * 2 ^ f) % 2 ^ n | false ↦ 0 ]) (le-ltb f n h)

-- a block of 2 to the f addresses ends within the addresses of n bits
pub block_fits : (n a f : ℕ) → a < 2 ^ n → f ≤ n → a / 2 ^ f * 2 ^ f + 2 ^ f ≤ 2 ^ n
block_fits n a f small le =
    let some : 0 < 2 ^ f = pow_pos f in
    let e : n ≡ (n - f) + f = omega arith in
    let parts : 2 ^ n ≡ 2 ^ (n - f) * 2 ^ f = ap (λ x. 2 ^ x) e ∙ pow-add 2 (n - f) f in
    let few : a / 2 ^ f < 2 ^ (n - f) = (div-lt_iff_lt-mul some).1 (omega arith) in
    let most : (a / 2 ^ f + 1) * 2 ^ f ≤ 2 ^ (n - f) * 2 ^ f = mul-le-mul_right (2 ^ f) (omega arith) in
    omega arith

-- the whole of n bits is free
nothing_left : (n a f : ℕ) → a < 2 ^ n → n ≤ f → a / 2 ^ f * 2 ^ f ≡ 0
nothing_left n a f small le =
    let wide : 2 ^ n ≤ 2 ^ f = pow_mono {i = n} {j = f} le in
    let none : a / 2 ^ f ≡ 0 = div-eq_of_lt (omega arith) in
    ap (λ q. q * 2 ^ f) none ∙ zero-mul (2 ^ f)

pub lowest_by_shifts : (n a f : ℕ) → a < 2 ^ n → f ≤ n → bvshl n (bvlshr n a f) f ≡ a / 2 ^ f * 2 ^ f
lowest_by_shifts n a f small le =
    elim (cases_lt f n) [
      | inl lt ↦
          let less : a / 2 ^ f * 2 ^ f ≤ a = div-mul-le_self a (2 ^ f) in
          shl_near n (bvlshr n a f) f lt ∙ ap (λ q. (q * 2 ^ f) % 2 ^ n) (lshr_near n a f lt) ∙ mod-eq_of_lt (omega arith)
      | inr wide ↦ shl_far n (bvlshr n a f) f wide ∙ sym (nothing_left n a f small wide)
    ]

-- one less, of a number from 1 to m taken modulo m
one_less : (m x : ℕ) → 0 < x → x ≤ m → (x % m + (m - 1)) % m ≡ x - 1
one_less m x some most =
    elim (cases_lt x m) [
      | inl lt ↦
          let e : x % m ≡ x = mod-eq_of_lt lt in
          let moved : x + (m - 1) ≡ m + (x - 1) = omega arith in
          ap (λ y. (y + (m - 1)) % m) e ∙ ap (λ y. y % m) moved ∙ add-mod_left m (x - 1) ∙ mod-eq_of_lt (omega arith)
      | inr wide ↦
          let same : x ≡ m = omega arith in
          let e : x % m ≡ 0 = ap (λ y. y % m) same ∙ mod_self m in
          ap (λ y. (y + (m - 1)) % m) e ∙ mod-eq_of_lt (omega arith) ∙ omega arith
    ]

-- from the lowest address
highest_from : (n a f low : ℕ) → low ≡ a / 2 ^ f * 2 ^ f → a < 2 ^ n → f ≤ n → bvsub n (bvadd n low (bvshl n 1 f)) 1 ≡ low + (2 ^ f - 1)
highest_from n a f low e small le =
    elim (cases_lt f n) [
      | inl lt ↦
          let some : 0 < 2 ^ f = pow_pos f in
          let fits : a / 2 ^ f * 2 ^ f + 2 ^ f ≤ 2 ^ n = block_fits n a f small le in
          let wider : 2 ^ (f + 1) ≤ 2 ^ n = pow_mono {i = f + 1} {j = n} (omega arith) in
          let twice : 2 ^ (f + 1) ≡ 2 ^ f * 2 ^ 1 = pow-add 2 f 1 in
          let block : bvshl n 1 f ≡ 2 ^ f = shl_near n 1 f lt ∙ mod-eq_of_lt (omega arith) ∙ omega arith in
          ap (λ y. bvsub n (bvadd n low y) 1) block ∙ one_less (2 ^ n) (low + 2 ^ f) (omega arith) (omega arith) ∙ omega arith
      | inr wide ↦
          let all : f ≡ n = omega arith in
          let powers : 2 ^ f ≡ 2 ^ n = ap (λ y. 2 ^ y) all in
          let none : low ≡ 0 = e ∙ nothing_left n a f small wide in
          let some : 0 < 2 ^ n = pow_pos n in
          ap (λ y. bvsub n (bvadd n low y) 1) (shl_far n 1 f wide) ∙ ap (λ y. bvsub n (bvadd n y 0) 1) none ∙ ap (λ y. (y + (2 ^ n - 1)) % 2 ^ n) (zero-mod (2 ^ n)) ∙ mod-eq_of_lt (omega arith) ∙ omega arith
    ]

pub highest_by_shifts : (n a f : ℕ) → a < 2 ^ n → f ≤ n → bvsub n (bvadd n (bvshl n (bvlshr n a f) f) (bvshl n 1 f)) 1 ≡ a / 2 ^ f * 2 ^ f + (2 ^ f - 1)
highest_by_shifts n a f small le = ap (λ y. bvsub n (bvadd n y (bvshl n 1 f)) 1) (lowest_by_shifts n a f small le) ∙ highest_from n a f (a / 2 ^ f * 2 ^ f) refl small le
