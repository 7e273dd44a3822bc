-- What the machine's operations on 128 bits leave in the low bits.
use Rattle.std.proofs.Common.{◌≡◌, ℕ, ◌+◌, ◌-◌, ◌*◌, ◌/◌, ◌%◌, ◌^◌, ◌<◌, ◌≤◌, ap, sym, ◌∙◌, arith}
use Rattle.std.specs.Prelude.{bit_and}
use Rattle.std.proofs.Math.Nat.{add-mul-mod_self_right, mod-lt}
use Rattle.std.proofs.Math.Pow.{mod-mod-pow, low, high_ones, pow_mono, pow_pos, shr_lt, split}
use Rattle.std.proofs.lemmas.Nat.{and_mask}
use Rattle.std.proofs.lemmas.Nat.Bits.{ones_shr}

-- the ones of the highest bits, shifted down to the lowest
pub ones_of : (n : ℕ) → n ≤ 128 → (2 ^ 128 - 1) / 2 ^ (128 - n) ≡ 2 ^ n - 1
ones_of n h =
    let k : 128 - n ≤ 128 = omega arith in
    let e : 128 - (128 - n) ≡ n = omega arith in
    ones_shr 128 (128 - n) k ∙ ap (λ m. 2 ^ m - 1) e

-- a number and the ones of n bits
pub masked : (a m n : ℕ) → m ≡ 2 ^ n - 1 → bit_and a m ≡ a % 2 ^ n
masked a m n e = ap (λ x. bit_and a x) e ∙ and_mask a n

-- a number modulo 2 to the 128, cut to n bits
pub cut : (a n : ℕ) → n ≤ 128 → a % 2 ^ 128 % 2 ^ n ≡ a % 2 ^ n
cut a n h =
    let e : 128 - n + n ≡ 128 = omega arith in
    ap (λ m. a % 2 ^ m % 2 ^ n) (sym e) ∙ mod-mod-pow a (128 - n) n

-- 2 to the 128 is a multiple of 2 to the n
whole : (n : ℕ) → n ≤ 128 → (2 ^ (128 - n) - 1) * 2 ^ n + 2 ^ n ≡ 2 ^ 128
whole n h =
    let e : 128 - n + n ≡ 128 = omega arith in
    let p : 2 ^ n ≤ 2 ^ (128 - n + n) = pow_mono (omega arith) in
    let q : 2 ^ (128 - n + n) ≡ 2 ^ 128 = ap (λ m. 2 ^ m) e in
    omega (arith, high_ones (128 - n) n)

-- a difference modulo 2 to the 128, cut to n bits
pub cut_difference : (a b n : ℕ) → n ≤ 128 → b < 2 ^ n → (a + (2 ^ 128 - b)) % 2 ^ 128 % 2 ^ n ≡ (a + (2 ^ n - b)) % 2 ^ n
cut_difference a b n h k =
    let e : a + (2 ^ 128 - b) ≡ (a + (2 ^ n - b)) + (2 ^ (128 - n) - 1) * 2 ^ n = omega (arith, whole n h) in
    cut (a + (2 ^ 128 - b)) n h ∙ ap (λ x. x % 2 ^ n) e ∙ add-mul-mod_self_right (a + (2 ^ n - b)) (2 ^ (128 - n) - 1) (2 ^ n)

-- the complement of a number, cut after a whole number of blocks
complement_parts : (A q P r : ℕ) → q ≤ A → r < P → (A * P + P) - 1 - (q * P + r) ≡ (A - q) * P + (P - 1 - r)
complement_parts A q P r h k =
    let e : A * P ≡ (q + (A - q)) * P = ap (λ x. x * P) (omega arith) in
    omega (arith, e)

-- the complement of a number of 128 bits, cut to n bits
pub cut_complement : (a n : ℕ) → n ≤ 128 → a < 2 ^ 128 → (2 ^ 128 - 1 - a) % 2 ^ n ≡ 2 ^ n - 1 - a % 2 ^ n
cut_complement a n h k =
    let e : 128 - n + n ≡ 128 = omega arith in
    let w : (2 ^ (128 - n) - 1) * 2 ^ n + 2 ^ n ≡ 2 ^ 128 = whole n h in
    let small : a < 2 ^ (128 - n + n) = rw e k in
    let q : a / 2 ^ n < 2 ^ (128 - n) = shr_lt (128 - n) n small in
    let r : a % 2 ^ n < 2 ^ n = mod-lt a (pow_pos n) in
    let s : a / 2 ^ n * 2 ^ n + a % 2 ^ n ≡ a = split a n in
    let d : 2 ^ 128 - 1 - a ≡ (2 ^ (128 - n) - 1 - a / 2 ^ n) * 2 ^ n + (2 ^ n - 1 - a % 2 ^ n) =
    ap (λ x. x - 1 - a) (sym w) ∙ ap (λ x. (2 ^ (128 - n) - 1) * 2 ^ n + 2 ^ n - 1 - x) (sym s) ∙ complement_parts (2 ^ (128 - n) - 1) (a / 2 ^ n) (2 ^ n) (a % 2 ^ n) (omega arith) r in
    ap (λ x. x % 2 ^ n) d ∙ low (2 ^ (128 - n) - 1 - a / 2 ^ n) n (omega arith)
