-- The operators on bitvectors give numbers of the width.
use Rattle.std.proofs.Common.{◌≡◌, ℕ, ◌+◌, ◌-◌, ◌*◌, ◌/◌, ◌%◌, ◌^◌, ◌<◌, ◌≤◌, Bool, true, false, refl, arith}
use Rattle.std.specs.Prelude.{cond, nat_lt, ◌==◌, ℤ, pos, negsuc}
use Rattle.std.proofs.Math.Nat.{mod-lt, mod-le, div-le_self}
use Rattle.std.proofs.Math.Pow.{pow_mono}
use Rattle.std.proofs.lemmas.Bool.{leb-true}
use Rattle.law_numbers.specs.BitVectors.{is_negative, bits_of, bvadd, bvsub, bvmul, bvudiv, bvurem, magnitude, negated_if, bvsdiv, bvsrem, signed_modulus, bvsmod, bvshl, bvlshr}

pub positive : (n : ℕ) → 0 < 2 ^ n
positive n = pow_mono {i = 0} {j = n} (omega arith)

pub below : (n a : ℕ) → a % 2 ^ n < 2 ^ n
below n a = mod-lt a (positive n)

pub wider : (n k a : ℕ) → a < 2 ^ n → a < 2 ^ (n + k)
wider n k a h = let p : 2 ^ n ≤ 2 ^ (n + k) = pow_mono (omega arith) in omega arith

pub bits_of-below : (n : ℕ) (z : ℤ) → bits_of n z < 2 ^ n
bits_of-below n (pos a) = below n a
bits_of-below n (negsuc a) = let p : 0 < 2 ^ n = positive n in omega arith

cond-below : (b : Bool) (x y m : ℕ) → x < m → y < m → cond b x y < m
cond-below true x y m p q = p
cond-below false x y m p q = q

magnitude-at : (n a : ℕ) (b : Bool) → is_negative n a ≡ b → a < 2 ^ n → cond b (2 ^ n - a) a < 2 ^ n
magnitude-at n a true e h = let p : 2 ^ n ≤ 2 * a = leb-true (2 ^ n) (2 * a) e in omega arith
magnitude-at n a false e h = h

pub magnitude-below : (n a : ℕ) → a < 2 ^ n → magnitude n a < 2 ^ n
magnitude-below n a h = magnitude-at n a (is_negative n a) refl h

negated-below : (b : Bool) (n a : ℕ) → a < 2 ^ n → negated_if b n a < 2 ^ n
negated-below true n a h = below n (2 ^ n - a)
negated-below false n a h = h

pub bvudiv-below : (n a b : ℕ) → a < 2 ^ n → b < 2 ^ n → bvudiv n a b < 2 ^ n
bvudiv-below n a b h k =
    let p : 0 < 2 ^ n = positive n in
    let q : a / b ≤ a = div-le_self a b in
    cond-below (b == 0) (2 ^ n - 1) (a / b) (2 ^ n) (omega arith) (omega arith)

pub bvurem-below : (n a b : ℕ) → a < 2 ^ n → b < 2 ^ n → bvurem n a b < 2 ^ n
bvurem-below n a b h k = let q : a % b ≤ a = mod-le a b in cond-below (b == 0) a (a % b) (2 ^ n) h (omega arith)

pub bvadd-below : (n a b : ℕ) → a < 2 ^ n → b < 2 ^ n → bvadd n a b < 2 ^ n
bvadd-below n a b h k = below n (a + b)

pub bvsub-below : (n a b : ℕ) → a < 2 ^ n → b < 2 ^ n → bvsub n a b < 2 ^ n
bvsub-below n a b h k = below n (a + (2 ^ n - b))

pub bvmul-below : (n a b : ℕ) → a < 2 ^ n → b < 2 ^ n → bvmul n a b < 2 ^ n
bvmul-below n a b h k = below n (a * b)

pub bvsdiv-below : (n a b : ℕ) → a < 2 ^ n → b < 2 ^ n → bvsdiv n a b < 2 ^ n
bvsdiv-below n a b h k = negated-below _ n _ (bvudiv-below n (magnitude n a) (magnitude n b) (magnitude-below n a h) (magnitude-below n b k))

pub bvsrem-below : (n a b : ℕ) → a < 2 ^ n → b < 2 ^ n → bvsrem n a b < 2 ^ n
bvsrem-below n a b h k = negated-below _ n _ (bvurem-below n (magnitude n a) (magnitude n b) (magnitude-below n a h) (magnitude-below n b k))

modulus-below : (s t : Bool) (n u b : ℕ) → u < 2 ^ n → signed_modulus s t n u b < 2 ^ n
modulus-below false false n u b h = h
modulus-below true false n u b h = below n (b + (2 ^ n - u))
modulus-below false true n u b h = below n (u + b)
modulus-below true true n u b h = below n (2 ^ n - u)

pub bvsmod-below : (n a b : ℕ) → a < 2 ^ n → b < 2 ^ n → bvsmod n a b < 2 ^ n
bvsmod-below n a b h k =
    cond-below (bvurem n (magnitude n a) (magnitude n b) == 0) 0 (signed_modulus (is_negative n a) (is_negative n b) n (bvurem n (magnitude n a) (magnitude n b)) b) (2 ^ n) (positive n) (modulus-below (is_negative n a) (is_negative n b) n (bvurem n (magnitude n a) (magnitude n b)) b (bvurem-below n (magnitude n a) (magnitude n b) (magnitude-below n a h) (magnitude-below n b k)))

shifted : (t : Bool) (x m : ℕ) → x < m → 0 < m → (elim t [ true ↦ x | false ↦ 0 ]) < m
shifted true x m p q = p
shifted false x m p q = q

pub bvshl-below : (n a b : ℕ) → a < 2 ^ n → b < 2 ^ n → bvshl n a b < 2 ^ n
bvshl-below n a b h k = shifted (nat_lt b n) ((a * 2 ^ b) % 2 ^ n) (2 ^ n) (below n (a * 2 ^ b)) (positive n)

pub bvlshr-below : (n a b : ℕ) → a < 2 ^ n → b < 2 ^ n → bvlshr n a b < 2 ^ n
bvlshr-below n a b h k = let q : a / 2 ^ b ≤ a = div-le_self a (2 ^ b) in shifted (nat_lt b n) (a / 2 ^ b) (2 ^ n) (omega arith) (positive n)
