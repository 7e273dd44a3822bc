-- A negation overflows exactly at the least value.
use Rattle.std.proofs.Common.{◌≡◌, ℕ, zero, suc, ◌-◌, ◌*◌, ◌^◌, ◌<◌, ◌≤◌, Bool, true, false, cond, ◌||◌, refl, sym, ap, ◌∙◌, subst, arith}
use Rattle.std.specs.Prelude.{nat_lt, nat_le, ◌==◌, pos, negsuc, neg_ℤ, int_lt, int_le}
use Rattle.std.proofs.lemmas.Bool.{leb-true, leb-false, ltb-true, eqb-true, eqb-false}
use Rattle.std.proofs.Math.Nat.{pow-succ'}
use Rattle.std.proofs.Math.Pow.{pow_mono}
use Rattle.law_numbers.specs.BitVectors as bits

ltb_off : (a b : ℕ) → b ≤ a → nat_lt a b ≡ false
ltb_off a b h = by (nat_lt a b) refl
  where
    by : (t : Bool) → nat_lt a b ≡ t → t ≡ false
    by false e = refl
    by true e = let l : a < b = ltb-true a b e in absurd (omega arith)

leb_same : (a b c d : ℕ) (p q : Bool) → nat_le a b ≡ p → (c == d) ≡ q → (a ≤ b → c ≡ d) → (c ≡ d → a ≤ b) → p ≡ q
leb_same a b c d true true e f h k = refl
leb_same a b c d false false e f h k = refl
leb_same a b c d true false e f h k = absurd (eqb-false c d f (h (leb-true a b e)))
leb_same a b c d false true e f h k = let l : a ≤ b = k (eqb-true c d f) in let m : b < a = leb-false a b e in absurd (omega arith)

-- h is half of the width's power
tested : (h a : ℕ) (b : Bool) → nat_le (2 * suc h) (2 * a) ≡ b → a < 2 * suc h
    → (int_lt (neg_ℤ (cond b (negsuc (2 * suc h - 1 - a)) (pos a))) (neg_ℤ (pos (suc h))) || int_le (pos (suc h)) (neg_ℤ (cond b (negsuc (2 * suc h - 1 - a)) (pos a)))) ≡ (a == suc h)
tested h a true e l =
    let p : 2 * suc h ≤ 2 * a = leb-true (2 * suc h) (2 * a) e in
    leb_same (suc h) (suc (2 * suc h - 1 - a)) a (suc h) (nat_le (suc h) (suc (2 * suc h - 1 - a))) (a == suc h) refl refl
    (λ (q : suc h ≤ suc (2 * suc h - 1 - a)). (let r : a ≡ suc h = omega arith in r)) (λ (q : a ≡ suc h). (let r : suc h ≤ suc (2 * suc h - 1 - a) = omega arith in r))
tested h zero false e l =
    leb_same (suc h) zero zero (suc h) (nat_le (suc h) zero) (zero == suc h) refl refl
    (λ (q : suc h ≤ zero). (let r : zero ≡ suc h = omega arith in r)) (λ (q : zero ≡ suc h). (let r : suc h ≤ zero = omega arith in r))
tested h (suc a) false e l =
    let p : 2 * suc a < 2 * suc h = leb-false (2 * suc h) (2 * suc a) e in
    ap (λ b. b || false) (ltb_off h a (omega arith)) ∙ sym (by (suc a == suc h) refl)
  where
    by : (t : Bool) → (suc a == suc h) ≡ t → t ≡ false
    by false f = refl
    by true f = let q : suc a ≡ suc h = eqb-true (suc a) (suc h) f in let p : 2 * suc a < 2 * suc h = leb-false (2 * suc h) (2 * suc a) e in absurd (omega arith)

-- with any words for the power and its half
tested_at : (p q a h : ℕ) → q ≡ suc h → p ≡ 2 * suc h → a < p
    → (int_lt (neg_ℤ (cond (nat_le p (2 * a)) (negsuc (p - 1 - a)) (pos a))) (neg_ℤ (pos q)) || int_le (pos q) (neg_ℤ (cond (nat_le p (2 * a)) (negsuc (p - 1 - a)) (pos a)))) ≡ (a == q)
tested_at p q a h e f l =
    subst (λ x. (int_lt (neg_ℤ (cond (nat_le x (2 * a)) (negsuc (x - 1 - a)) (pos a))) (neg_ℤ (pos q)) || int_le (pos q) (neg_ℤ (cond (nat_le x (2 * a)) (negsuc (x - 1 - a)) (pos a)))) ≡ (a == q)) (sym f)
    (subst (λ y. (int_lt (neg_ℤ (cond (nat_le (2 * suc h) (2 * a)) (negsuc (2 * suc h - 1 - a)) (pos a))) (neg_ℤ (pos y)) || int_le (pos y) (neg_ℤ (cond (nat_le (2 * suc h) (2 * a)) (negsuc (2 * suc h - 1 - a)) (pos a)))) ≡ (a == y)) (sym e)
    (tested h a (nat_le (2 * suc h) (2 * a)) refl (let m : a < 2 * suc h = omega arith in m)))

pub overflow_is : (n a : ℕ) → 1 ≤ n → a < 2 ^ n → bits.bvnego n a ≡ (a == 2 ^ (n - 1))
overflow_is zero a g l = absurd (omega arith)
overflow_is (suc m) a g l =
    let z : suc m - 1 ≡ m = omega arith in
    let q : 0 < 2 ^ (suc m - 1) = pow_mono {i = 0} {j = suc m - 1} (omega arith) in
    let w : 2 ^ suc m ≡ 2 * 2 ^ (suc m - 1) = pow-succ' 2 m ∙ ap (λ k. 2 * 2 ^ k) (sym z) in
    let e : 2 ^ (suc m - 1) ≡ suc (2 ^ (suc m - 1) - 1) = omega arith in
    tested_at (2 ^ suc m) (2 ^ (suc m - 1)) a (2 ^ (suc m - 1) - 1) e (w ∙ ap (λ k. 2 * k) e) l
