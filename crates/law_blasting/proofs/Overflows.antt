-- Sums that leave the signed range.
use Rattle.std.proofs.Common.{◌≡◌, ℕ, suc, ◌+◌, ◌-◌, ◌*◌, ◌^◌, ◌<◌, Bool, true, false, cond, ◌||◌, List, [], ◌∷◌, length, refl, sym, ap, ◌∙◌, subst, arith, mul-one, pow-suc}
use Rattle.std.specs.Prelude.{not, ℤ, pos, negsuc, ◌+ℤ◌, ◌-ℤ◌, ◌<ℤ◌, ◌≤ℤ◌, neg_ℤ, int_lt, int_le}
use Rattle.std.specs.Bool.{beq}
use Rattle.std.proofs.lemmas.Int.{ints}
use Rattle.law_numbers.specs.BitVectors.{signed}
use Rattle.law_blasting.specs.Circuits.{truth_gates, weight, number, carry, carries_differ}
use Rattle.law_blasting.specs.CircuitLaws.{SumsOverflow}
use Rattle.law_blasting.proofs.Sums.{added_bit, higher, weight_small}
use Rattle.law_blasting.proofs.Signs.{top, low, number_parts, low_small, negative_is, signed_is}

-- ---- what is carried into the highest place

record Carried (x : Bool) (xs : List Bool) (y : Bool) (ys : List Bool) (c : Bool) : Type 0 where
  pub into : Bool
  pub rest : ℕ
  pub small : rest < 2 ^ length xs
  pub whole : low x xs + low y ys + weight c ≡ rest + weight into * 2 ^ length xs
  pub differ : carries_differ truth_gates (x ∷ xs) (y ∷ ys) c ≡ not (beq into (carry truth_gates (top x xs) (top y ys) into))

carried : (x : Bool) (xs : List Bool) (y : Bool) (ys : List Bool) (c : Bool) → length xs ≡ length ys → Carried x xs y ys c
carried x [] y [] c e = record { into = c; rest = 0; small = omega arith; whole = omega (arith, mul-one (weight c)); differ = refl }
carried x [] y (w ∷ ys) c e = absurd (omega (arith, e))
carried x (z ∷ xs) y [] c e = absurd (omega (arith, e))
carried x (z ∷ xs) y (w ∷ ys) c e =
    let r = carried z xs w ys (carry truth_gates x y c) (omega (arith, e)) in
    let b = added_bit x y c in
    record {
      into = r.into;
      rest = weight (beq (beq x y) c) + 2 * r.rest;
      small = omega (arith, r.small, weight_small (beq (beq x y) c), pow-suc 2 (length xs));
      whole = omega (arith, r.whole, b, higher r.into (length xs));
      differ = r.differ;
    }

-- ---- the signed range, with h for half of the width's power

pub value_is : (p h l a : ℕ) (s : Bool) → p ≡ 2 * h → l < h → a ≡ l + weight s * h → cond s (negsuc (p - 1 - a)) (pos a) ≡ pos l -ℤ pos (weight s * h)
value_is p h l a true e f g = omega (arith, ints, e, f, g)
value_is p h l a false e f g = omega (arith, ints, e, f, g)

pub inside : (z : ℤ) (h : ℕ) (t u : Bool) → int_lt z (neg_ℤ (pos h)) ≡ t → int_le (pos h) z ≡ u → neg_ℤ (pos h) ≤ℤ z → z <ℤ pos h → (t || u) ≡ false
inside z h true u e f l g = absurd (omega (arith, ints, e, l))
inside z h false true e f l g = absurd (omega (arith, ints, f, g))
inside z h false false e f l g = refl

pub above : (z : ℤ) (h : ℕ) (t u : Bool) → int_lt z (neg_ℤ (pos h)) ≡ t → int_le (pos h) z ≡ u → pos h ≤ℤ z → (t || u) ≡ true
above z h true u e f l = refl
above z h false true e f l = refl
above z h false false e f l = absurd (omega (arith, ints, f, l))

pub below : (z : ℤ) (h : ℕ) (t u : Bool) → int_lt z (neg_ℤ (pos h)) ≡ t → int_le (pos h) z ≡ u → z <ℤ neg_ℤ (pos h) → (t || u) ≡ true
below z h true u e f l = refl
below z h false u e f l = absurd (omega (arith, ints, e, l))

-- l and m are the numbers below the highest bits s and t, and c is carried out of them
tested : (h l m r : ℕ) (s t c : Bool) (z : ℤ) → l < h → m < h → r < h → l + m ≡ r + weight c * h → z ≡ (pos l -ℤ pos (weight s * h)) +ℤ (pos m -ℤ pos (weight t * h))
    → not (beq c (carry truth_gates s t c)) ≡ (int_lt z (neg_ℤ (pos h)) || int_le (pos h) z)
tested h l m r false false false z f g k e i = sym (inside z h _ _ refl refl (omega (arith, ints, f, g, k, e, i)) (omega (arith, ints, f, g, k, e, i)))
tested h l m r false false true z f g k e i = sym (above z h _ _ refl refl (omega (arith, ints, f, g, k, e, i)))
tested h l m r true true true z f g k e i = sym (inside z h _ _ refl refl (omega (arith, ints, f, g, k, e, i)) (omega (arith, ints, f, g, k, e, i)))
tested h l m r true true false z f g k e i = sym (below z h _ _ refl refl (omega (arith, ints, f, g, k, e, i)))
tested h l m r true false false z f g k e i = sym (inside z h _ _ refl refl (omega (arith, ints, f, g, k, e, i)) (omega (arith, ints, f, g, k, e, i)))
tested h l m r true false true z f g k e i = sym (inside z h _ _ refl refl (omega (arith, ints, f, g, k, e, i)) (omega (arith, ints, f, g, k, e, i)))
tested h l m r false true false z f g k e i = sym (inside z h _ _ refl refl (omega (arith, ints, f, g, k, e, i)) (omega (arith, ints, f, g, k, e, i)))
tested h l m r false true true z f g k e i = sym (inside z h _ _ refl refl (omega (arith, ints, f, g, k, e, i)) (omega (arith, ints, f, g, k, e, i)))

pub sums_overflow : SumsOverflow
sums_overflow [] ys k e f = absurd (omega (arith, e))
sums_overflow (x ∷ xs) [] k e f = absurd (omega (arith, f))
sums_overflow (x ∷ xs) (y ∷ ys) k e f =
    let m : length xs ≡ k = omega (arith, e) in
    let n : length ys ≡ k = omega (arith, f) in
    let w : 2 ^ suc k ≡ 2 * 2 ^ k = omega (arith, pow-suc 2 k) in
    let lx : low x xs < 2 ^ k = subst (λ j. low x xs < 2 ^ j) m (low_small x xs) in
    let ly : low y ys < 2 ^ k = subst (λ j. low y ys < 2 ^ j) n (low_small y ys) in
    let ax : number (x ∷ xs) ≡ low x xs + weight (top x xs) * 2 ^ k = number_parts x xs ∙ ap (λ j. low x xs + weight (top x xs) * 2 ^ j) m in
    let ay : number (y ∷ ys) ≡ low y ys + weight (top y ys) * 2 ^ k = number_parts y ys ∙ ap (λ j. low y ys + weight (top y ys) * 2 ^ j) n in
    let r = carried x xs y ys false (m ∙ sym n) in
    let small : r.rest < 2 ^ k = subst (λ j. r.rest < 2 ^ j) m r.small in
    let whole : low x xs + low y ys ≡ r.rest + weight r.into * 2 ^ k = omega (arith, r.whole, ap (λ j. weight r.into * 2 ^ j) m) in
    let sx = signed_is (suc k) (number (x ∷ xs)) (top x xs) (negative_is (2 ^ suc k) (2 ^ k) (low x xs) (number (x ∷ xs)) (top x xs) _ refl w lx ax) ∙ value_is (2 ^ suc k) (2 ^ k) (low x xs) (number (x ∷ xs)) (top x xs) w lx ax in
    let sy = signed_is (suc k) (number (y ∷ ys)) (top y ys) (negative_is (2 ^ suc k) (2 ^ k) (low y ys) (number (y ∷ ys)) (top y ys) _ refl w ly ay) ∙ value_is (2 ^ suc k) (2 ^ k) (low y ys) (number (y ∷ ys)) (top y ys) w ly ay in
    let half : suc k - 1 ≡ k = omega arith in
    let z = signed (suc k) (number (x ∷ xs)) +ℤ signed (suc k) (number (y ∷ ys)) in
    r.differ ∙ tested (2 ^ k) (low x xs) (low y ys) r.rest (top x xs) (top y ys) r.into z lx ly small whole (ap (λ v. v +ℤ signed (suc k) (number (y ∷ ys))) sx ∙ ap (λ v. (pos (low x xs) -ℤ pos (weight (top x xs) * 2 ^ k)) +ℤ v) sy)
    ∙ ap (λ j. int_lt z (neg_ℤ (pos (2 ^ j))) || int_le (pos (2 ^ j)) z) (sym half)
