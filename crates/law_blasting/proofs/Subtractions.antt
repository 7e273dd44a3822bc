-- Differences that leave the signed range, and negations.
use Rattle.std.proofs.Common.{◌≡◌, ℕ, suc, ◌+◌, ◌-◌, ◌*◌, ◌%◌, ◌^◌, ◌<◌, ◌≤◌, Bool, true, false, ◌||◌, List, [], ◌∷◌, length, refl, sym, ap, ◌∙◌, subst, arith, mul-one, pow-suc}
use Rattle.std.specs.Prelude.{not, ℤ, pos, ◌-ℤ◌, neg_ℤ, int_lt, int_le, nat_le}
use Rattle.std.specs.Bool.{beq}
use Rattle.std.proofs.lemmas.Int.{ints}
use Rattle.std.proofs.lemmas.List.{length-replicate}
use Rattle.std.proofs.Math.Pow.{pow_pos}
use Rattle.std.proofs.lemmas.Bool.{leb-true}
use Rattle.law_numbers.specs.BitVectors.{signed, overflows}
use Rattle.law_blasting.specs.Circuits.{truth_gates, weight, number, borrow, borrows_differ, zeros}
use Rattle.law_blasting.specs.CircuitLaws.{DifferencesOverflow, NegationsAreTaken, NegationsOverflow}
use Rattle.law_blasting.proofs.Sums.{taken_bit, higher, weight_small, differences_are_taken}
use Rattle.law_blasting.proofs.Shifts.{zeros_number}
use Rattle.law_blasting.proofs.Signs.{top, low, number_parts, low_small, negative_is, signed_is}
use Rattle.law_blasting.proofs.Overflows.{value_is, inside, above, below}

-- ---- what is borrowed out of the places below the highest

record Borrowed (x : Bool) (xs : List Bool) (y : Bool) (ys : List Bool) (c : Bool) : Type 0 where
  pub into : Bool
  pub rest : ℕ
  pub small : rest < 2 ^ length xs
  pub whole : low x xs + weight into * 2 ^ length xs ≡ rest + low y ys + weight c
  pub differ : borrows_differ truth_gates (x ∷ xs) (y ∷ ys) c ≡ not (beq into (borrow truth_gates (top x xs) (top y ys) into))

borrowed : (x : Bool) (xs : List Bool) (y : Bool) (ys : List Bool) (c : Bool) → length xs ≡ length ys → Borrowed x xs y ys c
borrowed x [] y [] c e = record { into = c; rest = 0; small = omega arith; whole = omega (arith, mul-one (weight c)); differ = refl }
borrowed x [] y (w ∷ ys) c e = absurd (omega (arith, e))
borrowed x (z ∷ xs) y [] c e = absurd (omega (arith, e))
borrowed x (z ∷ xs) y (w ∷ ys) c e =
    let r = borrowed z xs w ys (borrow truth_gates x y c) (omega (arith, e)) in
    let b = taken_bit x y c in
    record {
      into = r.into;
      rest = weight (beq (beq x y) c) + 2 * r.rest;
      small = omega (arith, r.small, weight_small (beq (beq x y) c), pow-suc 2 (length xs));
      whole = omega (arith, r.whole, b, higher r.into (length xs));
      differ = r.differ;
    }

-- l and m are the numbers below the highest bits s and t, and c is borrowed from them
tested : (h l m r : ℕ) (s t c : Bool) (z : ℤ) → l < h → m < h → r < h → l + weight c * h ≡ r + m → z ≡ (pos l -ℤ pos (weight s * h)) -ℤ (pos m -ℤ pos (weight t * h))
    → not (beq c (borrow truth_gates s t c)) ≡ (int_lt z (neg_ℤ (pos h)) || int_le (pos h) z)
tested h l m r false false false z f g k e i = sym (inside z h _ _ refl refl (omega (arith, ints, f, g, k, e, i)) (omega (arith, ints, f, g, k, e, i)))
tested h l m r false false true z f g k e i = sym (inside z h _ _ refl refl (omega (arith, ints, f, g, k, e, i)) (omega (arith, ints, f, g, k, e, i)))
tested h l m r true true true z f g k e i = sym (inside z h _ _ refl refl (omega (arith, ints, f, g, k, e, i)) (omega (arith, ints, f, g, k, e, i)))
tested h l m r true true false z f g k e i = sym (inside z h _ _ refl refl (omega (arith, ints, f, g, k, e, i)) (omega (arith, ints, f, g, k, e, i)))
tested h l m r true false false z f g k e i = sym (inside z h _ _ refl refl (omega (arith, ints, f, g, k, e, i)) (omega (arith, ints, f, g, k, e, i)))
tested h l m r true false true z f g k e i = sym (below z h _ _ refl refl (omega (arith, ints, f, g, k, e, i)))
tested h l m r false true false z f g k e i = sym (above z h _ _ refl refl (omega (arith, ints, f, g, k, e, i)))
tested h l m r false true true z f g k e i = sym (inside z h _ _ refl refl (omega (arith, ints, f, g, k, e, i)) (omega (arith, ints, f, g, k, e, i)))

pub differences_overflow : DifferencesOverflow
differences_overflow [] ys k e f = absurd (omega (arith, e))
differences_overflow (x ∷ xs) [] k e f = absurd (omega (arith, f))
differences_overflow (x ∷ xs) (y ∷ ys) k e f =
    let m : length xs ≡ k = omega (arith, e) in
    let n : length ys ≡ k = omega (arith, f) in
    let w : 2 ^ suc k ≡ 2 * 2 ^ k = omega (arith, pow-suc 2 k) in
    let lx : low x xs < 2 ^ k = subst (λ j. low x xs < 2 ^ j) m (low_small x xs) in
    let ly : low y ys < 2 ^ k = subst (λ j. low y ys < 2 ^ j) n (low_small y ys) in
    let ax : number (x ∷ xs) ≡ low x xs + weight (top x xs) * 2 ^ k = number_parts x xs ∙ ap (λ j. low x xs + weight (top x xs) * 2 ^ j) m in
    let ay : number (y ∷ ys) ≡ low y ys + weight (top y ys) * 2 ^ k = number_parts y ys ∙ ap (λ j. low y ys + weight (top y ys) * 2 ^ j) n in
    let r = borrowed x xs y ys false (m ∙ sym n) in
    let small : r.rest < 2 ^ k = subst (λ j. r.rest < 2 ^ j) m r.small in
    let whole : low x xs + weight r.into * 2 ^ k ≡ r.rest + low y ys = omega (arith, r.whole, ap (λ j. weight r.into * 2 ^ j) m) in
    let sx = signed_is (suc k) (number (x ∷ xs)) (top x xs) (negative_is (2 ^ suc k) (2 ^ k) (low x xs) (number (x ∷ xs)) (top x xs) _ refl w lx ax) ∙ value_is (2 ^ suc k) (2 ^ k) (low x xs) (number (x ∷ xs)) (top x xs) w lx ax in
    let sy = signed_is (suc k) (number (y ∷ ys)) (top y ys) (negative_is (2 ^ suc k) (2 ^ k) (low y ys) (number (y ∷ ys)) (top y ys) _ refl w ly ay) ∙ value_is (2 ^ suc k) (2 ^ k) (low y ys) (number (y ∷ ys)) (top y ys) w ly ay in
    let half : suc k - 1 ≡ k = omega arith in
    let z = signed (suc k) (number (x ∷ xs)) -ℤ signed (suc k) (number (y ∷ ys)) in
    r.differ ∙ tested (2 ^ k) (low x xs) (low y ys) r.rest (top x xs) (top y ys) r.into z lx ly small whole (ap (λ v. v -ℤ signed (suc k) (number (y ∷ ys))) sx ∙ ap (λ v. (pos (low x xs) -ℤ pos (weight (top x xs) * 2 ^ k)) -ℤ v) sy)
    ∙ ap (λ j. int_lt z (neg_ℤ (pos (2 ^ j))) || int_le (pos (2 ^ j)) z) (sym half)

-- ---- differences from zero

pub negations_are_taken : NegationsAreTaken
negations_are_taken xs =
    differences_are_taken (zeros truth_gates xs) xs (length-replicate (length xs) false) ∙ ap (λ n. (number (zeros truth_gates xs) + (2 ^ n - number xs)) % 2 ^ n) (length-replicate (length xs) false)
    ∙ ap (λ a. (a + (2 ^ length xs - number xs)) % 2 ^ length xs) (zeros_number (length xs)) ∙ ap (λ a. a % 2 ^ length xs) (omega arith)

zero_is : (n : ℕ) (t : Bool) → nat_le (2 ^ n) (2 * 0) ≡ t → t ≡ false
zero_is n false e = refl
zero_is n true e = let q : 2 ^ n ≤ 2 * 0 = leb-true (2 ^ n) (2 * 0) e in absurd (omega (arith, q, pow_pos n))

from_zero : (z : ℤ) → pos 0 -ℤ z ≡ neg_ℤ z
from_zero z = omega (arith, ints)

pub negations_overflow : NegationsOverflow
negations_overflow xs k e =
    differences_overflow (zeros truth_gates xs) xs k (length-replicate (length xs) false ∙ e) e
    ∙ ap (λ a. overflows (suc k) (signed (suc k) a -ℤ signed (suc k) (number xs))) (zeros_number (length xs))
    ∙ ap (λ v. overflows (suc k) (v -ℤ signed (suc k) (number xs))) (signed_is (suc k) 0 false (zero_is (suc k) (nat_le (2 ^ suc k) (2 * 0)) refl))
    ∙ ap (overflows (suc k)) (from_zero (signed (suc k) (number xs)))
