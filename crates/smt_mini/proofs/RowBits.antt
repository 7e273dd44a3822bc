-- Bits of words, in each of 64 rows.
use Rattle.std.proofs.Common.{◌≡◌, ℕ, w64, zero, suc, ◌+◌, ◌-◌, ◌++◌, append_assoc, drop, ◌<◌, ◌≤◌, ◌^◌, Bool, true, false, ◌&&◌, not, eqb, ltb, leb, List, [], ◌∷◌, length, get_or, refl, sym, ap, ap₂, ◌∙◌, subst, inl, inr, arith}
use Rattle.std.specs.Bool.{beq}
use Rattle.std.specs.Int.Bits.{bit_and}
use Rattle.std.specs.List.{list_all}
use Rattle.std.proofs.lemmas.List.{at_drop_more}
use Rattle.std.proofs.lemmas.Bool.{and_parts, cases_lt, false≢true}
use Rattle.std.proofs.lemmas.Nat.Bits.{bit_at-trailing_zeros, bit_at-zero}
use Rattle.std.specs.Int.{trailing_zeros}
use Rattle.law_verdicts.proofs.TruthRows.{rows_stand_alone}
use Rattle.smt_mini.specs.Search.{may_free}
use Rattle.law_verdicts.specs.TruthRows.{May, has_bit, just, row, row_truths}

-- a test of all numbers below one
abbrev all_below : ℕ → (ℕ → Bool) → Bool
all_below zero p = true
all_below (suc n) p = p n && all_below n p

of_all : (n : ℕ) (p : ℕ → Bool) → all_below n p ≡ true → (r : ℕ) → r < n → p r ≡ true
of_all zero p h r l = absurd (omega (arith, l))
of_all (suc n) p h r l =
    let q = and_parts (p n) (all_below n p) h in
    elim (cases_lt r n) [
      | inl m ↦ of_all n p q.1 r m
      | inr m ↦ (let e : n ≡ r = omega (arith, l, m) in subst (λ x. p x ≡ true) e q.0)
    ]

same_truth : (a b : Bool) → beq a b ≡ true → a ≡ b
same_truth true true h = refl
same_truth false false h = refl
same_truth true false h = absurd (false≢true h)
same_truth false true h = absurd (false≢true h)

-- the words of all rows and of none
pub full_bit : (r : ℕ) → r < 64 → has_bit 18446744073709551615 r ≡ true
full_bit r l = of_all 64 (has_bit 18446744073709551615) refl r l

pub empty_bit : (r : ℕ) → has_bit 0 r ≡ false
empty_bit r = ap (λ x. eqb x 1) (bit_at-zero r)

abbrev may : Bool → Bool → May
may x y = record { holds = x; fails = y }

pub just_true : (r : ℕ) → r < 64 → row r (record { holds = 18446744073709551615; fails = 0 }) ≡ just true
just_true r l = ap₂ may (full_bit r l) (empty_bit r)

pub just_false : (r : ℕ) → r < 64 → row r (record { holds = 0; fails = 18446744073709551615 }) ≡ just false
just_false r l = ap₂ may (empty_bit r) (full_bit r l)

pub either_one : (r : ℕ) → r < 64 → row r (record { holds = 18446744073709551615; fails = 18446744073709551615 }) ≡ may true true
either_one r l = ap₂ may (full_bit r l) (full_bit r l)

-- the words of a bit of the row's number
abbrev are_bits : ℕ → ℕ → ℕ → Bool
are_bits holds fails place = all_below 64 (λ r. beq (has_bit holds r) (has_bit r place) && beq (has_bit fails r) (not (has_bit r place)))

pub row_of_bits : (holds fails place : ℕ) → are_bits holds fails place ≡ true → (r : ℕ) → r < 64 → row r (record { holds = holds; fails = fails }) ≡ just (has_bit r place)
row_of_bits holds fails place h r l =
    let p = and_parts (beq (has_bit holds r) (has_bit r place)) (beq (has_bit fails r) (not (has_bit r place))) (of_all 64 (λ x. beq (has_bit holds x) (has_bit x place) && beq (has_bit fails x) (not (has_bit x place))) h r l) in
    ap₂ may (same_truth (has_bit holds r) (has_bit r place) p.0) (same_truth (has_bit fails r) (not (has_bit r place)) p.1)

-- the word of the first rows
pub first_rows : (word n : ℕ) → all_below 64 (λ r. beq (has_bit word r) (ltb r (2 ^ n))) ≡ true → (r : ℕ) → r < 64 → has_bit word r ≡ ltb r (2 ^ n)
first_rows word n h r l = same_truth (has_bit word r) (ltb r (2 ^ n)) (of_all 64 (λ x. beq (has_bit word x) (ltb x (2 ^ n))) h r l)

-- ---- the truths of a row

pub row_bit : (n r i : ℕ) → i < n → get_or (row_truths n r) i false ≡ has_bit r (n - 1 - i)
row_bit zero r i l = absurd (omega (arith, l))
row_bit (suc n) r zero l = let e : n ≡ suc n - 1 - 0 = omega arith in ap (has_bit r) e
row_bit (suc n) r (suc i) l = let e : n - 1 - i ≡ suc n - 1 - suc i = omega (arith, l) in row_bit n r i (omega (arith, l)) ∙ ap (has_bit r) e

pub row_long : (n r : ℕ) → length (row_truths n r) ≡ n
row_long zero r = refl
row_long (suc n) r = ap suc (row_long n r)

-- one truth of a row is chosen
pub row_next : (xs ys : List Bool) (left row : ℕ) → 0 < left → ys ≡ xs ++ has_bit row (left - 1) ∷ [] → ys ++ row_truths (left - 1) row ≡ xs ++ row_truths left row
row_next xs ys left row l e =
    let one : suc (left - 1) ≡ left = omega (arith, l) in
    ap (λ zs. zs ++ row_truths (left - 1) row) e ∙ append_assoc xs (has_bit row (left - 1) ∷ []) (row_truths (left - 1) row) ∙ ap (λ n. xs ++ row_truths n row) one

-- ---- inputs without a chosen truth

pub below_is : (k n : ℕ) → k < n → ltb k n ≡ true
below_is k n h = grind (arith, h)

pub above_is : (k n : ℕ) → n ≤ k → ltb k n ≡ false
above_is k n h = grind (arith, h)

pub no_more : (k n : ℕ) → k ≤ n → leb k n ≡ true
no_more k n h = grind (arith, h)

pub more : (k n : ℕ) → n < k → leb k n ≡ false
more k n h = grind (arith, h)

pub free_false : (total r k : ℕ) → total ≤ k → just false ≡ may_free total r k
free_false total r k h = rw (above_is k total h) refl

pub free_bits : (total r k : ℕ) → k < total → total ≤ k + 6 → just (has_bit r (total - k - 1)) ≡ may_free total r k
free_bits total r k h l =
    let place : total - k - 1 ≡ total - 1 - k = omega (arith, h) in
    ap (λ p. just (has_bit r p)) place ∙ rw (below_is k total h, no_more total (k + 6) l) refl

pub free_either : (total r k : ℕ) → r < 64 → k + 6 < total → row r (record { holds = 18446744073709551615; fails = 18446744073709551615 }) ≡ may_free total r k
free_either total r k l h = either_one r l ∙ rw (below_is k total (omega (arith, h)), more total (k + 6) h) refl

-- ---- rows in which gates may be true

bit_of_and : (a b r : ℕ) → has_bit (bit_and a b) r ≡ (has_bit a r && has_bit b r)
bit_of_and a b r = ap (λ (m : May). m.holds) (rows_stand_alone.conjunction r (record { holds = a; fails = 0 }) (record { holds = b; fails = 0 }))

and_assoc : (a b c : Bool) → ((a && b) && c) ≡ (a && (b && c))
and_assoc true b c = refl
and_assoc false b c = refl

pub one_gate_more : (a b r : ℕ) (holds : ℕ → Bool) (ps : List ℕ) (i p : ℕ) → i < length ps → p ≡ get_or ps i p → has_bit b r ≡ holds p → (has_bit (bit_and a b) r && list_all holds (drop (i + 1) ps)) ≡ (has_bit a r && list_all holds (drop i ps))
one_gate_more a b r holds ps i p l e h =
    ap (λ x. x && list_all holds (drop (i + 1) ps)) (bit_of_and a b r) ∙ and_assoc (has_bit a r) (has_bit b r) (list_all holds (drop (i + 1) ps))
    ∙ ap (λ x. has_bit a r && (x && list_all holds (drop (i + 1) ps))) (h ∙ ap holds e)
    ∙ ap (λ x. has_bit a r && x) (sym (at_drop_more (list_all holds) ps i p l))

-- the lowest bit of a word
pub lowest_bit : (w z : ℕ) → 0 < w → w < 2 ^ 64 → z ≡ trailing_zeros w64 w → (z < 64) × (has_bit w z ≡ true) × ((i : ℕ) → i < z → has_bit w i ≡ false)
lowest_bit w z some word e =
    let b = bit_at-trailing_zeros w64 w some word in
    subst (λ x. (x < 64) × (has_bit w x ≡ true) × ((i : ℕ) → i < x → has_bit w i ≡ false)) (sym e) (b.0, ap (λ x. eqb x 1) b.1, λ i k. ap (λ x. eqb x 1) (b.2 i k))
