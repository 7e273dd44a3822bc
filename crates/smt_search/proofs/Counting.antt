-- Truths that are counted through.
use Rattle.std.proofs.Common.{◌≡◌, ◌+◌, ◌/◌, ◌%◌, ◌<◌, ◌≤◌, ◌^◌, ℕ, List, [], ◌∷◌, length, add-one, arith, ap, inl, inr, refl, sym, subst, ◌∙◌}
use Rattle.std.proofs.Math.Nat.{eq-or-lt_of_le, pow-succ'}
use Rattle.std.specs.Prelude.{Bool, true, false, nat_eq, replicate, slice_index_or, slice_set, suc, zero}
use Rattle.std.specs.List.{AllByRecursion}
use Rattle.law_clauses.specs.Clauses.{HaveNoSolution, Solves, clause_truth, literal_truth, opposite}
use Rattle.smt_clauses.specs.Variables.{AreBelow}
use Rattle.smt_search.specs.Counted.{IsLast, number}
use Rattle.smt_search.specs.Given.{DoNotSolve, truths_of}

-- lists of truths before this one, as numbers, don't solve the clauses
abbrev pub ArePassed : List (List ℕ) → List Bool → Type 0
ArePassed cs values = (bs : List Bool) → length bs ≡ length values → number bs < number values → DoNotSolve (truths_of bs) cs

-- the truths of the first variables
pub first_truths : (ℕ → Bool) → ℕ → List Bool
first_truths v zero = []
first_truths v (suc n) = v zero ∷ first_truths (λ k. v (suc k)) n

pub length-first_truths : (v : ℕ → Bool) (n : ℕ) → length (first_truths v n) ≡ n
unfolding first_truths
length-first_truths v zero = refl
length-first_truths v (suc n) = ap suc (length-first_truths (λ k. v (suc k)) n)

pub truths_of-first_truths : (v : ℕ → Bool) (n k : ℕ) → k < n → truths_of (first_truths v n) k ≡ v k
unfolding first_truths
truths_of-first_truths v zero k h = absurd (omega arith)
truths_of-first_truths v (suc n) zero h = refl
truths_of-first_truths v (suc n) (suc k) h = truths_of-first_truths (λ j. v (suc j)) n k (omega arith)

-- the truth of a literal, a clause and clauses hangs on their variables alone
same_literal : (v w : ℕ → Bool) (l : ℕ) → w (l / 2) ≡ v (l / 2) → literal_truth w l ≡ literal_truth v l
same_literal v w l e = ap (λ (b : Bool). elim (nat_eq (l % 2) 0) [ true ↦ b | false ↦ opposite b ]) e

same_clause : (v w : ℕ → Bool) (n : ℕ) → ((k : ℕ) → k < n → w k ≡ v k) → (c : List ℕ) → AllByRecursion (λ l. l / 2 < n) c → clause_truth w c ≡ clause_truth v c
same_clause v w n same [] h = refl
same_clause v w n same (l ∷ c) h =
    let one : literal_truth w l ≡ literal_truth v l = same_literal v w l (same (l / 2) h.0) in
    let rest : clause_truth w c ≡ clause_truth v c = same_clause v w n same c h.1 in
    cc

pub same_solves : (v w : ℕ → Bool) (n : ℕ) → ((k : ℕ) → k < n → w k ≡ v k) → (cs : List (List ℕ)) → AreBelow n cs → Solves v cs → Solves w cs
same_solves v w n same [] h s = tt
same_solves v w n same (c ∷ cs) h s = (same_clause v w n same c h.0 ∙ s.0, same_solves v w n same cs h.1 s.1)

-- a list's number has no more bits than the list has places
pub number-below : (bs : List Bool) → number bs + 1 ≤ 2 ^ length bs
number-below [] = omega arith
number-below (true ∷ bs) = let h : number bs + 1 ≤ 2 ^ length bs = number-below bs in rw (pow-succ' 2 (length bs)) (omega arith)
number-below (false ∷ bs) = let h : number bs + 1 ≤ 2 ^ length bs = number-below bs in rw (pow-succ' 2 (length bs)) (omega arith)

-- lists of one length with one number are the same
pub number-same : (xs ys : List Bool) → length xs ≡ length ys → number xs ≡ number ys → xs ≡ ys
number-same [] [] h e = refl
number-same [] (y ∷ ys) h e = absurd (omega arith)
number-same (x ∷ xs) [] h e = absurd (omega arith)
number-same (true ∷ xs) (true ∷ ys) h e = ap (λ (zs : List Bool). true ∷ zs) (number-same xs ys (omega arith) (omega arith))
number-same (false ∷ xs) (false ∷ ys) h e = ap (λ (zs : List Bool). false ∷ zs) (number-same xs ys (omega arith) (omega arith))
number-same (true ∷ xs) (false ∷ ys) h e = absurd (omega arith)
number-same (false ∷ xs) (true ∷ ys) h e = absurd (omega arith)

-- a truth that is changed
pub number-set_true : (bs : List Bool) (i : ℕ) → i < length bs → slice_index_or bs i false ≡ false → number (slice_set bs i true) ≡ number bs + 2 ^ i
number-set_true [] i h e = absurd (omega arith)
number-set_true (true ∷ bs) zero h e = cc
number-set_true (false ∷ bs) zero h e = omega arith
number-set_true (b ∷ bs) (suc i) h e =
    let r : number (slice_set bs i true) ≡ number bs + 2 ^ i = number-set_true bs i (omega arith) e in
    rw (pow-succ' 2 i) (omega arith)

pub number-set_false : (bs : List Bool) (i : ℕ) → i < length bs → slice_index_or bs i false ≡ true → number (slice_set bs i false) + 2 ^ i ≡ number bs
number-set_false [] i h e = absurd (omega arith)
number-set_false (false ∷ bs) zero h e = cc
number-set_false (true ∷ bs) zero h e = omega arith
number-set_false (b ∷ bs) (suc i) h e =
    let r : number (slice_set bs i false) + 2 ^ i ≡ number bs = number-set_false bs i (omega arith) e in
    rw (pow-succ' 2 i) (omega arith)

pub number-replicate : (n : ℕ) → number (replicate n false) ≡ 0
number-replicate zero = refl
number-replicate (suc n) = let r : number (replicate n false) ≡ 0 = number-replicate n in omega arith

-- one more place whose truth was changed to false
pub carried : (m n o i : ℕ) → m + 2 ^ i ≡ n → n + 2 ^ i ≡ o → m + 2 ^ (i + 1) ≡ o
carried m n o i h k = rw (add-one, pow-succ' 2 i) (omega arith)

-- where all truths were changed to false, the list was the last one
pub last_of : (bs : List Bool) (n i : ℕ) → i ≡ length bs → n + 2 ^ i ≡ number bs + 1 → IsLast bs
last_of bs n i e h cs f =
    let below : number cs + 1 ≤ 2 ^ length cs = number-below cs in
    let same : 2 ^ length cs ≡ 2 ^ i = ap (λ (k : ℕ). 2 ^ k) (f ∙ sym e) in
    omega arith

pub passed_first : (cs : List (List ℕ)) (values : List Bool) → number values ≡ 0 → ArePassed cs values
passed_first cs values z bs e h = absurd (omega arith)

pub passed_more : (cs : List (List ℕ)) (values next : List Bool) → length next ≡ length values → number next ≡ number values + 1 → DoNotSolve (truths_of values) cs → ArePassed cs values → ArePassed cs next
passed_more cs values next e n not before bs f h =
    let same : length bs ≡ length values = f ∙ e in
    elim (eq-or-lt_of_le (let most : number bs ≤ number values = omega arith in most)) [
      | inr less ↦ before bs same less
      | inl at ↦ subst (λ (xs : List Bool). DoNotSolve (truths_of xs) cs) (sym (number-same bs values same at)) not
    ]

pub all_passed : (cs : List (List ℕ)) (n : ℕ) (values : List Bool) → length values ≡ n → AreBelow n cs → IsLast values → DoNotSolve (truths_of values) cs → ArePassed cs values → HaveNoSolution cs
all_passed cs n values e below last not before v s =
    let bs : List Bool = first_truths v n in
    let same : length bs ≡ length values = length-first_truths v n ∙ sym e in
    let solved : Solves (truths_of bs) cs = same_solves v (truths_of bs) n (λ k h. truths_of-first_truths v n k h) cs below s in
    elim (eq-or-lt_of_le (last bs same)) [
      | inr less ↦ before bs same less solved
      | inl at ↦ subst (λ (xs : List Bool). DoNotSolve (truths_of xs) cs) (sym (number-same bs values same at)) not solved
    ]
