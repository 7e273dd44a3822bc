-- The variables of clauses.
use Rattle.std.proofs.Common.{◌≡◌, ◌+◌, ◌<◌, ◌≤◌, ◌/◌, ℕ, List, [], ◌∷◌, ◌++◌, length, take, get_or, suc, arith, ap, sym, ◌∙◌}
use Rattle.std.specs.Prelude.{max}
use Rattle.std.specs.List.{AllByRecursion}
use Rattle.std.proofs.Math.Seq.{take-suc}
use Rattle.std.proofs.Math.Nat.{le-max_left, le-max_right, max-zero, zero-max}
use Rattle.smt_clauses.specs.Variables.{AreBelow, count_in, count_of}

max_assoc : (a b c : ℕ) → max (max a b) c ≡ max a (max b c)
max_assoc a b c = omega arith

-- one more literal, and one more clause, at the end
pub count_in-append : (c : List ℕ) (l : ℕ) → count_in (c ++ l ∷ []) ≡ max (count_in c) (l / 2 + 1)
count_in-append [] l = max-zero (l / 2 + 1) ∙ sym (zero-max (l / 2 + 1))
count_in-append (m ∷ c) l = ap (max (m / 2 + 1)) (count_in-append c l) ∙ sym (max_assoc (m / 2 + 1) (count_in c) (l / 2 + 1))

-- the count of the first literals, with one more of them
pub count_in-step : (c : List ℕ) (i n : ℕ) → i < length c → n ≡ count_in (take i c) → max n (get_or c i 0 / 2 + 1) ≡ count_in (take (i + 1) c)
count_in-step c i n h e =
    let next : i + 1 ≡ suc i = omega arith in
    ap (λ (m : ℕ). max m (get_or c i 0 / 2 + 1)) e
    ∙ (sym (count_in-append (take i c) (get_or c i 0))
    ∙ (ap count_in (sym (take-suc c i 0 h)) ∙ ap (λ (m : ℕ). count_in (take m c)) (sym next)))

pub count_of-append : (cs : List (List ℕ)) (c : List ℕ) → count_of (cs ++ c ∷ []) ≡ max (count_of cs) (count_in c)
count_of-append [] c = max-zero (count_in c) ∙ sym (zero-max (count_in c))
count_of-append (d ∷ cs) c = ap (max (count_in d)) (count_of-append cs c) ∙ sym (max_assoc (count_in d) (count_of cs) (count_in c))

-- each variable is below the count
pub clause_below : (n : ℕ) (c : List ℕ) → count_in c ≤ n → AllByRecursion (λ l. l / 2 < n) c
clause_below n [] h = tt
clause_below n (l ∷ c) h =
    let a : l / 2 + 1 ≤ max (l / 2 + 1) (count_in c) = le-max_left (l / 2 + 1) (count_in c) in
    let b : count_in c ≤ max (l / 2 + 1) (count_in c) = le-max_right (l / 2 + 1) (count_in c) in
    (omega (arith, a, h), clause_below n c (omega (arith, b, h)))

pub clauses_below : (n : ℕ) (cs : List (List ℕ)) → count_of cs ≤ n → AreBelow n cs
clauses_below n [] h = tt
clauses_below n (c ∷ cs) h =
    let a : count_in c ≤ max (count_in c) (count_of cs) = le-max_left (count_in c) (count_of cs) in
    let b : count_of cs ≤ max (count_in c) (count_of cs) = le-max_right (count_in c) (count_of cs) in
    (clause_below n c (omega (arith, a, h)), clauses_below n cs (omega (arith, b, h)))
