-- Clauses that are gone through.
use Rattle.std.proofs.Common.{◌≡◌, ◌<◌, ℕ, List, [], ◌∷◌, length, get_or, arith, ap, refl, subst, sym, ◌∙◌}
use Rattle.std.specs.Prelude.{◌||◌, Bool, None, Some, false, slice_get, suc, true, zero}
use Rattle.law_clauses.specs.Clauses.{Solves, clause_truth, literal_truth}
use Rattle.smt_search.specs.Given.{DoNotSolve, HoldsAt, TellsHoldsAt, TellsSolves, listed, truths, truths_of}
use Rattle.smt_search.specs.declared.truths.Truths.{Truths}
use Rattle.smt_clauses.proofs.Clashes.{solved_at}

-- a clause none of whose literals is true
pub none_true : (v : ℕ → Bool) (c : List ℕ) → ((k : ℕ) → k < length c → literal_truth v (get_or c k 0) ≡ false) → clause_truth v c ≡ false
none_true v [] h = refl
none_true v (l ∷ c) h =
    let first : literal_truth v l ≡ false = h zero (omega arith) in
    let rest : clause_truth v c ≡ false = none_true v c (λ k t. h (suc k) (omega arith)) in
    ap (λ (b : Bool). b || clause_truth v c) first ∙ rest

-- clauses each of which is true
pub all_true : (v : ℕ → Bool) (cs : List (List ℕ)) → ((k : ℕ) → k < length cs → HoldsAt v cs k) → Solves v cs
all_true v [] h = tt
all_true v (c ∷ cs) h = (h zero (omega arith) c refl, all_true v cs (λ k t d e. h (suc k) (omega arith) d e))

-- clauses one of which is not
pub one_false : (v : ℕ → Bool) (cs : List (List ℕ)) (k : ℕ) (c : List ℕ) → slice_get cs k ≡ Some c → clause_truth v c ≡ false → DoNotSolve v cs
one_false v cs k c e f s = let t : clause_truth v c ≡ true = solved_at v cs k c e s in cc

-- what is told of the clause at a place
pub told_at : (values : List Bool) (cs : List (List ℕ)) (k : ℕ) (c : List ℕ) (told : Bool) → slice_get cs k ≡ Some c → told ≡ clause_truth (truths_of values) c → TellsHoldsAt values cs k told
told_at values cs k c true e t = λ d f. let same : c ≡ d = cc in subst (λ (x : List ℕ). clause_truth (truths_of values) x ≡ true) same (sym t)
told_at values cs k c false e t = one_false (truths_of values) cs k c e (sym t)

-- there is none
pub told_past : (values : List Bool) (cs : List (List ℕ)) (k : ℕ) → slice_get cs k ≡ None → TellsHoldsAt values cs k true
told_past values cs k e = λ d f. cc

-- truths that were looked at
pub told_solved : (t : Truths) (values : List Bool) (cs : List (List ℕ)) → listed t ≡ values → TellsSolves values cs true → Solves (truths t) cs
told_solved t values cs e s = subst (λ (xs : List Bool). Solves (truths_of xs) cs) (sym e) s
