-- Truths under which marked literals are true.
use Rattle.std.proofs.Common.{◌≡◌, ◌+◌, ◌<◌, ◌≤◌, ◌⊎◌, ℕ, List, [], ◌∷◌, length, arith, ap, refl, sym, subst, ◌∙◌}
use Rattle.std.specs.Prelude.{◌||◌, Bool, true, false, slice_get, slice_index, Some, suc, zero, EachIndex}
use mathlib.Core.Logic.{inl, inr}
use Rattle.law_clauses.specs.Clauses.{Truths, Solves, clause_truth, literal_truth, negated, opposite}
use Rattle.law_clauses.proofs.Literals.{negated-truth}
use Rattle.smt_clauses.specs.Marked.{IsKept, IsMarked, IsOut, MarksHold, KeptHold}
use Rattle.smt_clauses.specs.declared.marks.Marks.{Marks}

-- the clause at a place is true
pub solved_at : (v : Truths) (cs : List (List ℕ)) (i : ℕ) (c : List ℕ) → slice_get cs i ≡ Some c → Solves v cs → clause_truth v c ≡ true
solved_at v [] i c e h = cc
solved_at v (d ∷ cs) zero c e h = let same : d ≡ c = cc in subst (λ (x : List ℕ). clause_truth v x ≡ true) same h.0
solved_at v (d ∷ cs) (suc i) c e h = solved_at v cs i c e h.1

-- a literal and its negation are not both true
pub not_both : (v : Truths) (l : ℕ) → literal_truth v l ≡ true → literal_truth v (negated l) ≡ true → ⊥
not_both v l t f = let e : literal_truth v (negated l) ≡ opposite true = negated-truth v l ∙ ap opposite t in cc

-- one of the literals of a true clause is true
pub record TrueAt (v : Truths) (c : List ℕ) : Type 0 where
  pub place : ℕ
  pub within : place < length c
  pub holds : literal_truth v (slice_index c place) ≡ true

by_first : (v : Truths) (l : ℕ) (c : List ℕ) (b : Bool) → literal_truth v l ≡ b → clause_truth v (l ∷ c) ≡ true → (clause_truth v c ≡ true → TrueAt v c) → TrueAt v (l ∷ c)
by_first v l c true e h rest = record { place = zero; within = omega arith; holds = e }
by_first v l c false e h rest =
    let t : clause_truth v c ≡ true = subst (λ (b : Bool). (b || clause_truth v c) ≡ true) e h in
    let r : TrueAt v c = rest t in record { place = suc r.place; within = omega arith; holds = r.holds }

pub true_somewhere : (v : Truths) (c : List ℕ) → clause_truth v c ≡ true → TrueAt v c
true_somewhere v [] h = cc
true_somewhere v (l ∷ c) h = by_first v l c (literal_truth v l) refl h (λ t. true_somewhere v c t)

-- where all others are false, the one is true
pub one_left : (v : Truths) (m : Marks) (c : List ℕ) (other : ℕ) → EachIndex c (λ k. IsOut m other (slice_index c k)) → clause_truth v c ≡ true → MarksHold v m → literal_truth v other ≡ true
one_left v m c other out t h =
    let r : TrueAt v c = true_somewhere v c t in
    elim (out r.place r.within) [ inl e ↦ subst (λ (l : ℕ). literal_truth v l ≡ true) e r.holds | inr f ↦ absurd (not_both v (slice_index c r.place) r.holds (h (negated (slice_index c r.place)) f)) ]

-- so there are no such truths where that is false too
pub none_left : (v : Truths) (m : Marks) (c : List ℕ) (other : ℕ) → EachIndex c (λ k. IsOut m other (slice_index c k)) → IsMarked m (negated other) → clause_truth v c ≡ true → MarksHold v m → ⊥
none_left v m c other out f t h = not_both v other (one_left v m c other out t h) (h (negated other) f)

-- one more mark holds
pub marked_more : (v : Truths) (m n : Marks) (l : ℕ) → ((k : ℕ) → IsMarked n k → IsMarked m k ⊎ (k ≡ l)) → literal_truth v l ≡ true → MarksHold v m → MarksHold v n
marked_more v m n l more t h k q = elim (more k q) [ inl a ↦ h k a | inr e ↦ subst (λ (x : ℕ). literal_truth v x ≡ true) (sym e) t ]

-- what is marked for good is marked
pub kept_is_marked : (m : Marks) (k : ℕ) → IsKept m k → IsMarked m k
kept_is_marked m k h = omega (arith, m.below)

-- marks that hold for good hold where no others are there
pub only_kept : (v : Truths) (m n : Marks) → ((k : ℕ) → IsMarked n k → IsKept m k) → KeptHold v m → MarksHold v n
only_kept v m n f h k q = h k (f k q)

pub kept_of_marks : (v : Truths) (m : Marks) → MarksHold v m → KeptHold v m
kept_of_marks v m h k q = h k (kept_is_marked m k q)

pub kept_less : (v : Truths) (m n : Marks) → ((k : ℕ) → IsKept n k → IsKept m k) → KeptHold v m → KeptHold v n
kept_less v m n f h k q = h k (f k q)

-- a literal that is not true has a true negation
pub false_negated : (v : Truths) (l : ℕ) → literal_truth v l ≡ false → literal_truth v (negated l) ≡ true
false_negated v l e = negated-truth v l ∙ ap opposite e

-- a stamp that is at least the next time is for good
pub only_now : (s e : ℕ) → (s < 4294967295 → s ≤ e) → e + 1 ≤ s → 4294967295 ≤ s
only_now s e f h = first_of (omega arith, grind arith)
