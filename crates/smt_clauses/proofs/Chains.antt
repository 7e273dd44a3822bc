-- Steps of the checker.
use Rattle.std.proofs.Common.{◌≡◌, ◌<◌, ◌⊎◌, ℕ, List, [], ◌∷◌, ◌++◌, length, get_or, refl}
use Rattle.std.specs.Prelude.{Bool, true, false}
use Rattle.std.proofs.lemmas.List.Folds.{list_any_at}
use Rattle.law_clauses.specs.Clauses.{Truths, Solves, clause_truth, literal_truth, negated}
use Rattle.smt_clauses.specs.Loops.{Follows}
use Rattle.smt_clauses.specs.Marked.{IsMarked, MarksHold}
use Rattle.smt_clauses.specs.declared.marks.Marks.{Marks}
use Rattle.smt_clauses.proofs.Clashes.{false_negated, marked_more}

pub follows_same : (cs : List (List ℕ)) (b : Bool) (m : Marks) → Follows cs b m m
follows_same cs b m = record { marks = λ v s h. h; kept = λ e k h. h }

pub follows_more : (cs : List (List ℕ)) (b : Bool) (l m n : Marks) → Follows cs b l m → Follows cs b m n → Follows cs b l n
follows_more cs b l m n f g = record { marks = λ v s h. g.marks v s (f.marks v s h); kept = λ e k h. f.kept e k (g.kept e k h) }

-- one more clause
pub solved_more : (v : Truths) (cs : List (List ℕ)) (c : List ℕ) → Solves v cs → clause_truth v c ≡ true → Solves v (cs ++ c ∷ [])
solved_more v [] c s t = (t, tt)
solved_more v (d ∷ cs) c s t = (s.0, solved_more v cs c s.1 t)

pub not_true : (b : Bool) → (b ≡ true → ⊥) → b ≡ false
not_true true f = absurd (f refl)
not_true false f = refl

pub not_false : (b : Bool) → (b ≡ false → ⊥) → b ≡ true
not_false true f = refl
not_false false f = absurd (f refl)

pub true_at : (v : Truths) (c : List ℕ) (i : ℕ) → i < length c → literal_truth v (get_or c i 0) ≡ true → clause_truth v c ≡ true
true_at v c i h t = list_any_at (literal_truth v) c i 0 h t

pub false_at : (v : Truths) (c : List ℕ) (i : ℕ) → i < length c → clause_truth v c ≡ false → literal_truth v (get_or c i 0) ≡ false
false_at v c i h f = not_true (literal_truth v (get_or c i 0)) (λ t. let e : clause_truth v c ≡ true = true_at v c i h t in cc)

-- a literal of a clause that is false has a true negation
pub assumed_more : (v : Truths) (m n : Marks) (c : List ℕ) (i : ℕ) → i < length c → ((k : ℕ) → IsMarked n k → IsMarked m k ⊎ (k ≡ negated (get_or c i 0))) → clause_truth v c ≡ false → MarksHold v m → MarksHold v n
assumed_more v m n c i h more f hold = marked_more v m n (negated (get_or c i 0)) more (false_negated v (get_or c i 0) (false_at v c i h f)) hold

-- where a literal of a clause is marked, the clause can't be false
pub met_at : (v : Truths) (m n : Marks) (c : List ℕ) (i : ℕ) → i < length c → (clause_truth v c ≡ false → MarksHold v m → MarksHold v n) → IsMarked n (get_or c i 0) → MarksHold v m → clause_truth v c ≡ true
met_at v m n c i h keeps marked hold = not_false (clause_truth v c) (λ f. let t : clause_truth v c ≡ true = true_at v c i h (keeps f hold (get_or c i 0) marked) in cc)

-- a chain of visits
pub clash_later : (cs : List (List ℕ)) (b : Bool) (l m : Marks) → Follows cs b l m → ((v : Truths) → Solves v cs → MarksHold v m → ⊥) → (v : Truths) → Solves v cs → MarksHold v l → ⊥
clash_later cs b l m f clash v s h = clash v s (f.marks v s h)
