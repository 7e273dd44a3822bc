-- The clauses of gates.
use Rattle.std.proofs.Common.{◌≡◌, ◌+◌, ◌*◌, ◌/◌, ℕ, List, [], ◌∷◌, ◌++◌, arith, ap, refl, sym, ◌∙◌}
use Rattle.std.specs.Prelude.{Bool, true, false, cond, not, ◌&&◌, ◌||◌, suc}
use Rattle.std.specs.Bool.{beq}
use Rattle.law_clauses.specs.Clauses.{Truths, Solves, clause_truth, literal_truth, opposite}
use Rattle.law_clauses.proofs.Literals.{truth-even, truth-odd}
use Rattle.law_clauses.specs.Gates.{Gate, Free, Constant, Negation, Conjunction, Disjunction, Equality, Choice, yes, no, Computes, ComputeAll, gate_clauses, circuit_clauses}

-- the truths of a variable's two literals
pub truth-yes : (v : Truths) (n : ℕ) → literal_truth v (yes n) ≡ v n
truth-yes v n = truth-even v (2 * n) (omega arith) ∙ ap v (let e : (2 * n) / 2 ≡ n = omega arith in e)

pub truth-no : (v : Truths) (n : ℕ) → literal_truth v (no n) ≡ opposite (v n)
truth-no v n = truth-odd v (2 * n + 1) (omega arith) ∙ ap (λ (m : ℕ). opposite (v m)) (let e : (2 * n + 1) / 2 ≡ n = omega arith in e)

-- the truth of a clause of two and of three literals, by the truths of these
pub two : (v : Truths) (l m : ℕ) (A B : Bool) → literal_truth v l ≡ A → literal_truth v m ≡ B → clause_truth v (l ∷ m ∷ []) ≡ (A || (B || false))
two v l m A B e f = ap (λ (x : Bool). x || (literal_truth v m || false)) e ∙ ap (λ (x : Bool). A || (x || false)) f

pub three : (v : Truths) (l m n : ℕ) (A B C : Bool) → literal_truth v l ≡ A → literal_truth v m ≡ B → literal_truth v n ≡ C → clause_truth v (l ∷ m ∷ n ∷ []) ≡ (A || (B || (C || false)))
three v l m n A B C e f g = ap (λ (x : Bool). x || clause_truth v (m ∷ n ∷ [])) e ∙ ap (λ (x : Bool). A || x) (two v m n B C f g)

-- conjunctions of equations
and_forth : (o a b : Bool) → (opposite o || (a || false)) ≡ true → (opposite o || (b || false)) ≡ true → (o || (opposite a || (opposite b || false))) ≡ true → o ≡ (a && b)
and_forth true true true h k l = refl
and_forth true true false h k l = sym k
and_forth true false b h k l = sym h
and_forth false true true h k l = l
and_forth false true false h k l = refl
and_forth false false b h k l = refl

and_back : (a b : Bool) → ((opposite (a && b) || (a || false)) ≡ true) × ((opposite (a && b) || (b || false)) ≡ true) × (((a && b) || (opposite a || (opposite b || false))) ≡ true)
and_back true true = (refl, refl, refl)
and_back true false = (refl, refl, refl)
and_back false true = (refl, refl, refl)
and_back false false = (refl, refl, refl)

conjunction_forth : (v : Truths) (o a b : ℕ) → Solves v (gate_clauses o (Conjunction a b)) → v o ≡ (v a && v b)
conjunction_forth v o a b s = and_forth (v o) (v a) (v b)
    (sym (two v (no o) (yes a) (opposite (v o)) (v a) (truth-no v o) (truth-yes v a)) ∙ s.0)
    (sym (two v (no o) (yes b) (opposite (v o)) (v b) (truth-no v o) (truth-yes v b)) ∙ s.1.0)
    (sym (three v (yes o) (no a) (no b) (v o) (opposite (v a)) (opposite (v b)) (truth-yes v o) (truth-no v a) (truth-no v b)) ∙ s.1.1.0)

conjunction_back : (v : Truths) (o a b : ℕ) → v o ≡ (v a && v b) → Solves v (gate_clauses o (Conjunction a b))
conjunction_back v o a b e =
    let h = and_back (v a) (v b) in
    let n : literal_truth v (no o) ≡ opposite (v a && v b) = truth-no v o ∙ ap opposite e in
    let y : literal_truth v (yes o) ≡ (v a && v b) = truth-yes v o ∙ e in (
      two v (no o) (yes a) (opposite (v a && v b)) (v a) n (truth-yes v a) ∙ h.0,
      (
        two v (no o) (yes b) (opposite (v a && v b)) (v b) n (truth-yes v b) ∙ h.1,
        (three v (yes o) (no a) (no b) (v a && v b) (opposite (v a)) (opposite (v b)) y (truth-no v a) (truth-no v b) ∙ h.2, tt),
      ),
    )

or_forth : (o a b : Bool) → (o || (opposite a || false)) ≡ true → (o || (opposite b || false)) ≡ true → (opposite o || (a || (b || false))) ≡ true → o ≡ (a || b)
or_forth true true b h k l = refl
or_forth true false true h k l = refl
or_forth true false false h k l = sym l
or_forth false true b h k l = h
or_forth false false true h k l = k
or_forth false false false h k l = refl

or_back : (a b : Bool) → (((a || b) || (opposite a || false)) ≡ true) × (((a || b) || (opposite b || false)) ≡ true) × ((opposite (a || b) || (a || (b || false))) ≡ true)
or_back true true = (refl, refl, refl)
or_back true false = (refl, refl, refl)
or_back false true = (refl, refl, refl)
or_back false false = (refl, refl, refl)

disjunction_forth : (v : Truths) (o a b : ℕ) → Solves v (gate_clauses o (Disjunction a b)) → v o ≡ (v a || v b)
disjunction_forth v o a b s = or_forth (v o) (v a) (v b)
    (sym (two v (yes o) (no a) (v o) (opposite (v a)) (truth-yes v o) (truth-no v a)) ∙ s.0)
    (sym (two v (yes o) (no b) (v o) (opposite (v b)) (truth-yes v o) (truth-no v b)) ∙ s.1.0)
    (sym (three v (no o) (yes a) (yes b) (opposite (v o)) (v a) (v b) (truth-no v o) (truth-yes v a) (truth-yes v b)) ∙ s.1.1.0)

disjunction_back : (v : Truths) (o a b : ℕ) → v o ≡ (v a || v b) → Solves v (gate_clauses o (Disjunction a b))
disjunction_back v o a b e =
    let h = or_back (v a) (v b) in
    let n : literal_truth v (no o) ≡ opposite (v a || v b) = truth-no v o ∙ ap opposite e in
    let y : literal_truth v (yes o) ≡ (v a || v b) = truth-yes v o ∙ e in (
      two v (yes o) (no a) (v a || v b) (opposite (v a)) y (truth-no v a) ∙ h.0,
      (
        two v (yes o) (no b) (v a || v b) (opposite (v b)) y (truth-no v b) ∙ h.1,
        (three v (no o) (yes a) (yes b) (opposite (v a || v b)) (v a) (v b) n (truth-yes v a) (truth-yes v b) ∙ h.2, tt),
      ),
    )

eq_forth : (o a b : Bool) → (opposite o || (opposite a || (b || false))) ≡ true → (opposite o || (a || (opposite b || false))) ≡ true → (o || (a || (b || false))) ≡ true → (o || (opposite a || (opposite b || false))) ≡ true → o ≡ beq a b
eq_forth true true true h k l m = refl
eq_forth true true false h k l m = sym h
eq_forth true false true h k l m = sym k
eq_forth true false false h k l m = refl
eq_forth false true true h k l m = m
eq_forth false true false h k l m = refl
eq_forth false false true h k l m = refl
eq_forth false false false h k l m = l

eq_back : (a b : Bool) → ((opposite (beq a b) || (opposite a || (b || false))) ≡ true) × ((opposite (beq a b) || (a || (opposite b || false))) ≡ true) × ((beq a b || (a || (b || false))) ≡ true) × ((beq a b || (opposite a || (opposite b || false))) ≡ true)
eq_back true true = (refl, refl, refl, refl)
eq_back true false = (refl, refl, refl, refl)
eq_back false true = (refl, refl, refl, refl)
eq_back false false = (refl, refl, refl, refl)

equality_forth : (v : Truths) (o a b : ℕ) → Solves v (gate_clauses o (Equality a b)) → v o ≡ beq (v a) (v b)
equality_forth v o a b s = eq_forth (v o) (v a) (v b)
    (sym (three v (no o) (no a) (yes b) (opposite (v o)) (opposite (v a)) (v b) (truth-no v o) (truth-no v a) (truth-yes v b)) ∙ s.0)
    (sym (three v (no o) (yes a) (no b) (opposite (v o)) (v a) (opposite (v b)) (truth-no v o) (truth-yes v a) (truth-no v b)) ∙ s.1.0)
    (sym (three v (yes o) (yes a) (yes b) (v o) (v a) (v b) (truth-yes v o) (truth-yes v a) (truth-yes v b)) ∙ s.1.1.0)
    (sym (three v (yes o) (no a) (no b) (v o) (opposite (v a)) (opposite (v b)) (truth-yes v o) (truth-no v a) (truth-no v b)) ∙ s.1.1.1.0)

equality_back : (v : Truths) (o a b : ℕ) → v o ≡ beq (v a) (v b) → Solves v (gate_clauses o (Equality a b))
equality_back v o a b e =
    let h = eq_back (v a) (v b) in
    let n : literal_truth v (no o) ≡ opposite (beq (v a) (v b)) = truth-no v o ∙ ap opposite e in
    let y : literal_truth v (yes o) ≡ beq (v a) (v b) = truth-yes v o ∙ e in (
      three v (no o) (no a) (yes b) (opposite (beq (v a) (v b))) (opposite (v a)) (v b) n (truth-no v a) (truth-yes v b) ∙ h.0,
      (
        three v (no o) (yes a) (no b) (opposite (beq (v a) (v b))) (v a) (opposite (v b)) n (truth-yes v a) (truth-no v b) ∙ h.1,
        (
          three v (yes o) (yes a) (yes b) (beq (v a) (v b)) (v a) (v b) y (truth-yes v a) (truth-yes v b) ∙ h.2,
          (three v (yes o) (no a) (no b) (beq (v a) (v b)) (opposite (v a)) (opposite (v b)) y (truth-no v a) (truth-no v b) ∙ h.3, tt),
        ),
      ),
    )

ite_forth : (o a b c : Bool) → (opposite o || (opposite a || (b || false))) ≡ true → (opposite o || (a || (c || false))) ≡ true → (o || (opposite a || (opposite b || false))) ≡ true → (o || (a || (opposite c || false))) ≡ true → o ≡ cond a b c
ite_forth true true true c h k l m = refl
ite_forth true true false c h k l m = sym h
ite_forth true false b true h k l m = refl
ite_forth true false b false h k l m = sym k
ite_forth false true true c h k l m = l
ite_forth false true false c h k l m = refl
ite_forth false false b true h k l m = m
ite_forth false false b false h k l m = refl

ite_back : (a b c : Bool) → ((opposite (cond a b c) || (opposite a || (b || false))) ≡ true) × ((opposite (cond a b c) || (a || (c || false))) ≡ true) × ((cond a b c || (opposite a || (opposite b || false))) ≡ true) × ((cond a b c || (a || (opposite c || false))) ≡ true)
ite_back true true true = (refl, refl, refl, refl)
ite_back true true false = (refl, refl, refl, refl)
ite_back true false true = (refl, refl, refl, refl)
ite_back true false false = (refl, refl, refl, refl)
ite_back false true true = (refl, refl, refl, refl)
ite_back false true false = (refl, refl, refl, refl)
ite_back false false true = (refl, refl, refl, refl)
ite_back false false false = (refl, refl, refl, refl)

choice_forth : (v : Truths) (o a b c : ℕ) → Solves v (gate_clauses o (Choice a b c)) → v o ≡ cond (v a) (v b) (v c)
choice_forth v o a b c s = ite_forth (v o) (v a) (v b) (v c)
    (sym (three v (no o) (no a) (yes b) (opposite (v o)) (opposite (v a)) (v b) (truth-no v o) (truth-no v a) (truth-yes v b)) ∙ s.0)
    (sym (three v (no o) (yes a) (yes c) (opposite (v o)) (v a) (v c) (truth-no v o) (truth-yes v a) (truth-yes v c)) ∙ s.1.0)
    (sym (three v (yes o) (no a) (no b) (v o) (opposite (v a)) (opposite (v b)) (truth-yes v o) (truth-no v a) (truth-no v b)) ∙ s.1.1.0)
    (sym (three v (yes o) (yes a) (no c) (v o) (v a) (opposite (v c)) (truth-yes v o) (truth-yes v a) (truth-no v c)) ∙ s.1.1.1.0)

choice_back : (v : Truths) (o a b c : ℕ) → v o ≡ cond (v a) (v b) (v c) → Solves v (gate_clauses o (Choice a b c))
choice_back v o a b c e =
    let h = ite_back (v a) (v b) (v c) in
    let n : literal_truth v (no o) ≡ opposite (cond (v a) (v b) (v c)) = truth-no v o ∙ ap opposite e in
    let y : literal_truth v (yes o) ≡ cond (v a) (v b) (v c) = truth-yes v o ∙ e in (
      three v (no o) (no a) (yes b) (opposite (cond (v a) (v b) (v c))) (opposite (v a)) (v b) n (truth-no v a) (truth-yes v b) ∙ h.0,
      (
        three v (no o) (yes a) (yes c) (opposite (cond (v a) (v b) (v c))) (v a) (v c) n (truth-yes v a) (truth-yes v c) ∙ h.1,
        (
          three v (yes o) (no a) (no b) (cond (v a) (v b) (v c)) (opposite (v a)) (opposite (v b)) y (truth-no v a) (truth-no v b) ∙ h.2,
          (three v (yes o) (yes a) (no c) (cond (v a) (v b) (v c)) (v a) (opposite (v c)) y (truth-yes v a) (truth-no v c) ∙ h.3, tt),
        ),
      ),
    )

-- a literal alone
one : (v : Truths) (l : ℕ) (A : Bool) → literal_truth v l ≡ A → clause_truth v (l ∷ []) ≡ (A || false)
one v l A e = ap (λ (x : Bool). x || false) e

yes_forth : (o : Bool) → (o || false) ≡ true → o ≡ true
yes_forth true h = refl
yes_forth false h = h

no_forth : (o : Bool) → (opposite o || false) ≡ true → o ≡ false
no_forth true h = sym h
no_forth false h = refl

not_forth : (o a : Bool) → (opposite o || (opposite a || false)) ≡ true → (o || (a || false)) ≡ true → o ≡ not a
not_forth true true h k = sym h
not_forth true false h k = refl
not_forth false true h k = refl
not_forth false false h k = k

not_back : (a : Bool) → ((opposite (not a) || (opposite a || false)) ≡ true) × ((not a || (a || false)) ≡ true)
not_back true = (refl, refl)
not_back false = (refl, refl)

negation_back : (v : Truths) (o a : ℕ) → v o ≡ not (v a) → Solves v (gate_clauses o (Negation a))
negation_back v o a e =
    let h = not_back (v a) in (
      two v (no o) (no a) (opposite (not (v a))) (opposite (v a)) (truth-no v o ∙ ap opposite e) (truth-no v a) ∙ h.0,
      (two v (yes o) (yes a) (not (v a)) (v a) (truth-yes v o ∙ e) (truth-yes v a) ∙ h.1, tt),
    )

pub gate_forth : (v : Truths) (o : ℕ) (g : Gate) → Solves v (gate_clauses o g) → Computes v o g
gate_forth v o Free s = tt
gate_forth v o (Constant true) s = yes_forth (v o) (sym (one v (yes o) (v o) (truth-yes v o)) ∙ s.0)
gate_forth v o (Constant false) s = no_forth (v o) (sym (one v (no o) (opposite (v o)) (truth-no v o)) ∙ s.0)
gate_forth v o (Negation a) s = not_forth (v o) (v a)
    (sym (two v (no o) (no a) (opposite (v o)) (opposite (v a)) (truth-no v o) (truth-no v a)) ∙ s.0)
    (sym (two v (yes o) (yes a) (v o) (v a) (truth-yes v o) (truth-yes v a)) ∙ s.1.0)
gate_forth v o (Conjunction a b) s = conjunction_forth v o a b s
gate_forth v o (Disjunction a b) s = disjunction_forth v o a b s
gate_forth v o (Equality a b) s = equality_forth v o a b s
gate_forth v o (Choice a b c) s = choice_forth v o a b c s

pub gate_back : (v : Truths) (o : ℕ) (g : Gate) → Computes v o g → Solves v (gate_clauses o g)
gate_back v o Free e = tt
gate_back v o (Constant true) e = (one v (yes o) true (truth-yes v o ∙ e), tt)
gate_back v o (Constant false) e = (one v (no o) true (truth-no v o ∙ ap opposite e), tt)
gate_back v o (Negation a) e = negation_back v o a e
gate_back v o (Conjunction a b) e = conjunction_back v o a b e
gate_back v o (Disjunction a b) e = disjunction_back v o a b e
gate_back v o (Equality a b) e = equality_back v o a b e
gate_back v o (Choice a b c) e = choice_back v o a b c e

-- clauses of two lists
pub both : (v : Truths) (cs ds : List (List ℕ)) → Solves v cs → Solves v ds → Solves v (cs ++ ds)
both v [] ds s t = t
both v (c ∷ cs) ds s t = (s.0, both v cs ds s.1 t)

pub left : (v : Truths) (cs ds : List (List ℕ)) → Solves v (cs ++ ds) → Solves v cs
left v [] ds s = tt
left v (c ∷ cs) ds s = (s.0, left v cs ds s.1)

pub right : (v : Truths) (cs ds : List (List ℕ)) → Solves v (cs ++ ds) → Solves v ds
right v [] ds s = s
right v (c ∷ cs) ds s = right v cs ds s.1

pub circuit_forth : (v : Truths) (n : ℕ) (gs : List Gate) → Solves v (circuit_clauses n gs) → ComputeAll v n gs
circuit_forth v n [] s = tt
circuit_forth v n (g ∷ gs) s = (gate_forth v n g (left v (gate_clauses n g) (circuit_clauses (suc n) gs) s), circuit_forth v (suc n) gs (right v (gate_clauses n g) (circuit_clauses (suc n) gs) s))

pub circuit_back : (v : Truths) (n : ℕ) (gs : List Gate) → ComputeAll v n gs → Solves v (circuit_clauses n gs)
circuit_back v n [] e = tt
circuit_back v n (g ∷ gs) e = both v (gate_clauses n g) (circuit_clauses (suc n) gs) (gate_back v n g e.0) (circuit_back v (suc n) gs e.1)
