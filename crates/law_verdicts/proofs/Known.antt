-- Formulas whose names are there.
use Rattle.std.proofs.Common.{◌≡◌, ◌⊎◌, ℕ, Bool, true, ◌||◌, List, refl, subst, inl, inr}
use Rattle.std.specs.Prelude.{codes, bytes_eq, not}
use Rattle.std.proofs.lemmas.Bool.{and_from, and_parts}
use Rattle.law_texts.specs.Lexicon.{Bits, Number, Text, Name}
use Rattle.law_texts.specs.Reading.{Expression, Leaf, Node, Expressions, Nil, Cons}
use Rattle.law_scripts.specs.Script.{Entry, State, are_all, count, each_stated, has_name, has_sort, is_stated, knows, look_up, names_of}
use Rattle.law_scripts.specs.Sorts.{entries}
use Rattle.law_scripts.specs.Written.{is_name}
use Rattle.law_scripts.proofs.Results.{or_left, or_right}
use Rattle.law_verdicts.specs.Fragment.{are_formulas, is_connective, is_formula, is_truth, is_truth_name}
use Rattle.law_verdicts.proofs.Formulas.{IsWord, either, is_and, is_choice, is_equal, is_not, is_or, word_of}

-- `true`, `false`, or a constant or a definition of sort Bool
abbrev pub is_built_in : List ℕ → Bool
is_built_in n = bytes_eq n (codes "true") || bytes_eq n (codes "false")

abbrev pub is_there : List (List ℕ × Entry) → List ℕ → Bool
is_there ds n = is_built_in n || is_truth (look_up n ds)

known_name : (s : State) (n : List ℕ) → is_truth_name s n ≡ true → has_name s n ≡ true → is_there (names_of s) n ≡ true
known_name s n h k =
    let p = (and_parts (is_name n) (is_built_in n || (not (has_name s n) || is_truth (entries s n))) h).1 in
    by (either (is_built_in n) (not (has_name s n) || is_truth (entries s n)) p)
  where
    by : (is_built_in n ≡ true) ⊎ ((not (has_name s n) || is_truth (entries s n)) ≡ true) → is_there (names_of s) n ≡ true
    by (inl e) = or_left (is_built_in n) (is_truth (entries s n)) e
    by (inr e) = or_right (is_built_in n) (is_truth (entries s n)) (subst (λ b. (not b || is_truth (entries s n)) ≡ true) k e)

-- what stands in an application is known where it is
parts_known : (s : State) (f : List ℕ) (n : ℕ) → IsWord f n → (es : Expressions) → knows s (Node (Cons (Leaf (Name f)) es)) ≡ true → are_all (each_stated (has_sort s) (has_name s) es) ≡ true
parts_known s f n w Nil h = refl
parts_known s f n is_not (Cons e es) h = (and_parts (has_name s (codes "not")) (are_all (each_stated (has_sort s) (has_name s) (Cons e es))) h).1
parts_known s f n is_and (Cons e es) h = (and_parts (has_name s (codes "and")) (are_all (each_stated (has_sort s) (has_name s) (Cons e es))) h).1
parts_known s f n is_or (Cons e es) h = (and_parts (has_name s (codes "or")) (are_all (each_stated (has_sort s) (has_name s) (Cons e es))) h).1
parts_known s f n is_equal (Cons e es) h = (and_parts (has_name s (codes "=")) (are_all (each_stated (has_sort s) (has_name s) (Cons e es))) h).1
parts_known s f n is_choice (Cons e es) h = (and_parts (has_name s (codes "ite")) (are_all (each_stated (has_sort s) (has_name s) (Cons e es))) h).1

mutual
  pub known_formula : (s : State) (e : Expression) → is_formula (is_truth_name s) e ≡ true → knows s e ≡ true → is_formula (is_there (names_of s)) e ≡ true
  known_formula s (Leaf (Name n)) h k = known_name s n h k
  known_formula s (Leaf (Bits w n)) h k = h
  known_formula s (Leaf (Number n)) h k = h
  known_formula s (Leaf (Text t)) h k = h
  known_formula s (Node Nil) h k = h
  known_formula s (Node (Cons (Leaf (Name f)) es)) h k =
      let p = and_parts (is_connective f (count es)) (are_formulas (is_truth_name s) es) h in
      and_from (is_connective f (count es)) (are_formulas (is_there (names_of s)) es) p.0 (known_formulas s es p.1 (parts_known s f (count es) (word_of f (count es) p.0) es k))
  known_formula s (Node (Cons (Leaf (Bits w n)) es)) h k = h
  known_formula s (Node (Cons (Leaf (Number n)) es)) h k = h
  known_formula s (Node (Cons (Leaf (Text t)) es)) h k = h
  known_formula s (Node (Cons (Node fs) es)) h k = h

  known_formulas : (s : State) (es : Expressions) → are_formulas (is_truth_name s) es ≡ true → are_all (each_stated (has_sort s) (has_name s) es) ≡ true → are_formulas (is_there (names_of s)) es ≡ true
  known_formulas s Nil h k = refl
  known_formulas s (Cons e es) h k =
      let p = and_parts (is_formula (is_truth_name s) e) (are_formulas (is_truth_name s) es) h in
      let q = and_parts (is_stated (has_sort s) (has_name s) e) (are_all (each_stated (has_sort s) (has_name s) es)) k in
      and_from (is_formula (is_there (names_of s)) e) (are_formulas (is_there (names_of s)) es) (known_formula s e p.0 q.0) (known_formulas s es p.1 q.1)
