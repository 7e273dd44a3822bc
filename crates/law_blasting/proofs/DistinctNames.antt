-- The names of all new variables differ.
use Rattle.std.proofs.Common.{◌≡◌, ℕ, zero, suc, ◌<◌, Bool, true, false, ◌||◌, List, [], ◌∷◌, ◌++◌, refl, ap, ◌∙◌, arith}
use Rattle.std.specs.Prelude.{bytes_eq}
use Rattle.std.specs.List.{AllByRecursion, list_any}
use Rattle.law_terms.specs.Plain.{PlainType, BitVecType, BoolType}
use Rattle.law_terms.proofs.Shapes.{all-become}
use Rattle.law_blasting.specs.Blasted.{Variables, bit_name, bit_names, new_names, all_names}
use Rattle.law_blasting.specs.Laws.{AreDistinctNames, NewNamesDiffer}
use Rattle.law_terms.proofs.Defaults.{all-join}
use Rattle.law_blasting.proofs.Names.{HasNumber, names_have, none_named, places_differ}

unnamed : (m : List ℕ) (names : List (List ℕ)) → AllByRecursion (λ n. bytes_eq m n ≡ false) names → list_any (bytes_eq m) names ≡ false
unnamed m [] h = refl
unnamed m (n ∷ names) h = ap (λ b. b || list_any (bytes_eq m) names) h.0 ∙ unnamed m names h.1

later_names : (k j : ℕ) (m : List ℕ) (vs : Variables) → HasNumber k m → k < j → AllByRecursion (λ n. bytes_eq m n ≡ false) (all_names j vs)
later_names k j m [] h l = tt
later_names k j m (v ∷ vs) h l =
    all-join (λ n. bytes_eq m n ≡ false) (new_names j v.1) (all_names (suc j) vs) (none_named k j m (new_names j v.1) h (names_have j v.1) (λ e. absurd (omega (arith, l, e)))) (later_names k (suc j) m vs h (omega (arith, l)))

later_places : (k m i n : ℕ) → m < i → AllByRecursion (λ name. bytes_eq (bit_name k m) name ≡ false) (bit_names k i n)
later_places k m i zero l = tt
later_places k m i (suc n) l = (places_differ k m i (λ e. absurd (omega (arith, l, e))), later_places k m (suc i) n (omega (arith, l)))

distinct_places : (k i n : ℕ) → AreDistinctNames (bit_names k i n)
distinct_places k i zero = tt
distinct_places k i (suc n) = (unnamed (bit_name k i) (bit_names k (suc i) n) (later_places k i (suc i) n (omega arith)), distinct_places k (suc i) n)

distinct_new : (k : ℕ) (t : PlainType) → AreDistinctNames (new_names k t)
distinct_new k BoolType = (refl, tt)
distinct_new k (BitVecType n) = distinct_places k 0 n
distinct_new k t = tt

unnamed_both : (m : List ℕ) (xs ys : List (List ℕ)) → list_any (bytes_eq m) xs ≡ false → list_any (bytes_eq m) ys ≡ false → list_any (bytes_eq m) (xs ++ ys) ≡ false
unnamed_both m [] ys h k = k
unnamed_both m (x ∷ xs) ys h k = by (bytes_eq m x) h (unnamed_both m xs ys)
  where
    by : (b : Bool) → (b || list_any (bytes_eq m) xs) ≡ false → (list_any (bytes_eq m) xs ≡ false → list_any (bytes_eq m) ys ≡ false → list_any (bytes_eq m) (xs ++ ys) ≡ false) → (b || list_any (bytes_eq m) (xs ++ ys)) ≡ false
    by true e again = cc
    by false e again = again e k

distinct_both : (xs ys : List (List ℕ)) → AreDistinctNames xs → AreDistinctNames ys → AllByRecursion (λ m. AllByRecursion (λ n. bytes_eq m n ≡ false) ys) xs → AreDistinctNames (xs ++ ys)
distinct_both [] ys h k l = k
distinct_both (x ∷ xs) ys h k l = (unnamed_both x xs ys h.0 (unnamed x ys l.0), distinct_both xs ys h.1 k l.1)

distinct_all : (k : ℕ) (vs : Variables) → AreDistinctNames (all_names k vs)
distinct_all k [] = tt
distinct_all k (v ∷ vs) =
    distinct_both (new_names k v.1) (all_names (suc k) vs) (distinct_new k v.1) (distinct_all (suc k) vs)
    (all-become (HasNumber k) (λ m. AllByRecursion (λ n. bytes_eq m n ≡ false) (all_names (suc k) vs)) (λ m h. later_names k (suc k) m vs h (omega arith)) (new_names k v.1) (names_have k v.1))

pub new_names_differ : NewNamesDiffer
new_names_differ vs = distinct_all 0 vs
