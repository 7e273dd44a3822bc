-- The places of members of an enum type stand in the order of the members.
use Rattle.std.proofs.Common.{◌≡◌, ℕ, suc, ◌<◌, Bool, true, false, cond, ◌&&◌, ◌||◌, List, [], ◌∷◌, map, refl, sym, ap, ◌∙◌, arith}
use Rattle.std.specs.Prelude.{IsUtf8, bytes_eq, Some, IfSome}
use Rattle.std.specs.Str.{chars}
use Rattle.std.specs.Cmp.{first_so, second_so, nat_cmp_is}
use Rattle.std.specs.List.{AllByRecursion, list_any}
use Rattle.std.specs.Map.{lookup}
use Rattle.std.proofs.lemmas.Map.Text.{is_eq-slice_cmp}
use Rattle.std.proofs.lemmas.Slice.Eq.{bytes_eq-Decides}
use Rattle.std.proofs.lemmas.Cmp.{nat_list_cmp_total, nat_cmp_total}
use Rattle.std.specs.Ordering.{nat_cmp, ordering_reverse, is_eq, is_lt}
use Rattle.std.specs.FinMap.{nat_cmp-IsAntisymmetric}
use Rattle.law_theorem.proofs.Orderings.{nat_less}
use Rattle.law_terms.proofs.Sorted.{less-is}
use Rattle.std.specs.declared.cmp.Ordering.{Ordering}
use Rattle.std.specs.declared.cmp.Ordering.TheVariants.{Less, Equal, Greater}
use Rattle.law_terms.specs.ValueOrder.{text_cmp, is_below, ascends}
use Rattle.law_terms.proofs.ValueOrder.{text_same, text_itself}
use Rattle.law_terms.proofs.Utf8Order.{utf8_order}
use Rattle.law_terms.specs.TypeValues.{Enums, members_of, AreEnums, AreAscending}
use Rattle.law_lines.specs.EntryNames.{place_of}

-- ---- look-ups

-- the order holds texts equal where their bytes are
pub tests_same : (s t : List ℕ) → bytes_eq s t ≡ is_eq (text_cmp s t)
tests_same s t = sym (is_eq-slice_cmp s t)

found_in : (test : List ℕ → Bool) (enums : Enums) → AreEnums enums → IfSome (lookup test enums) AreAscending
found_in test [] h = tt
found_in test (e ∷ es) h = by (test e.0) (found_in test es h.1)
  where
    by : (b : Bool) → IfSome (lookup test es) AreAscending → IfSome (cond b (Some e.1) (lookup test es)) AreAscending
    by true r = h.0
    by false r = r

pub members_found : (enums : Enums) (e : List ℕ) → AreEnums enums → IfSome (members_of enums e) AreAscending
members_found enums e h = found_in (bytes_eq e) enums h

-- ---- members by their characters

below_chars : (m : List ℕ) (ms : List (List ℕ)) → IsUtf8 m → AllByRecursion IsUtf8 ms → is_below text_cmp m ms ≡ true → is_below text_cmp (chars m) (map chars ms) ≡ true
below_chars m [] u h k = refl
below_chars m (x ∷ ms) u h k = ap is_lt (sym (utf8_order m x u h.0)) ∙ k

pub ascends_chars : (ms : List (List ℕ)) → AllByRecursion IsUtf8 ms → ascends text_cmp ms ≡ true → ascends text_cmp (map chars ms) ≡ true
ascends_chars [] h k = refl
ascends_chars (m ∷ ms) h k = both (below_chars m ms h.0 h.1 (first_so (is_below text_cmp m ms) (ascends text_cmp ms) k)) (ascends_chars ms h.1 (second_so (is_below text_cmp m ms) (ascends text_cmp ms) k))
  where
    both : {a b : Bool} → a ≡ true → b ≡ true → (a && b) ≡ true
    both p q = λ i. p i && q i

pub any_chars : (i : List ℕ) (ms : List (List ℕ)) → list_any (λ m. bytes_eq (chars m) i) ms ≡ true → list_any (λ m. bytes_eq m i) (map chars ms) ≡ true
any_chars i [] h = h
any_chars i (m ∷ ms) h = by (bytes_eq (chars m) i) (list_any (λ x. bytes_eq (chars x) i) ms) h (any_chars i ms)
  where
    by : (a b : Bool) → (a || b) ≡ true → (b ≡ true → list_any (λ x. bytes_eq x i) (map chars ms) ≡ true) → (a || list_any (λ x. bytes_eq x i) (map chars ms)) ≡ true
    by true b e f = refl
    by false b e f = f e

-- ---- places

later_member : (y z : List ℕ) (ys : List (List ℕ)) → bytes_eq y z ≡ false → list_any (λ m. bytes_eq m z) (y ∷ ys) ≡ true → list_any (λ m. bytes_eq m z) ys ≡ true
later_member y z ys p q = sym (ap (λ b. b || list_any (λ m. bytes_eq m z) ys) p) ∙ q

pub behind : (x : List ℕ) (ys : List (List ℕ)) (z : List ℕ) → is_below text_cmp x ys ≡ true → ascends text_cmp ys ≡ true → list_any (λ m. bytes_eq m z) ys ≡ true → text_cmp x z ≡ Less
behind x [] z h g k = cc
behind x (y ∷ ys) z h g k =
    by (text_cmp y z) refl (λ e. behind y ys z (first_so (is_below text_cmp y ys) (ascends text_cmp ys) g) (second_so (is_below text_cmp y ys) (ascends text_cmp ys) g) (later_member y z ys e k))
  where
    by : (o : Ordering) → text_cmp y z ≡ o → (bytes_eq y z ≡ false → text_cmp y z ≡ Less) → text_cmp x z ≡ Less
    by Less e r = nat_list_cmp_total.trans x y z (less-is (text_cmp x y) h) e
    by Equal e r = ap (text_cmp x) (sym (text_same y z e)) ∙ less-is (text_cmp x y) h
    by Greater e r = nat_list_cmp_total.trans x y z (less-is (text_cmp x y) h) (r (tests_same y z ∙ ap is_eq e))

next_numbers : (m n : ℕ) → nat_cmp (suc m) (suc n) ≡ nat_cmp m n
next_numbers m n = by (nat_cmp m n) refl
  where
    by : (o : Ordering) → nat_cmp m n ≡ o → nat_cmp (suc m) (suc n) ≡ o
    by Less e = let h : m < n = nat_less m n e in sym (nat_cmp_is (suc m) (suc n) Less (omega arith))
    by Equal e = let h : m ≡ n = nat_cmp-IsAntisymmetric m n e in sym (nat_cmp_is (suc m) (suc n) Equal (omega arith))
    by Greater e = let h : n < m = nat_less n m (nat_cmp_total.antisymm n m ∙ ap ordering_reverse e) in sym (nat_cmp_is (suc m) (suc n) Greater (omega arith))

-- the places of two members
abbrev IsMember : List ℕ → List (List ℕ) → Type 0
IsMember i ms = list_any (λ m. bytes_eq m i) ms ≡ true

pub places_ordered : (ms : List (List ℕ)) → ascends text_cmp ms ≡ true → (i j : List ℕ) → IsMember i ms → IsMember j ms → nat_cmp (place_of i ms) (place_of j ms) ≡ text_cmp i j
places_ordered [] h i j p q = cc
places_ordered (m ∷ ms) h i j p q = by (text_cmp m i) (text_cmp m j) refl refl (λ e f. places_ordered ms (second_so (is_below text_cmp m ms) (ascends text_cmp ms) h) i j (later_member m i ms e p) (later_member m j ms f q))
  where
    below : is_below text_cmp m ms ≡ true
    below = first_so (is_below text_cmp m ms) (ascends text_cmp ms) h

    rest : ascends text_cmp ms ≡ true
    rest = second_so (is_below text_cmp m ms) (ascends text_cmp ms) h

    later : (k : List ℕ) → bytes_eq m k ≡ false → IsMember k (m ∷ ms) → IsMember k ms
    later k e g = sym (ap (λ b. b || list_any (λ x. bytes_eq x k) ms) e) ∙ g

    turned : (k : List ℕ) → bytes_eq k m ≡ bytes_eq m k
    turned k = tests_same k m ∙ (ap is_eq (nat_list_cmp_total.antisymm k m) ∙ reversed (text_cmp m k)) ∙ sym (tests_same m k)
      where
        reversed : (o : Ordering) → is_eq (ordering_reverse o) ≡ is_eq o
        reversed Less = refl
        reversed Equal = refl
        reversed Greater = refl

    at_first : (k : List ℕ) → bytes_eq m k ≡ true → place_of k (m ∷ ms) ≡ 0
    at_first k e = ap (λ b. cond b 0 (suc (place_of k ms))) (turned k ∙ e)

    at_later : (k : List ℕ) → bytes_eq m k ≡ false → place_of k (m ∷ ms) ≡ suc (place_of k ms)
    at_later k e = ap (λ b. cond b 0 (suc (place_of k ms))) (turned k ∙ e)

    goal_of : (a b : ℕ) → place_of i (m ∷ ms) ≡ a → place_of j (m ∷ ms) ≡ b → nat_cmp a b ≡ text_cmp i j → nat_cmp (place_of i (m ∷ ms)) (place_of j (m ∷ ms)) ≡ text_cmp i j
    goal_of a b e f g = (λ k. nat_cmp (e k) (f k)) ∙ g

    both_later : (bytes_eq m i ≡ false → bytes_eq m j ≡ false → nat_cmp (place_of i ms) (place_of j ms) ≡ text_cmp i j) → bytes_eq m i ≡ false → bytes_eq m j ≡ false → nat_cmp (place_of i (m ∷ ms)) (place_of j (m ∷ ms)) ≡ text_cmp i j
    both_later r e f = goal_of (suc (place_of i ms)) (suc (place_of j ms)) (at_later i e) (at_later j f) (next_numbers (place_of i ms) (place_of j ms) ∙ r e f)

    first_i : bytes_eq m i ≡ true → m ≡ i
    first_i e = (bytes_eq-Decides m i).0 e

    first_j : bytes_eq m j ≡ true → m ≡ j
    first_j e = (bytes_eq-Decides m j).0 e

    i_first : bytes_eq m i ≡ true → bytes_eq m j ≡ false → nat_cmp (place_of i (m ∷ ms)) (place_of j (m ∷ ms)) ≡ text_cmp i j
    i_first e f = goal_of 0 (suc (place_of j ms)) (at_first i e) (at_later j f) (sym (nat_cmp_is 0 (suc (place_of j ms)) Less (omega arith)) ∙ (sym (behind m ms j below rest (later j f q)) ∙ ap (λ x. text_cmp x j) (first_i e)))

    j_first : bytes_eq m i ≡ false → bytes_eq m j ≡ true → nat_cmp (place_of i (m ∷ ms)) (place_of j (m ∷ ms)) ≡ text_cmp i j
    j_first e f = goal_of (suc (place_of i ms)) 0 (at_later i e) (at_first j f) (sym (nat_cmp_is (suc (place_of i ms)) 0 Greater (omega arith)) ∙ (sym (ap ordering_reverse (behind m ms i below rest (later i e p))) ∙ (sym (nat_list_cmp_total.antisymm i m) ∙ ap (λ x. text_cmp i x) (first_j f))))

    both_first : bytes_eq m i ≡ true → bytes_eq m j ≡ true → nat_cmp (place_of i (m ∷ ms)) (place_of j (m ∷ ms)) ≡ text_cmp i j
    both_first e f = goal_of 0 0 (at_first i e) (at_first j f) (sym (nat_cmp_is 0 0 Equal refl) ∙ (sym (text_itself i) ∙ ap (λ x. text_cmp i x) (sym (first_i e) ∙ first_j f)))

    by : (o r : Ordering) → text_cmp m i ≡ o → text_cmp m j ≡ r → (bytes_eq m i ≡ false → bytes_eq m j ≡ false → nat_cmp (place_of i ms) (place_of j ms) ≡ text_cmp i j) → nat_cmp (place_of i (m ∷ ms)) (place_of j (m ∷ ms)) ≡ text_cmp i j
    by Equal Equal e f again = both_first (tests_same m i ∙ ap is_eq e) (tests_same m j ∙ ap is_eq f)
    by Equal Less e f again = i_first (tests_same m i ∙ ap is_eq e) (tests_same m j ∙ ap is_eq f)
    by Equal Greater e f again = i_first (tests_same m i ∙ ap is_eq e) (tests_same m j ∙ ap is_eq f)
    by Less Equal e f again = j_first (tests_same m i ∙ ap is_eq e) (tests_same m j ∙ ap is_eq f)
    by Greater Equal e f again = j_first (tests_same m i ∙ ap is_eq e) (tests_same m j ∙ ap is_eq f)
    by Less Less e f again = both_later again (tests_same m i ∙ ap is_eq e) (tests_same m j ∙ ap is_eq f)
    by Less Greater e f again = both_later again (tests_same m i ∙ ap is_eq e) (tests_same m j ∙ ap is_eq f)
    by Greater Less e f again = both_later again (tests_same m i ∙ ap is_eq e) (tests_same m j ∙ ap is_eq f)
    by Greater Greater e f again = both_later again (tests_same m i ∙ ap is_eq e) (tests_same m j ∙ ap is_eq f)
