-- The items of a list in order: they ascend strictly, and are those of the list.
use Rattle.std.proofs.Common.{◌≡◌, true, List, [], ◌∷◌, refl, sym, ap, ◌∙◌}
use Rattle.std.specs.Prelude.{◌⊎◌}
use Rattle.std.specs.BTreeSet.{insert_key}
use Rattle.std.specs.Cmp.{IsTotalOrder, first_so, second_so, tied_itself}
use Rattle.std.specs.Cmp.Derive.{both_true}
use Rattle.std.specs.List.{AllByRecursion}
use Rattle.std.specs.Ordering.{ordering_reverse, match_ordering, is_lt}
use Rattle.std.specs.declared.cmp.Ordering.{Ordering}
use Rattle.std.specs.declared.cmp.Ordering.TheVariants.{Less, Equal, Greater}
use mathlib.Core.Logic.{inl, inr, ⊎_elim}
use Rattle.law_terms.specs.ValueOrder.{is_below, ascends, sorted}

abbrev pub IsIn : {X : Type 0} → X → List X → Type 0
IsIn x [] = ⊥
IsIn x (y ∷ ys) = (x ≡ y) ⊎ IsIn x ys

pub less-is : (o : Ordering) → is_lt o ≡ true → o ≡ Less
less-is Less h = refl
less-is Equal h = cc
less-is Greater h = cc

module _ {K : Type 0} (cmp : K → K → Ordering) (o : IsTotalOrder cmp) where
  below-chosen : (x k y : K) (ys rest : List K) (r : Ordering) → is_lt (cmp x k) ≡ true → is_lt (cmp x y) ≡ true → is_below cmp x (match_ordering r (k ∷ y ∷ ys) (y ∷ ys) (y ∷ rest)) ≡ true
  below-chosen x k y ys rest Less h g = h
  below-chosen x k y ys rest Equal h g = g
  below-chosen x k y ys rest Greater h g = g

  below-inserted : (x k : K) (xs : List K) → is_lt (cmp x k) ≡ true → is_below cmp x xs ≡ true → is_below cmp x (insert_key cmp xs k) ≡ true
  below-inserted x k [] h g = h
  below-inserted x k (y ∷ ys) h g = below-chosen x k y ys (insert_key cmp ys k) (cmp k y) h g

  turned-less : (x k : K) → cmp k x ≡ Greater → is_lt (cmp x k) ≡ true
  turned-less x k e = ap is_lt (o.antisymm x k ∙ ap ordering_reverse e)

  ascends-chosen : (k x : K) (xs : List K) (r : Ordering) → cmp k x ≡ r → ascends cmp (x ∷ xs) ≡ true → ascends cmp (insert_key cmp xs k) ≡ true → ascends cmp (match_ordering r (k ∷ x ∷ xs) (x ∷ xs) (x ∷ insert_key cmp xs k)) ≡ true
  ascends-chosen k x xs Less e h g = both_true (ap is_lt e) h
  ascends-chosen k x xs Equal e h g = h
  ascends-chosen k x xs Greater e h g = both_true (below-inserted x k xs (turned-less x k e) (first_so (is_below cmp x xs) (ascends cmp xs) h)) g

  pub ascends-inserted : (k : K) (xs : List K) → ascends cmp xs ≡ true → ascends cmp (insert_key cmp xs k) ≡ true
  ascends-inserted k [] h = refl
  ascends-inserted k (x ∷ xs) h = ascends-chosen k x xs (cmp k x) refl h (ascends-inserted k xs (second_so (is_below cmp x xs) (ascends cmp xs) h))

  pub ascends-sorted : (ks : List K) → ascends cmp (sorted cmp ks) ≡ true
  ascends-sorted [] = refl
  ascends-sorted (k ∷ ks) = ascends-inserted k (sorted cmp ks) (ascends-sorted ks)

  -- what stands behind the first is greater
  behind : (x : K) (ys : List K) (z : K) → is_below cmp x ys ≡ true → ascends cmp ys ≡ true → IsIn z ys → cmp x z ≡ Less
  behind x [] z h g k = absurd k
  behind x (y ∷ ys) z h g k =
      ⊎_elim (λ e. ap (λ u. cmp x u) e ∙ less-is (cmp x y) h) (λ m. o.trans x y z (less-is (cmp x y) h) (behind y ys z (first_so (is_below cmp y ys) (ascends cmp ys) g) (second_so (is_below cmp y ys) (ascends cmp ys) g) m)) k

  not-less : (x : K) → cmp x x ≡ Less → ⊥
  not-less x h = let e : cmp x x ≡ Equal = tied_itself o x in let f : Less ≡ Equal = sym h ∙ e in cc

  -- the second first is behind no element of the first list that is behind it
  heads : (x : K) (xs : List K) (y : K) (ys : List K) → ascends cmp (x ∷ xs) ≡ true → ascends cmp (y ∷ ys) ≡ true → IsIn x (y ∷ ys) → IsIn y (x ∷ xs) → x ≡ y
  heads x xs y ys h g i j =
      ⊎_elim (λ e. e) (λ m. ⊎_elim (λ e. sym e) (λ n. absurd (not-less x (o.trans x y x (behind x xs y (first_so (is_below cmp x xs) (ascends cmp xs) h) (second_so (is_below cmp x xs) (ascends cmp xs) h) n) (behind y ys x (first_so (is_below cmp y ys) (ascends cmp ys) g) (second_so (is_below cmp y ys) (ascends cmp ys) g) m)))) j) i

  rest-in : (x : K) (xs : List K) (y : K) (ys : List K) → ascends cmp (x ∷ xs) ≡ true → x ≡ y → ((z : K) → IsIn z (x ∷ xs) → IsIn z (y ∷ ys)) → (z : K) → IsIn z xs → IsIn z ys
  rest-in x xs y ys h e f z m =
      ⊎_elim (λ k. absurd (not-less x (ap (λ u. cmp x u) (e ∙ sym k) ∙ behind x xs z (first_so (is_below cmp x xs) (ascends cmp xs) h) (second_so (is_below cmp x xs) (ascends cmp xs) h) m))) (λ k. k) (f z (inr m))

  -- two lists that ascend and have the same elements are one
  pub one_list : (xs ys : List K) → ascends cmp xs ≡ true → ascends cmp ys ≡ true → ((z : K) → IsIn z xs → IsIn z ys) → ((z : K) → IsIn z ys → IsIn z xs) → xs ≡ ys
  one_list [] [] h g f k = refl
  one_list [] (y ∷ ys) h g f k = absurd (k y (inl refl))
  one_list (x ∷ xs) [] h g f k = absurd (f x (inl refl))
  one_list (x ∷ xs) (y ∷ ys) h g f k =
      let e : x ≡ y = heads x xs y ys h g (f x (inl refl)) (k y (inl refl)) in
      let r : xs ≡ ys = one_list xs ys (second_so (is_below cmp x xs) (ascends cmp xs) h) (second_so (is_below cmp y ys) (ascends cmp ys) g) (rest-in x xs y ys h e f) (rest-in y ys x xs g (sym e) k) in
      λ i. e i ∷ r i

-- what holds of each item of a list holds of each in order
module _ {K : Type 0} (cmp : K → K → Ordering) (P : K → Type 0) where
  all-chosen : (k x : K) (xs rest : List K) (r : Ordering) → P k → P x → AllByRecursion P xs → AllByRecursion P rest → AllByRecursion P (match_ordering r (k ∷ x ∷ xs) (x ∷ xs) (x ∷ rest))
  all-chosen k x xs rest Less p q s t = (p, (q, s))
  all-chosen k x xs rest Equal p q s t = (q, s)
  all-chosen k x xs rest Greater p q s t = (q, t)

  pub all-inserted : (k : K) (xs : List K) → P k → AllByRecursion P xs → AllByRecursion P (insert_key cmp xs k)
  all-inserted k [] p h = (p, tt)
  all-inserted k (x ∷ xs) p h = all-chosen k x xs (insert_key cmp xs k) (cmp k x) p h.0 h.1 (all-inserted k xs p h.1)

  pub all-sorted : (ks : List K) → AllByRecursion P ks → AllByRecursion P (sorted cmp ks)
  all-sorted [] h = tt
  all-sorted (k ∷ ks) h = all-inserted k (sorted cmp ks) h.0 (all-sorted ks h.1)

-- an item in order is one of the list
module _ {K : Type 0} (cmp : K → K → Ordering) where
  out-chosen : (k x z : K) (xs rest : List K) (r : Ordering) → (IsIn z rest → IsIn z (k ∷ xs)) → IsIn z (match_ordering r (k ∷ x ∷ xs) (x ∷ xs) (x ∷ rest)) → IsIn z (k ∷ x ∷ xs)
  out-chosen k x z xs rest Less f m = m
  out-chosen k x z xs rest Equal f m = inr m
  out-chosen k x z xs rest Greater f m = ⊎_elim (λ p. inr (inl p)) (λ p. ⊎_elim (λ q. inl q) (λ q. inr (inr q)) (f p)) m

  pub out-inserted : (k z : K) (xs : List K) → IsIn z (insert_key cmp xs k) → IsIn z (k ∷ xs)
  out-inserted k z [] m = m
  out-inserted k z (x ∷ xs) m = out-chosen k x z xs (insert_key cmp xs k) (cmp k x) (out-inserted k z xs) m

  pub out-sorted : (z : K) (ks : List K) → IsIn z (sorted cmp ks) → IsIn z ks
  out-sorted z [] m = m
  out-sorted z (k ∷ ks) m = ⊎_elim (λ p. inl p) (λ p. inr (out-sorted z ks p)) (out-inserted k z (sorted cmp ks) m)

-- and each item of the list is in order, where items that tie are one
module _ {K : Type 0} (cmp : K → K → Ordering) (same : (x y : K) → cmp x y ≡ Equal → x ≡ y) where
  in-chosen : (k x z : K) (xs rest : List K) (r : Ordering) → cmp k x ≡ r → (IsIn z (k ∷ xs) → IsIn z rest) → IsIn z (k ∷ x ∷ xs) → IsIn z (match_ordering r (k ∷ x ∷ xs) (x ∷ xs) (x ∷ rest))
  in-chosen k x z xs rest Less e f m = m
  in-chosen k x z xs rest Equal e f m = ⊎_elim (λ p. inl (p ∙ same k x e)) (λ p. p) m
  in-chosen k x z xs rest Greater e f m = ⊎_elim (λ p. inr (f (inl p))) (λ p. ⊎_elim (λ q. inl q) (λ q. inr (f (inr q))) p) m

  pub in-inserted : (k z : K) (xs : List K) → IsIn z (k ∷ xs) → IsIn z (insert_key cmp xs k)
  in-inserted k z [] m = m
  in-inserted k z (x ∷ xs) m = in-chosen k x z xs (insert_key cmp xs k) (cmp k x) refl (in-inserted k z xs) m

  pub in-sorted : (z : K) (ks : List K) → IsIn z ks → IsIn z (sorted cmp ks)
  in-sorted z [] m = m
  in-sorted z (k ∷ ks) m = in-inserted k z (sorted cmp ks) (⊎_elim (λ p. inl p) (λ p. inr (in-sorted z ks p)) m)
