-- Items in order: what a set keeps of items that are put into it one by one is these items in order.
use Rattle.std.proofs.Common.{◌≡◌, ℕ, ◌+◌, ◌<◌, List, [], ◌∷◌, ◌++◌, map, take, length, get_or, refl, sym, ap, ◌∙◌, arith}
use Rattle.std.proofs.lemmas.Grind.{common_steps}
use Rattle.std.proofs.lemmas.List.{map-append}
use Rattle.std.specs.BTreeSet.{insert_key}
use Rattle.std.specs.Cmp.{IsTotalOrder}
use Rattle.std.specs.Ordering.{match_ordering}
use Rattle.std.specs.declared.cmp.Ordering.{Ordering}
use Rattle.std.specs.declared.cmp.Ordering.TheVariants.{Less, Equal, Greater}
use mathlib.Core.Logic.{inl, inr, ⊎_elim}
use Rattle.law_terms.specs.ValueOrder.{sorted}
use Rattle.law_terms.proofs.Sorted.{IsIn, ascends-inserted, ascends-sorted, in-inserted, in-sorted, one_list, out-inserted, out-sorted}

last_first : {K : Type 0} (z k : K) (xs : List K) → IsIn z (xs ++ k ∷ []) → IsIn z (k ∷ xs)
last_first z k [] m = m
last_first z k (x ∷ xs) m = ⊎_elim (λ e. inr (inl e)) (λ n. ⊎_elim (λ e. inl e) (λ o. inr (inr o)) (last_first z k xs n)) m

first_last : {K : Type 0} (z k : K) (xs : List K) → IsIn z (k ∷ xs) → IsIn z (xs ++ k ∷ [])
first_last z k [] m = m
first_last z k (x ∷ xs) m = ⊎_elim (λ e. inr (first_last z k xs (inl e))) (λ n. ⊎_elim (λ e. inl e) (λ o. inr (first_last z k xs (inr o))) n) m

-- what is in one list is in another, beside an item
beside : {K : Type 0} (z k : K) (xs ys : List K) → (IsIn z xs → IsIn z ys) → IsIn z (k ∷ xs) → IsIn z (k ∷ ys)
beside z k xs ys f m = ⊎_elim (λ e. inl e) (λ n. inr (f n)) m

module _ {K : Type 0} (cmp : K → K → Ordering) (total : IsTotalOrder cmp) (same : (x y : K) → cmp x y ≡ Equal → x ≡ y) where
  -- one item more, put into those in order
  pub sorted-push : (xs : List K) (k : K) → sorted cmp (xs ++ k ∷ []) ≡ insert_key cmp (sorted cmp xs) k
  sorted-push xs k =
      one_list cmp total (sorted cmp (xs ++ k ∷ [])) (insert_key cmp (sorted cmp xs) k)
      (ascends-sorted cmp total (xs ++ k ∷ []))
      (ascends-inserted cmp total k (sorted cmp xs) (ascends-sorted cmp total xs))
      (λ z m. in-inserted cmp same k z (sorted cmp xs) (beside z k xs (sorted cmp xs) (in-sorted cmp same z xs) (last_first z k xs (out-sorted cmp z (xs ++ k ∷ []) m))))
      (λ z m. in-sorted cmp same z (xs ++ k ∷ []) (first_last z k xs (beside z k (sorted cmp xs) xs (out-sorted cmp z xs) (out-inserted cmp k z (sorted cmp xs) m))))

-- a set's `insert`, seen by what the items say
module _ {K L : Type 0} (own : K → K → Ordering) (cmp : L → L → Ordering) (f : K → L) (is : (a b : K) → own a b ≡ cmp (f a) (f b)) where
  said-chosen : (o : Ordering) (a b c : List K) → map f (match_ordering o a b c) ≡ match_ordering o (map f a) (map f b) (map f c)
  said-chosen Less a b c = refl
  said-chosen Equal a b c = refl
  said-chosen Greater a b c = refl

  said-inserted : (xs : List K) (k : K) → map f (insert_key own xs k) ≡ insert_key cmp (map f xs) (f k)
  said-inserted [] k = refl
  said-inserted (x ∷ xs) k =
      said-chosen (own k x) (k ∷ x ∷ xs) (x ∷ xs) (x ∷ insert_key own xs k)
      ∙ (ap (λ o. match_ordering o (f k ∷ f x ∷ map f xs) (f x ∷ map f xs) (f x ∷ map f (insert_key own xs k))) (is k x)
      ∙ ap (λ l. match_ordering (cmp (f k) (f x)) (f k ∷ f x ∷ map f xs) (f x ∷ map f xs) (f x ∷ l)) (said-inserted xs k))

-- one step of a loop that puts items into a set
module _ {K L : Type 0} (own : K → K → Ordering) (cmp : L → L → Ordering) (f : K → L) (is : (a b : K) → own a b ≡ cmp (f a) (f b)) (total : IsTotalOrder cmp) (same : (x y : L) → cmp x y ≡ Equal → x ≡ y) where
  pub item_put : (items : List K) (i : ℕ) (x k : K) (found found' : List K) → i < length items → x ≡ get_or items i x → f k ≡ f x → found' ≡ insert_key own found k
      → map f found ≡ sorted cmp (map f (take i items)) → map f found' ≡ sorted cmp (map f (take (i + 1) items))
  item_put items i x k found found' l at says made before =
      let push : take (i + 1) items ≡ take i items ++ x ∷ [] = grind (arith, common_steps) in
      ap (map f) made ∙ (said-inserted own cmp f is found k ∙ ((λ j. insert_key cmp (before j) (says j)) ∙ (sym (sorted-push cmp total same (map f (take i items)) (f x)) ∙ (ap (sorted cmp) (sym (map-append f (take i items) (x ∷ []))) ∙ ap (λ l. sorted cmp (map f l)) (sym push)))))
