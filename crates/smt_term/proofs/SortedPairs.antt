-- Pairs by key: what a map keeps of pairs that are put into it one by one is these pairs in order.
use Rattle.std.proofs.Common.{◌≡◌, ℕ, ◌+◌, ◌<◌, List, [], ◌∷◌, ◌++◌, map, take, length, get_or, refl, sym, ap, ◌∙◌, arith}
use Rattle.std.proofs.lemmas.Grind.{common_steps}
use Rattle.std.proofs.lemmas.List.{map-append}
use Rattle.std.specs.BTreeMap.{insert_entry}
use Rattle.std.specs.BTreeSet.{insert_key}
use Rattle.std.specs.Cmp.{IsTotalOrder}
use Rattle.std.specs.Ordering.{match_ordering, ordering_reverse}
use Rattle.std.specs.declared.cmp.Ordering.{Ordering}
use Rattle.std.specs.declared.cmp.Ordering.TheVariants.{Less, Equal, Greater}
use Rattle.smt_term.specs.SortedPairs.{sorted_pairs}

-- a map's `insert`, seen by what the keys and values say
module _ {K X L Y : Type 0} (own : K → K → Ordering) (cmp : L → L → Ordering) (f : K → L) (g : X → Y) (is : (a b : K) → own a b ≡ cmp (f a) (f b)) where
  abbrev pub said : K × X → L × Y
  said p = (f p.0, g p.1)

  said-chosen : (o : Ordering) (a b c : List (K × X)) → map said (match_ordering o a b c) ≡ match_ordering o (map said a) (map said b) (map said c)
  said-chosen Less a b c = refl
  said-chosen Equal a b c = refl
  said-chosen Greater a b c = refl

  pub said-inserted : (es : List (K × X)) (k : K) (v : X) → map said (insert_entry own es k v) ≡ insert_entry cmp (map said es) (f k) (g v)
  said-inserted [] k v = refl
  said-inserted (e ∷ es) k v =
      said-chosen (own k e.0) ((k, v) ∷ e ∷ es) ((e.0, v) ∷ es) (e ∷ insert_entry own es k v)
      ∙ (ap (λ o. match_ordering o ((f k, g v) ∷ said e ∷ map said es) ((f e.0, g v) ∷ map said es) (said e ∷ map said (insert_entry own es k v))) (is k e.0)
      ∙ ap (λ l. match_ordering (cmp (f k) (f e.0)) ((f k, g v) ∷ said e ∷ map said es) ((f e.0, g v) ∷ map said es) (said e ∷ l)) (said-inserted es k v))

module _ {K : Type 0} (cmp : K → K → Ordering) (total : IsTotalOrder cmp) where
  turned : (x y : K) (r : Ordering) → cmp x y ≡ r → cmp y x ≡ ordering_reverse r
  turned x y r h = total.antisymm y x ∙ ap ordering_reverse h

  -- what is greater than something is greater than what is less than that
  above : (x y z : K) → cmp x y ≡ Less → cmp z y ≡ Greater → cmp z x ≡ Greater
  above x y z h g = turned x z Less (total.trans x y z h (turned z y Greater g))

  level_above : (x y z : K) → cmp x y ≡ Less → cmp z y ≡ Equal → cmp z x ≡ Greater
  level_above x y z h g = total.congr z y x g ∙ turned x y Less h

module _ {K X : Type 0} (cmp : K → K → Ordering) (total : IsTotalOrder cmp) (same : (x y : K) → cmp x y ≡ Equal → x ≡ y) where
  abbrev by_key : K × X → K × X → Ordering
  by_key p q = cmp p.0 q.0

  -- two pairs in front of others
  abbrev Swaps : K × X → K × X → List (K × X) → Ordering → Ordering → Type 0
  Swaps p q es r s = match_ordering r (p ∷ q ∷ es) (q ∷ es) (q ∷ p ∷ es) ≡ match_ordering s (q ∷ p ∷ es) ((p.0, q.1) ∷ es) (p ∷ q ∷ es)

  swaps : (p q : K × X) (es : List (K × X)) (r : Ordering) → cmp p.0 q.0 ≡ r → Swaps p q es r (ordering_reverse r)
  swaps p q es Less h = refl
  swaps p q es Equal h = ap (λ k. (k, q.1) ∷ es) (sym (same p.0 q.0 h))
  swaps p q es Greater h = refl

  swapped : (p q : K × X) (es : List (K × X)) → Swaps p q es (cmp p.0 q.0) (cmp q.0 p.0)
  swapped p q es = swaps p q es (cmp p.0 q.0) refl ∙ ap (λ s. match_ordering s (q ∷ p ∷ es) ((p.0, q.1) ∷ es) (p ∷ q ∷ es)) (sym (total.antisymm q.0 p.0))

  -- a pair that goes in front of the others, or behind their first
  at_front : (p e : K × X) (es : List (K × X)) (r : Ordering) → cmp p.0 e.0 ≡ r → insert_key by_key (e ∷ es) p ≡ match_ordering r (p ∷ e ∷ es) (e ∷ es) (e ∷ insert_key by_key es p)
  at_front p e es r h = ap (λ o. match_ordering o (p ∷ e ∷ es) (e ∷ es) (e ∷ insert_key by_key es p)) h

  entry_front : (q e : K × X) (es : List (K × X)) (r : Ordering) → cmp q.0 e.0 ≡ r → insert_entry cmp (e ∷ es) q.0 q.1 ≡ match_ordering r (q ∷ e ∷ es) ((e.0, q.1) ∷ es) (e ∷ insert_entry cmp es q.0 q.1)
  entry_front q e es r h = ap (λ o. match_ordering o (q ∷ e ∷ es) ((e.0, q.1) ∷ es) (e ∷ insert_entry cmp es q.0 q.1)) h

  -- whether the one or the other goes in first
  either : (p q e : K × X) (es : List (K × X)) (r s : Ordering) → cmp p.0 e.0 ≡ r → cmp q.0 e.0 ≡ s
      → insert_key by_key (insert_entry cmp es q.0 q.1) p ≡ insert_entry cmp (insert_key by_key es p) q.0 q.1
      → insert_key by_key (match_ordering s (q ∷ e ∷ es) ((e.0, q.1) ∷ es) (e ∷ insert_entry cmp es q.0 q.1)) p ≡ insert_entry cmp (match_ordering r (p ∷ e ∷ es) (e ∷ es) (e ∷ insert_key by_key es p)) q.0 q.1
  either p q e es Less Less h g rest =
      ap (λ l. match_ordering (cmp p.0 q.0) (p ∷ q ∷ e ∷ es) (q ∷ e ∷ es) (q ∷ l)) (at_front p e es Less h)
      ∙ swapped p q (e ∷ es)
      ∙ ap (λ l. match_ordering (cmp q.0 p.0) (q ∷ p ∷ e ∷ es) ((p.0, q.1) ∷ e ∷ es) (p ∷ l)) (sym (entry_front q e es Less g))
  either p q e es Less Equal h g rest = at_front p (e.0, q.1) es Less h ∙ (ap (λ l. p ∷ l) (sym (entry_front q e es Equal g)) ∙ sym (entry_front q p (e ∷ es) Greater (level_above cmp total p.0 e.0 q.0 h g)))
  either p q e es Less Greater h g rest = at_front p e (insert_entry cmp es q.0 q.1) Less h ∙ (ap (λ l. p ∷ l) (sym (entry_front q e es Greater g)) ∙ sym (entry_front q p (e ∷ es) Greater (above cmp total p.0 e.0 q.0 h g)))
  either p q e es Equal Less h g rest = at_front p q (e ∷ es) Greater (level_above cmp total q.0 e.0 p.0 g h) ∙ (ap (λ l. q ∷ l) (at_front p e es Equal h) ∙ sym (entry_front q e es Less g))
  either p q e es Equal Equal h g rest = at_front p (e.0, q.1) es Equal h ∙ sym (entry_front q e es Equal g)
  either p q e es Equal Greater h g rest = at_front p e (insert_entry cmp es q.0 q.1) Equal h ∙ sym (entry_front q e es Greater g)
  either p q e es Greater Less h g rest = at_front p q (e ∷ es) Greater (above cmp total q.0 e.0 p.0 g h) ∙ (ap (λ l. q ∷ l) (at_front p e es Greater h) ∙ sym (entry_front q e (insert_key by_key es p) Less g))
  either p q e es Greater Equal h g rest = at_front p (e.0, q.1) es Greater h ∙ sym (entry_front q e (insert_key by_key es p) Equal g)
  either p q e es Greater Greater h g rest = at_front p e (insert_entry cmp es q.0 q.1) Greater h ∙ (ap (λ l. e ∷ l) rest ∙ sym (entry_front q e (insert_key by_key es p) Greater g))

  swap_in : (p q : K × X) (es : List (K × X)) → insert_key by_key (insert_entry cmp es q.0 q.1) p ≡ insert_entry cmp (insert_key by_key es p) q.0 q.1
  swap_in p q [] = swapped p q []
  swap_in p q (e ∷ es) = either p q e es (cmp p.0 e.0) (cmp q.0 e.0) refl refl (swap_in p q es)

  -- one pair more, put into those in order
  pub sorted-push : (ps : List (K × X)) (q : K × X) → sorted_pairs cmp (ps ++ q ∷ []) ≡ insert_entry cmp (sorted_pairs cmp ps) q.0 q.1
  sorted-push [] q = refl
  sorted-push (p ∷ ps) q = ap (λ l. insert_key by_key l p) (sorted-push ps q) ∙ swap_in p q (sorted_pairs cmp ps)

-- one step of a loop that puts pairs into a map
module _ {K X L Y : Type 0} (own : K → K → Ordering) (cmp : L → L → Ordering) (f : K → L) (g : X → Y) (is : (a b : K) → own a b ≡ cmp (f a) (f b)) (total : IsTotalOrder cmp) (same : (x y : L) → cmp x y ≡ Equal → x ≡ y) where
  pub pair_put : (items : List (K × X)) (i : ℕ) (x : K × X) (k : K) (v : X) (found found' : List (K × X)) → i < length items → x ≡ get_or items i x → f k ≡ f x.0 → g v ≡ g x.1 → found' ≡ insert_entry own found k v
      → map (said own cmp f g is) found ≡ sorted_pairs cmp (map (said own cmp f g is) (take i items)) → map (said own cmp f g is) found' ≡ sorted_pairs cmp (map (said own cmp f g is) (take (i + 1) items))
  pair_put items i x k v found found' l at key value made before =
      let s : K × X → L × Y = said own cmp f g is in
      let push : take (i + 1) items ≡ take i items ++ x ∷ [] = grind (arith, common_steps) in
      ap (map s) made ∙ (said-inserted own cmp f g is found k v ∙ (ap (λ l. insert_entry cmp l (f k) (g v)) before ∙ ((λ j. insert_entry cmp (sorted_pairs cmp (map s (take i items))) (key j) (value j)) ∙ (sym (sorted-push cmp total same (map s (take i items)) (s x)) ∙ (ap (sorted_pairs cmp) (sym (map-append s (take i items) (x ∷ []))) ∙ ap (λ l. sorted_pairs cmp (map s l)) (sym push))))))
