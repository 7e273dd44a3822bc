-- What look-ups find: in pairs in order the last pair of a key, and in a map the pair that was put into it.
use Rattle.std.proofs.Common.{◌≡◌, Bool, true, false, ◌&&◌, List, [], ◌∷◌, ◌++◌, Option, Some, None, cond, refl, sym, ap, ◌∙◌, reverse}
use Rattle.std.specs.BTreeMap.{insert_entry}
use Rattle.std.specs.BTreeSet.{insert_key}
use Rattle.std.specs.Cmp.{IsTotalOrder, first_so, second_so}
use Rattle.std.specs.Map.{keys_of, lookup, update}
use Rattle.std.specs.Option.{option_or}
use Rattle.std.specs.Ordering.{is_eq, match_ordering, ordering_reverse}
use Rattle.std.specs.declared.cmp.Ordering.{Ordering}
use Rattle.std.specs.declared.cmp.Ordering.TheVariants.{Less, Equal, Greater}
use Rattle.std.proofs.lemmas.Cmp.{on_total}
use Rattle.std.proofs.lemmas.List.{reverse-append}
use Rattle.law_terms.specs.ValueOrder.{ascends, is_below}
use Rattle.law_terms.proofs.Sorted.{ascends-sorted, less-is}
use Rattle.smt_term.specs.SortedPairs.{AreLastPairs, sorted_pairs}

or_none : {X : Type 0} (o : Option X) → option_or o None ≡ o
or_none None = refl
or_none (Some x) = refl

or_or : {X : Type 0} (b : Bool) (x : X) (o p : Option X) → cond b (Some x) (option_or o p) ≡ option_or (cond b (Some x) o) p
or_or true x o p = refl
or_or false x o p = refl

lookup-append : {K X : Type 0} (test : K → Bool) (ps qs : List (K × X)) → lookup test (ps ++ qs) ≡ option_or (lookup test ps) (lookup test qs)
lookup-append test [] qs = refl
lookup-append test (p ∷ ps) qs = ap (λ o. cond (test p.0) (Some p.1) o) (lookup-append test ps qs) ∙ or_or (test p.0) p.1 (lookup test ps) (lookup test qs)

turned-equal : (o : Ordering) → is_eq (ordering_reverse o) ≡ is_eq o
turned-equal Less = refl
turned-equal Equal = refl
turned-equal Greater = refl

equal_is : (o : Ordering) → is_eq o ≡ true → o ≡ Equal
equal_is Less h = cc
equal_is Equal h = refl
equal_is Greater h = cc

module _ {K : Type 0} (cmp : K → K → Ordering) (test : K → K → Bool) (total : IsTotalOrder cmp) (tests : (x y : K) → test x y ≡ is_eq (cmp x y)) where
  -- the test of two keys holds of them turned
  turned-test : (x y : K) → test x y ≡ test y x
  turned-test x y = tests x y ∙ (ap is_eq (total.antisymm x y) ∙ (turned-equal (cmp y x) ∙ sym (tests y x)))

module _ {K X : Type 0} (cmp : K → K → Ordering) (test : K → K → Bool) (total : IsTotalOrder cmp) (same : (x y : K) → cmp x y ≡ Equal → x ≡ y) (tests : (x y : K) → test x y ≡ is_eq (cmp x y)) where
  abbrev by_key : K × X → K × X → Ordering
  by_key p q = cmp p.0 q.0

  below-keys : (p : K × X) (ps : List (K × X)) → is_below by_key p ps ≡ is_below cmp p.0 (keys_of ps)
  below-keys p [] = refl
  below-keys p (q ∷ ps) = refl

  ascends-keys : (ps : List (K × X)) → ascends by_key ps ≡ ascends cmp (keys_of ps)
  ascends-keys [] = refl
  ascends-keys (p ∷ ps) = ap (λ b. b && ascends by_key ps) (below-keys p ps) ∙ ap (λ b. is_below cmp p.0 (keys_of ps) && b) (ascends-keys ps)

  -- pairs in order have no key that is below the first
  none_behind : (k : K) (p : K × X) (ps : List (K × X)) → cmp k p.0 ≡ Less → is_below by_key p ps ≡ true → ascends by_key ps ≡ true → lookup (test k) ps ≡ None
  none_behind k p [] h b a = refl
  none_behind k p (q ∷ ps) h b a =
      let below : cmp k q.0 ≡ Less = total.trans k p.0 q.0 h (less-is (cmp p.0 q.0) b) in
      ap (λ b. cond b (Some q.1) (lookup (test k) ps)) (tests k q.0 ∙ ap is_eq below) ∙ none_behind k q ps below (first_so (is_below by_key q ps) (ascends by_key ps) a) (second_so (is_below by_key q ps) (ascends by_key ps) a)

  none_below : (k : K) (p : K × X) (ps : List (K × X)) → cmp k p.0 ≡ Less → ascends by_key (p ∷ ps) ≡ true → lookup (test k) (p ∷ ps) ≡ None
  none_below k p ps h a =
      ap (λ b. cond b (Some p.1) (lookup (test k) ps)) (tests k p.0 ∙ ap is_eq h) ∙ none_behind k p ps h (first_so (is_below by_key p ps) (ascends by_key ps) a) (second_so (is_below by_key p ps) (ascends by_key ps) a)

  -- a pair put before others is found where they have no pair of the key
  chosen : (k : K) (p e : K × X) (es : List (K × X)) (r : Ordering) (b : Bool) → cmp p.0 e.0 ≡ r → test k p.0 ≡ b → ascends by_key (e ∷ es) ≡ true
      → lookup (test k) (insert_key by_key es p) ≡ option_or (lookup (test k) es) (cond b (Some p.1) None)
      → lookup (test k) (match_ordering r (p ∷ e ∷ es) (e ∷ es) (e ∷ insert_key by_key es p)) ≡ option_or (lookup (test k) (e ∷ es)) (cond b (Some p.1) None)
  chosen k p e es Less true h t a rest =
      ap (λ b. cond b (Some p.1) (lookup (test k) (e ∷ es))) t
      ∙ sym (ap (λ o. option_or o (Some p.1)) (none_below k e es (ap (λ x. cmp x e.0) (same k p.0 (equal_is (cmp k p.0) (sym (tests k p.0) ∙ t))) ∙ h) a))
  chosen k p e es Less false h t a rest = ap (λ b. cond b (Some p.1) (lookup (test k) (e ∷ es))) t ∙ sym (or_none (lookup (test k) (e ∷ es)))
  chosen k p e es Equal true h t a rest =
      let found : lookup (test k) (e ∷ es) ≡ Some e.1 = ap (λ b. cond b (Some e.1) (lookup (test k) es)) (ap (test k) (sym (same p.0 e.0 h)) ∙ t) in
      found ∙ sym (ap (λ o. option_or o (Some p.1)) found)
  chosen k p e es Equal false h t a rest = sym (or_none (lookup (test k) (e ∷ es)))
  chosen k p e es Greater b h t a rest = ap (λ o. cond (test k e.0) (Some e.1) o) rest ∙ or_or (test k e.0) e.1 (lookup (test k) es) (cond b (Some p.1) None)

  lookup-inserted : (k : K) (p : K × X) (es : List (K × X)) → ascends by_key es ≡ true → lookup (test k) (insert_key by_key es p) ≡ option_or (lookup (test k) es) (lookup (test k) (p ∷ []))
  lookup-inserted k p [] a = refl
  lookup-inserted k p (e ∷ es) a = chosen k p e es (cmp p.0 e.0) (test k p.0) refl refl a (lookup-inserted k p es (second_so (is_below by_key e es) (ascends by_key es) a))

  in-order : (ps : List (K × X)) → ascends by_key (sorted_pairs cmp ps) ≡ true
  in-order = ascends-sorted by_key (on_total (λ p. p.0) total)

  lookup-sorted : (k : K) (ps : List (K × X)) → lookup (test k) (sorted_pairs cmp ps) ≡ lookup (test k) (reverse ps)
  lookup-sorted k [] = refl
  lookup-sorted k (p ∷ ps) =
      lookup-inserted k p (sorted_pairs cmp ps) (in-order ps)
      ∙ (ap (λ o. option_or o (lookup (test k) (p ∷ []))) (lookup-sorted k ps) ∙ (sym (lookup-append (test k) (reverse ps) (p ∷ [])) ∙ ap (lookup (test k)) (sym (reverse-append (p ∷ []) ps))))

  pub last_pairs : (ps : List (K × X)) → AreLastPairs cmp test ps (sorted_pairs cmp ps)
  last_pairs ps = record { ascending = sym (ascends-keys (sorted_pairs cmp ps)) ∙ in-order ps; last = λ k. lookup-sorted k ps }

  twice : (b : Bool) (v w : X) (o : Option X) → cond b (Some v) o ≡ cond b (Some v) (cond b (Some w) o)
  twice true v w o = refl
  twice false v w o = refl

  placed : (k e : K) (v : X) (p : K × X) (ps : List (K × X)) (r : Ordering) (b : Bool) → cmp k p.0 ≡ r → test k e ≡ b
      → lookup (test e) (insert_entry cmp ps k v) ≡ cond b (Some v) (lookup (test e) ps)
      → lookup (test e) (match_ordering r ((k, v) ∷ p ∷ ps) ((p.0, v) ∷ ps) (p ∷ insert_entry cmp ps k v)) ≡ cond b (Some v) (lookup (test e) (p ∷ ps))
  placed k e v p ps Less b h t rest = ap (λ c. cond c (Some v) (lookup (test e) (p ∷ ps))) (turned-test cmp test total tests e k ∙ t)
  placed k e v p ps Equal b h t rest =
      let here : test e p.0 ≡ b = ap (test e) (sym (same k p.0 h)) ∙ (turned-test cmp test total tests e k ∙ t) in
      ap (λ c. cond c (Some v) (lookup (test e) ps)) here ∙ (twice b v p.1 (lookup (test e) ps) ∙ ap (λ c. cond b (Some v) (cond c (Some p.1) (lookup (test e) ps))) (sym here))
  placed k e v p ps Greater false h t rest = ap (λ o. cond (test e p.0) (Some p.1) o) rest
  placed k e v p ps Greater true h t rest =
      let one : k ≡ e = same k e (equal_is (cmp k e) (sym (tests k e) ∙ t)) in
      let other : test e p.0 ≡ false = tests e p.0 ∙ ap is_eq (ap (λ x. cmp x p.0) (sym one) ∙ h) in
      ap (λ c. cond c (Some p.1) (lookup (test e) (insert_entry cmp ps k v))) other ∙ rest

  -- a pair put into a map is found at its key, and all others as before
  pub lookup-put : (k : K) (v : X) (ps : List (K × X)) (e : K) → lookup (test e) (insert_entry cmp ps k v) ≡ update test (λ q. lookup (test q) ps) k (Some v) e
  lookup-put k v [] e = ap (λ b. cond b (Some v) None) (turned-test cmp test total tests e k)
  lookup-put k v (p ∷ ps) e = placed k e v p ps (cmp k p.0) (test k e) refl refl (lookup-put k v ps e)
