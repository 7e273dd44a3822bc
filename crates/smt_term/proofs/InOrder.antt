-- What ascends strictly is in order.
use Rattle.std.proofs.Common.{◌≡◌, true, List, [], ◌∷◌, refl, ap, ◌∙◌}
use Rattle.std.specs.BTreeSet.{insert_key}
use Rattle.std.specs.Cmp.{first_so, second_so}
use Rattle.std.specs.Cmp.Derive.{both_true}
use Rattle.std.specs.Map.{keys_of}
use Rattle.std.specs.Ordering.{is_lt, match_ordering}
use Rattle.std.specs.declared.cmp.Ordering.{Ordering}
use Rattle.std.specs.declared.cmp.Ordering.TheVariants.{Less, Equal, Greater}
use Rattle.smt_term.specs.SortedPairs.{sorted_pairs}
use Rattle.law_terms.specs.ValueOrder.{ascends, is_below, sorted}

module _ {K : Type 0} (cmp : K → K → Ordering) where
  chosen : (k x : K) (xs rest : List K) (r : Ordering) → is_lt r ≡ true → match_ordering r (k ∷ x ∷ xs) (x ∷ xs) (x ∷ rest) ≡ k ∷ x ∷ xs
  chosen k x xs rest Less h = refl
  chosen k x xs rest Equal h = cc
  chosen k x xs rest Greater h = cc

  first_inserted : (k : K) (xs : List K) → is_below cmp k xs ≡ true → insert_key cmp xs k ≡ k ∷ xs
  first_inserted k [] h = refl
  first_inserted k (x ∷ xs) h = chosen k x xs (insert_key cmp xs k) (cmp k x) h

  pub in_order : (ks : List K) → ascends cmp ks ≡ true → sorted cmp ks ≡ ks
  in_order [] h = refl
  in_order (k ∷ ks) h = ap (λ l. insert_key cmp l k) (in_order ks (second_so (is_below cmp k ks) (ascends cmp ks) h)) ∙ first_inserted k ks (first_so (is_below cmp k ks) (ascends cmp ks) h)

-- pairs ascend as their keys do
module _ {K X : Type 0} (cmp : K → K → Ordering) where
  pairs_below : (p : K × X) (ps : List (K × X)) → is_below cmp p.0 (keys_of ps) ≡ true → is_below (λ q r. cmp q.0 r.0) p ps ≡ true
  pairs_below p [] h = refl
  pairs_below p (q ∷ ps) h = h

  pairs_ascend : (ps : List (K × X)) → ascends cmp (keys_of ps) ≡ true → ascends (λ q r. cmp q.0 r.0) ps ≡ true
  pairs_ascend [] h = refl
  pairs_ascend (p ∷ ps) h =
      both_true (pairs_below p ps (first_so (is_below cmp p.0 (keys_of ps)) (ascends cmp (keys_of ps)) h)) (pairs_ascend ps (second_so (is_below cmp p.0 (keys_of ps)) (ascends cmp (keys_of ps)) h))

  pub pairs_in_order : (ps : List (K × X)) → ascends cmp (keys_of ps) ≡ true → sorted_pairs cmp ps ≡ ps
  pairs_in_order ps h = in_order (λ q r. cmp q.0 r.0) ps (pairs_ascend ps h)
