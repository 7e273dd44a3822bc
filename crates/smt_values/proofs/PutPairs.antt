-- Pairs into which one was put in its place, seen by the bytes of their keys.
use Rattle.std.proofs.Common.{◌≡◌, ℕ, List, [], ◌∷◌, ◌++◌, map, refl, sym, ap, ◌∙◌, subst}
use Rattle.std.proofs.lemmas.Cmp.{nat_list_cmp_total}
use Rattle.std.proofs.lemmas.List.{map-append}
use Rattle.std.specs.BTreeMap.{insert_entry}
use Rattle.std.specs.BTreeSet.{insert_key}
use Rattle.std.specs.Map.{keys_of}
use Rattle.std.specs.Ordering.{match_ordering}
use Rattle.std.specs.Prelude.{IsTrue, OnErr, OnOk, Result, Ok, Err}
use Rattle.std.specs.Rc.{rc_str_bytes}
use Rattle.std.specs.declared.alloc.Global.{Global}
use Rattle.std.specs.declared.cmp.Ordering.{Ordering}
use Rattle.std.specs.declared.cmp.Ordering.TheVariants.{Less, Equal, Greater}
use Rattle.std.specs.declared.rc.RcStr.{RcStr}
use Rattle.law_terms.proofs.Sorted.{ascends-inserted}
use Rattle.law_terms.proofs.ValueOrder.{text_same}
use Rattle.law_terms.specs.ValueOrder.{ascends, text_cmp}
use Rattle.smt_term.proofs.PutTexts.{by_bytes}
use Rattle.smt_term.proofs.SortedPairs.{said-inserted, sorted-push}
use Rattle.smt_term.specs.SortedPairs.{sorted_pairs}
use Rattle.smt_values.specs.Named.{named}

-- ---- the keys ascend

module _ {X : Type 0} (k : List ℕ) (v : X) where
  keys-chosen : (r : Ordering) (e : List ℕ × X) (es inserted : List (List ℕ × X)) (ks : List (List ℕ)) → keys_of inserted ≡ ks
      → keys_of (match_ordering r ((k, v) ∷ e ∷ es) ((e.0, v) ∷ es) (e ∷ inserted)) ≡ match_ordering r (k ∷ e.0 ∷ keys_of es) (e.0 ∷ keys_of es) (e.0 ∷ ks)
  keys-chosen Less e es inserted ks h = refl
  keys-chosen Equal e es inserted ks h = refl
  keys-chosen Greater e es inserted ks h = ap (λ l. e.0 ∷ l) h

  keys-put : (es : List (List ℕ × X)) → keys_of (insert_entry text_cmp es k v) ≡ insert_key text_cmp (keys_of es) k
  keys-put [] = refl
  keys-put (e ∷ es) = keys-chosen (text_cmp k e.0) e es (insert_entry text_cmp es k v) (insert_key text_cmp (keys_of es) k) (keys-put es)

  -- the keys of pairs into which one was put ascend, where they did before
  pub keys_ascend : (es : List (List ℕ × X)) → IsTrue (ascends text_cmp (keys_of es)) → IsTrue (ascends text_cmp (keys_of (insert_entry text_cmp es k v)))
  keys_ascend es h = subst (λ ks. IsTrue (ascends text_cmp ks)) (sym (keys-put es)) (ascends-inserted text_cmp nat_list_cmp_total k (keys_of es) h)

-- ---- keys that are seen by their bytes

module _ {K X Y : Type 0} (own : K → K → Ordering) (bytes : K → List ℕ) (view : X → Y) (is : (a b : K) → own a b ≡ text_cmp (bytes a) (bytes b)) where
  abbrev pub seen : K × X → List ℕ × Y
  seen p = (bytes p.0, view p.1)

  keys-seen : (ps : List (K × X)) → keys_of (map seen ps) ≡ map (λ p. bytes p.0) ps
  keys-seen [] = refl
  keys-seen (p ∷ ps) = ap (λ l. bytes p.0 ∷ l) (keys-seen ps)

  pub seen_put : (es new : List (K × X)) (k : K) (v : X) → new ≡ insert_entry own es k v → map seen new ≡ insert_entry text_cmp (map seen es) (bytes k) (view v)
  seen_put es new k v put = ap (map seen) put ∙ said-inserted own text_cmp bytes view is es k v

  pub ascend_put : (es new : List (K × X)) (k : K) (v : X) → new ≡ insert_entry own es k v → IsTrue (ascends text_cmp (map (λ p. bytes p.0) es)) → IsTrue (ascends text_cmp (map (λ p. bytes p.0) new))
  ascend_put es new k v put h =
      subst (λ ks. IsTrue (ascends text_cmp ks)) (ap keys_of (sym (seen_put es new k v put)) ∙ keys-seen new)
      (keys_ascend (bytes k) (view v) (map seen es) (subst (λ ks. IsTrue (ascends text_cmp ks)) (sym (keys-seen es)) h))

-- ---- attributes

module _ {X U E : Type 0} (r : Result U E) (es new : List (RcStr Global × X)) (k : RcStr Global) (v : X) where
  -- what is put by a call that answers Ok
  pub named_put : OnOk r (new ≡ insert_entry by_bytes es k v) → OnOk r (map named new ≡ insert_entry text_cmp (map named es) (rc_str_bytes k) v)
  named_put h = put_where r h
    where
      put_where : (r : Result U E) → OnOk r (new ≡ insert_entry by_bytes es k v) → OnOk r (map named new ≡ insert_entry text_cmp (map named es) (rc_str_bytes k) v)
      put_where (Ok u) h = seen_put by_bytes rc_str_bytes (λ v. v) (λ a b. refl) es new k v h
      put_where (Err e) h = tt

  -- the attributes ascend, whatever the call answers
  pub attributes_ascend : OnOk r (new ≡ insert_entry by_bytes es k v) → OnErr r (new ≡ es) → IsTrue (ascends text_cmp (map (λ p. rc_str_bytes p.0) es)) → IsTrue (ascends text_cmp (map (λ p. rc_str_bytes p.0) new))
  attributes_ascend put same h = ascend_where r put same
    where
      ascend_where : (r : Result U E) → OnOk r (new ≡ insert_entry by_bytes es k v) → OnErr r (new ≡ es) → IsTrue (ascends text_cmp (map (λ p. rc_str_bytes p.0) new))
      ascend_where (Ok u) put same = ascend_put by_bytes rc_str_bytes (λ v. v) (λ a b. refl) es new k v put h
      ascend_where (Err e) put same = subst (λ ps. IsTrue (ascends text_cmp (map (λ p. rc_str_bytes p.0) ps))) (sym same) h

-- one step of a loop that puts pairs into a map
pub attribute_put : {X : Type 0} (given : List (RcStr Global × X)) (p : RcStr Global × X) (found found' : List (RcStr Global × X)) → found' ≡ insert_entry by_bytes found p.0 p.1
    → map named found ≡ sorted_pairs text_cmp (map named given) → map named found' ≡ sorted_pairs text_cmp (map named (given ++ p ∷ []))
attribute_put given p found found' put so_far =
    seen_put by_bytes rc_str_bytes (λ v. v) (λ a b. refl) found found' p.0 p.1 put
    ∙ ap (λ es. insert_entry text_cmp es (rc_str_bytes p.0) p.1) so_far
    ∙ sym (sorted-push text_cmp nat_list_cmp_total text_same (map named given) (named p))
    ∙ ap (sorted_pairs text_cmp) (sym (map-append named given (p ∷ [])))
