-- Pairs of attributes, seen by what their values say.
use Rattle.std.proofs.Common.{◌≡◌, ℕ, ◌≤◌, List, [], ◌∷◌, length, map, take, refl, sym, ap, ◌∙◌, subst}
use Rattle.std.proofs.lemmas.List.{take_all}
use Rattle.std.specs.BTreeMap.{insert_entry}
use Rattle.std.specs.BTreeSet.{insert_key}
use Rattle.std.specs.Map.{keys_of}
use Rattle.std.specs.Ordering.{match_ordering}
use Rattle.std.specs.Prelude.{IsTrue}
use Rattle.std.specs.Rc.{rc_str_bytes}
use Rattle.std.specs.declared.alloc.Global.{Global}
use Rattle.std.specs.declared.cmp.Ordering.{Ordering}
use Rattle.std.specs.declared.cmp.Ordering.TheVariants.{Less, Equal, Greater}
use Rattle.std.specs.declared.rc.RcStr.{RcStr}
use Rattle.law_terms.specs.ValueOrder.{ascends, text_cmp}
use Rattle.smt_term.proofs.SortedPairs.{said-inserted}
use Rattle.smt_term.specs.Pairs.{attributes_in}
use Rattle.smt_term.specs.SortedPairs.{sorted_pairs}
use Rattle.smt_values.specs.Named.{named}

-- ---- values that say something

module _ {X Y : Type 0} (view : X → Y) where
  abbrev valued : List ℕ × X → List ℕ × Y
  valued p = (p.0, view p.1)

  chosen : (o : Ordering) (a b c : List (List ℕ × X)) → map valued (match_ordering o a b c) ≡ match_ordering o (map valued a) (map valued b) (map valued c)
  chosen Less a b c = refl
  chosen Equal a b c = refl
  chosen Greater a b c = refl

  inserted : (p : List ℕ × X) (ps : List (List ℕ × X)) → map valued (insert_key (λ p q. text_cmp p.0 q.0) ps p) ≡ insert_key (λ p q. text_cmp p.0 q.0) (map valued ps) (valued p)
  inserted p [] = refl
  inserted p (q ∷ ps) =
      chosen (text_cmp p.0 q.0) (p ∷ q ∷ ps) (q ∷ ps) (q ∷ insert_key (λ p q. text_cmp p.0 q.0) ps p)
      ∙ ap (λ l. match_ordering (text_cmp p.0 q.0) (valued p ∷ valued q ∷ map valued ps) (valued q ∷ map valued ps) (valued q ∷ l)) (inserted p ps)

  sorted_values : (ps : List (List ℕ × X)) → map valued (sorted_pairs text_cmp ps) ≡ sorted_pairs text_cmp (map valued ps)
  sorted_values [] = refl
  sorted_values (p ∷ ps) = inserted p (sorted_pairs text_cmp ps) ∙ ap (λ l. insert_key (λ p q. text_cmp p.0 q.0) l (valued p)) (sorted_values ps)

-- ---- pairs of attributes

module _ {X Y : Type 0} (view : X → Y) where
  abbrev pub said : RcStr Global × X → List ℕ × Y
  said p = (rc_str_bytes p.0, view p.1)

  by_name : (ps : List (RcStr Global × X)) → map said ps ≡ map (valued view) (map named ps)
  by_name [] = refl
  by_name (p ∷ ps) = ap (λ l. said p ∷ l) (by_name ps)

  -- what pairs in order say are the pairs that are said, in order
  pub said_sorted : (ps given : List (RcStr Global × X)) → map named ps ≡ sorted_pairs text_cmp (map named given) → map said ps ≡ sorted_pairs text_cmp (map said given)
  said_sorted ps given made = by_name ps ∙ ap (map (valued view)) made ∙ sorted_values view (map named given) ∙ ap (sorted_pairs text_cmp) (sym (by_name given))

  -- what pairs say into which one was put
  pub said_put : (es new : List (RcStr Global × X)) (k : RcStr Global) (v : X) → map named new ≡ insert_entry text_cmp (map named es) (rc_str_bytes k) v
      → map said new ≡ insert_entry text_cmp (map said es) (rc_str_bytes k) (view v)
  said_put es new k v put =
      by_name new
      ∙ ap (map (valued view)) put
      ∙ said-inserted text_cmp text_cmp (λ k. k) view (λ a b. refl) (map named es) (rc_str_bytes k) v
      ∙ ap (λ l. insert_entry text_cmp l (rc_str_bytes k) (view v)) (sym (by_name es))

  attributes-said : (ps : List (RcStr Global × X)) → keys_of (map said ps) ≡ attributes_in ps
  attributes-said [] = refl
  attributes-said (p ∷ ps) = ap (λ l. rc_str_bytes p.0 ∷ l) (attributes-said ps)

  -- the attributes of pairs that say the same ascend alike
  pub alike_ascend : (ps qs : List (RcStr Global × X)) → map said ps ≡ map said qs → IsTrue (ascends text_cmp (attributes_in qs)) → IsTrue (ascends text_cmp (attributes_in ps))
  alike_ascend ps qs same h = subst (λ ks. IsTrue (ascends text_cmp ks)) (sym (attributes-said qs) ∙ ap keys_of (sym same) ∙ attributes-said ps) h

  -- the same of pairs that say what the first ones of others say, where these are all
  pub shared_ascend : (ps all qs : List (RcStr Global × X)) (i : ℕ) → length all ≤ i → map said ps ≡ map said (take i all) → all ≡ qs → IsTrue (ascends text_cmp (attributes_in qs)) → IsTrue (ascends text_cmp (attributes_in ps))
  shared_ascend ps all qs i l same is h = alike_ascend ps qs (same ∙ ap (map said) (take_all i all l ∙ is)) h
