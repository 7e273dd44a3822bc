-- Values by entity types, sorted: what a map keeps of the pairs that are put into it, and what the values say.
use Rattle.std.proofs.Common.{◌≡◌, ℕ, List, [], ◌∷◌, ◌++◌, Ok, Err, Result, IfOk, map, refl, sym, ap, ◌∙◌, subst}
use Rattle.std.proofs.lemmas.Cmp.{nat_list_cmp_total}
use Rattle.std.proofs.lemmas.List.{map-append}
use Rattle.std.proofs.lemmas.Map.Text.{is_eq-slice_cmp}
use Rattle.std.specs.BTreeMap.{insert_entry}
use Rattle.std.specs.BTreeSet.{insert_key}
use Rattle.std.specs.Map.{keys_of}
use Rattle.std.specs.Ordering.{match_ordering}
use Rattle.std.specs.Prelude.{IsTrue, OnErr, OnOk, bytes_eq}
use Rattle.std.specs.declared.cmp.Ordering.{Ordering}
use Rattle.std.specs.declared.cmp.Ordering.TheVariants.{Less, Equal, Greater}
use Rattle.law_terms.proofs.ValueOrder.{text_same}
use Rattle.law_terms.specs.ValueOrder.{ascends, text_cmp}
use Rattle.smt_values.proofs.PutPairs.{ascend_put, seen_put}
use Rattle.smt_term.proofs.LastPairs.{last_pairs}
use Rattle.smt_term.proofs.SortedPairs.{said-inserted, sorted-push}
use Rattle.smt_term.specs.Entities.{bytes_of_type}
use Rattle.smt_term.specs.SortedPairs.{sorted_pairs}
use Rattle.smt_term.specs.contracts.entity.EntityTypeOrd.TheImpl as type_order
use Rattle.smt_term.specs.declared.entity.EntityType.{EntityType}
use Rattle.smt_symbolizer.specs.ByType.{pairs_held, said_by}
use Rattle.smt_symbolizer.specs.Named.{named, said}
use Rattle.smt_symbolizer.specs.declared.by_type.ByType.{ByType}

-- one step of the loop that puts pairs into a map
pub type_put : {V : Type 0} (given : List (EntityType × V)) (p : EntityType × V) (found found' : List (EntityType × V)) → found' ≡ insert_entry type_order.ghosts.cmp found p.0 p.1
    → map named found ≡ sorted_pairs text_cmp (map named given) → map named found' ≡ sorted_pairs text_cmp (map named (given ++ p ∷ []))
type_put given p found found' is so_far =
    ap (map named) is
    ∙ said-inserted type_order.ghosts.cmp text_cmp bytes_of_type (λ v. v) (λ a b. refl) found p.0 p.1
    ∙ ap (λ es. insert_entry text_cmp es (bytes_of_type p.0) p.1) so_far
    ∙ sym (sorted-push text_cmp nat_list_cmp_total text_same (map named given) (named p))
    ∙ ap (sorted_pairs text_cmp) (sym (map-append named given (p ∷ [])))

keys-named : {V : Type 0} (ps : List (EntityType × V)) → keys_of (map named ps) ≡ map (λ p. bytes_of_type p.0) ps
keys-named [] = refl
keys-named (p ∷ ps) = ap (λ l. bytes_of_type p.0 ∷ l) (keys-named ps)

-- the types of pairs in order ascend
pub types_ascend : {V : Type 0} (ps given : List (EntityType × V)) → map named ps ≡ sorted_pairs text_cmp (map named given) → IsTrue (ascends text_cmp (map (λ p. bytes_of_type p.0) ps))
types_ascend ps given made =
    let P : List (List ℕ) → Type 0 = λ l. IsTrue (ascends text_cmp l) in
    subst P (ap keys_of (sym made) ∙ keys-named ps) (last_pairs text_cmp bytes_eq nat_list_cmp_total text_same (λ x y. sym (is_eq-slice_cmp x y)) (map named given)).ascending

-- a type with its value put into pairs by a call
module _ {V U E : Type 0} (r : Result U E) (es new : List (EntityType × V)) (k : EntityType) (v : V) where
  pub put_after : OnOk r (new ≡ insert_entry type_order.ghosts.cmp es k v) → OnOk r (map named new ≡ insert_entry text_cmp (map named es) (bytes_of_type k) v)
  put_after h = put_where r h
    where
      put_where : (r : Result U E) → OnOk r (new ≡ insert_entry type_order.ghosts.cmp es k v) → OnOk r (map named new ≡ insert_entry text_cmp (map named es) (bytes_of_type k) v)
      put_where (Ok u) h = seen_put type_order.ghosts.cmp bytes_of_type (λ v. v) (λ a b. refl) es new k v h
      put_where (Err e) h = tt

  -- the types ascend, whatever the call answers
  pub types_ascend_after : OnOk r (new ≡ insert_entry type_order.ghosts.cmp es k v) → OnErr r (new ≡ es) → IsTrue (ascends text_cmp (map (λ p. bytes_of_type p.0) es)) → IsTrue (ascends text_cmp (map (λ p. bytes_of_type p.0) new))
  types_ascend_after put same h = ascend_where r put same
    where
      ascend_where : (r : Result U E) → OnOk r (new ≡ insert_entry type_order.ghosts.cmp es k v) → OnErr r (new ≡ es) → IsTrue (ascends text_cmp (map (λ p. bytes_of_type p.0) new))
      ascend_where (Ok u) put same = ascend_put type_order.ghosts.cmp bytes_of_type (λ v. v) (λ a b. refl) es new k v put h
      ascend_where (Err e) put same = subst (λ ps. IsTrue (ascends text_cmp (map (λ p. bytes_of_type p.0) ps))) (sym same) h

-- ---- what the values say

module _ {K V P : Type 0} (cmp : K → K → Ordering) (view : V → P) where
  abbrev valued : K × V → K × P
  valued p = (p.0, view p.1)

  chosen : (o : Ordering) (a b c : List (K × V)) → map valued (match_ordering o a b c) ≡ match_ordering o (map valued a) (map valued b) (map valued c)
  chosen Less a b c = refl
  chosen Equal a b c = refl
  chosen Greater a b c = refl

  inserted : (p : K × V) (ps : List (K × V)) → map valued (insert_key (λ p q. cmp p.0 q.0) ps p) ≡ insert_key (λ p q. cmp p.0 q.0) (map valued ps) (valued p)
  inserted p [] = refl
  inserted p (q ∷ ps) =
      chosen (cmp p.0 q.0) (p ∷ q ∷ ps) (q ∷ ps) (q ∷ insert_key (λ p q. cmp p.0 q.0) ps p)
      ∙ ap (λ l. match_ordering (cmp p.0 q.0) (valued p ∷ valued q ∷ map valued ps) (valued q ∷ map valued ps) (valued q ∷ l)) (inserted p ps)

  sorted_values : (ps : List (K × V)) → map valued (sorted_pairs cmp ps) ≡ sorted_pairs cmp (map valued ps)
  sorted_values [] = refl
  sorted_values (p ∷ ps) = inserted p (sorted_pairs cmp ps) ∙ ap (λ l. insert_key (λ p q. cmp p.0 q.0) l (valued p)) (sorted_values ps)

by_name : {V P : Type 0} (view : V → P) (ps : List (EntityType × V)) → map (said view) ps ≡ map (λ p. (p.0, view p.1)) (map named ps)
by_name view [] = refl
by_name view (p ∷ ps) = ap (λ l. said view p ∷ l) (by_name view ps)

-- what pairs in order say are the pairs that are said, in order
pub said_in_order : {V P : Type 0} (view : V → P) (ps given : List (EntityType × V)) → map named ps ≡ sorted_pairs text_cmp (map named given) → map (said view) ps ≡ sorted_pairs text_cmp (map (said view) given)
said_in_order view ps given made =
    by_name view ps
    ∙ ap (map (λ p. (p.0, view p.1))) made
    ∙ sorted_values text_cmp view (map named given)
    ∙ ap (sorted_pairs text_cmp) (sym (by_name view given))

-- the same of a map that is made of pairs
pub sorted_of : {V P E : Type 0} (view : V → P) (r : Result (ByType V) E) (given : List (EntityType × V)) (ps : List (List ℕ × P)) → map (said view) given ≡ ps
    → IfOk r (λ made. map named (pairs_held made) ≡ sorted_pairs text_cmp (map named given)) → IfOk r (λ made. said_by view made ≡ sorted_pairs text_cmp ps)
sorted_of view (Ok made) given ps e h = said_in_order view (pairs_held made) given h ∙ ap (sorted_pairs text_cmp) e
sorted_of view (Err error) given ps e h = h
