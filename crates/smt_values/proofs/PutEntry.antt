-- An entry put into a list: at its place in the order, or in place of that of its type; and the types ascend.
use Rattle.std.proofs.Common.{◌≡◌, ◌+◌, ◌<◌, ℕ, true, false, not, List, [], ◌∷◌, ◌++◌, cond, drop, length, map, set, take, Some, refl, sym, ap, ◌∙◌, subst, suc, arith, get_or}
use Rattle.std.proofs.lemmas.Cmp.{nat_list_cmp_total}
use Rattle.std.proofs.lemmas.List.{get_or-map, length-map, map-append, map-set, take-map, drop-map}
use Rattle.std.proofs.lemmas.Map.Text.{is_eq-slice_cmp}
use Rattle.std.proofs.lemmas.Slice.Eq.{bytes_eq-Decides}
use Rattle.std.specs.BTreeMap.{insert_entry}
use Rattle.std.specs.BTreeSet.{insert_key}
use Rattle.std.specs.Cmp.{tied_itself}
use Rattle.std.specs.List.{insert, position_or_len}
use Rattle.std.specs.Map.{keys_of, lookup}
use Rattle.std.specs.Ordering.{match_ordering}
use Rattle.std.specs.Prelude.{IsTrue, bytes_eq}
use Rattle.std.specs.declared.cmp.Ordering.{Ordering}
use Rattle.std.specs.declared.cmp.Ordering.TheVariants.{Less, Equal, Greater}
use Rattle.law_terms.proofs.Sorted.{ascends-inserted}
use Rattle.law_terms.proofs.ValueOrder.{text_same}
use Rattle.law_terms.specs.ValueOrder.{ascends, text_cmp}
use Rattle.smt_term.proofs.LastPairs.{lookup-put}
use Rattle.smt_term.specs.Entities.{bytes_of_type}
use Rattle.smt_term.specs.declared.entity.EntityType.{EntityType}
use Rattle.smt_values.specs.Entries.{is_at_most, is_not_above}
use Rattle.smt_values.specs.Plain.{PlainEntry}
use Rattle.smt_values.specs.View.{entry_named, plain_entry}
use Rattle.smt_values.specs.declared.entries.EntityEntry.{EntityEntry}

abbrev pub Entry : Type 0
Entry = List ℕ × PlainEntry

-- the place of a key among entries
abbrev pub place : List ℕ → List Entry → ℕ
place k es = position_or_len (is_not_above k) es

-- the key of the entry at a place
abbrev pub key_at : List Entry → ℕ → Entry → List ℕ
key_at es p d = (get_or es p d).0

-- in place of the entry of its type
set-chosen : (r : Ordering) (k : List ℕ) (v : PlainEntry) (e d : Entry) (es : List Entry) (p : ℕ) → text_cmp k e.0 ≡ r
    → (p < length es → key_at es p d ≡ k → set es p (k, v) ≡ insert_entry text_cmp es k v)
    → cond (not (is_at_most r)) (1 + p) 0 < length (e ∷ es) → key_at (e ∷ es) (cond (not (is_at_most r)) (1 + p) 0) d ≡ k
    → set (e ∷ es) (cond (not (is_at_most r)) (1 + p) 0) (k, v) ≡ match_ordering r ((k, v) ∷ e ∷ es) ((e.0, v) ∷ es) (e ∷ insert_entry text_cmp es k v)
set-chosen Less k v e d es p o rest l at = let z : Less ≡ Equal = sym o ∙ (ap (text_cmp k) at ∙ tied_itself nat_list_cmp_total k) in cc
set-chosen Equal k v e d es p o rest l at = ap (λ q. (q, v) ∷ es) (sym at)
set-chosen Greater k v e d es p o rest l at =
    let next : 1 + p ≡ suc p = omega arith in
    ap (λ n. set (e ∷ es) n (k, v)) next ∙ ap (λ l. e ∷ l) (rest (omega arith) (ap (λ n. key_at (e ∷ es) n d) (sym next) ∙ at))

pub set-put : (k : List ℕ) (v : PlainEntry) (d : Entry) (es : List Entry) → place k es < length es → key_at es (place k es) d ≡ k → set es (place k es) (k, v) ≡ insert_entry text_cmp es k v
set-put k v d [] l at = let z : ⊥ = omega arith in absurd z
set-put k v d (e ∷ es) l at = set-chosen (text_cmp k e.0) k v e d es (place k es) refl (set-put k v d es) l at

-- at its place, where no entry is of its type
insert-chosen : (r : Ordering) (k : List ℕ) (v : PlainEntry) (e d : Entry) (es : List Entry) (p : ℕ) → text_cmp k e.0 ≡ r
    → ((p < length es → bytes_eq (key_at es p d) k ≡ false) → insert es p (k, v) ≡ insert_entry text_cmp es k v)
    → (cond (not (is_at_most r)) (1 + p) 0 < length (e ∷ es) → bytes_eq (key_at (e ∷ es) (cond (not (is_at_most r)) (1 + p) 0) d) k ≡ false)
    → insert (e ∷ es) (cond (not (is_at_most r)) (1 + p) 0) (k, v) ≡ match_ordering r ((k, v) ∷ e ∷ es) ((e.0, v) ∷ es) (e ∷ insert_entry text_cmp es k v)
insert-chosen Less k v e d es p o rest other = refl
insert-chosen Equal k v e d es p o rest other = let z : true ≡ false = sym ((bytes_eq-Decides e.0 k).1 (sym (text_same k e.0 o))) ∙ other (omega arith) in cc
insert-chosen Greater k v e d es p o rest other =
    let next : 1 + p ≡ suc p = omega arith in
    ap (λ n. insert (e ∷ es) n (k, v)) next ∙ ap (λ l. e ∷ l) (rest (λ l. ap (λ n. bytes_eq (key_at (e ∷ es) n d) k) (sym next) ∙ other (omega arith)))

pub insert-put : (k : List ℕ) (v : PlainEntry) (d : Entry) (es : List Entry) → (place k es < length es → bytes_eq (key_at es (place k es) d) k ≡ false) → insert es (place k es) (k, v) ≡ insert_entry text_cmp es k v
insert-put k v d [] other = refl
insert-put k v d (e ∷ es) other = insert-chosen (text_cmp k e.0) k v e d es (place k es) refl (insert-put k v d es) other

-- the same of the program's entries
pub entry_set : (k : EntityType) (v : EntityEntry) (d : EntityType × EntityEntry) (es : List (EntityType × EntityEntry)) (p : ℕ) → p ≡ place (bytes_of_type k) (map entry_named es) → p < length es → bytes_eq (bytes_of_type (get_or es p d).0) (bytes_of_type k) ≡ true
    → map entry_named (set es p (k, v)) ≡ insert_entry text_cmp (map entry_named es) (bytes_of_type k) (plain_entry v)
entry_set k v d es p at l same =
    let within : place (bytes_of_type k) (map entry_named es) < length (map entry_named es) = subst (λ n. n < length (map entry_named es)) at (subst (λ n. p < n) (sym (length-map es entry_named)) l) in
    let here : key_at (map entry_named es) (place (bytes_of_type k) (map entry_named es)) (entry_named d) ≡ bytes_of_type k =
    ap (λ n. key_at (map entry_named es) n (entry_named d)) (sym at) ∙ ap (λ e. e.0) (get_or-map entry_named es p d (entry_named d) l) ∙ (bytes_eq-Decides (bytes_of_type (get_or es p d).0) (bytes_of_type k)).0 same
    in
    map-set entry_named es p (k, v) ∙ ap (λ n. set (map entry_named es) n (entry_named (k, v))) at ∙ set-put (bytes_of_type k) (plain_entry v) (entry_named d) (map entry_named es) within here

pub entry_insert : (k : EntityType) (v : EntityEntry) (d : EntityType × EntityEntry) (es : List (EntityType × EntityEntry)) (p : ℕ) → p ≡ place (bytes_of_type k) (map entry_named es) → (p < length es → bytes_eq (bytes_of_type (get_or es p d).0) (bytes_of_type k) ≡ false)
    → map entry_named (insert es p (k, v)) ≡ insert_entry text_cmp (map entry_named es) (bytes_of_type k) (plain_entry v)
entry_insert k v d es p at other =
    let apart : place (bytes_of_type k) (map entry_named es) < length (map entry_named es) → bytes_eq (key_at (map entry_named es) (place (bytes_of_type k) (map entry_named es)) (entry_named d)) (bytes_of_type k) ≡ false =
    λ within.
    let l : p < length es = subst (λ n. p < n) (length-map es entry_named) (subst (λ n. n < length (map entry_named es)) (sym at) within) in
    ap (λ n. bytes_eq (key_at (map entry_named es) n (entry_named d)) (bytes_of_type k)) (sym at) ∙ ap (λ e. bytes_eq e.0 (bytes_of_type k)) (get_or-map entry_named es p d (entry_named d) l) ∙ other l
    in
    map-append entry_named (take p es) ((k, v) ∷ drop p es)
    ∙ (λ i. sym (take-map entry_named p es) i ++ entry_named (k, v) ∷ sym (drop-map entry_named p es) i)
    ∙ ap (λ n. insert (map entry_named es) n (entry_named (k, v))) at
    ∙ insert-put (bytes_of_type k) (plain_entry v) (entry_named d) (map entry_named es) apart

-- ---- the types ascend

keys-chosen : (r : Ordering) (k : List ℕ) (v : PlainEntry) (e : Entry) (es inserted : List Entry) (ks : List (List ℕ)) → keys_of inserted ≡ ks
    → keys_of (match_ordering r ((k, v) ∷ e ∷ es) ((e.0, v) ∷ es) (e ∷ inserted)) ≡ match_ordering r (k ∷ e.0 ∷ keys_of es) (e.0 ∷ keys_of es) (e.0 ∷ ks)
keys-chosen Less k v e es inserted ks h = refl
keys-chosen Equal k v e es inserted ks h = refl
keys-chosen Greater k v e es inserted ks h = ap (λ l. e.0 ∷ l) h

keys-put : (k : List ℕ) (v : PlainEntry) (es : List Entry) → keys_of (insert_entry text_cmp es k v) ≡ insert_key text_cmp (keys_of es) k
keys-put k v [] = refl
keys-put k v (e ∷ es) = keys-chosen (text_cmp k e.0) k v e es (insert_entry text_cmp es k v) (insert_key text_cmp (keys_of es) k) (keys-put k v es)

-- the same of the program's entries
pub keys-said : (es : List (EntityType × EntityEntry)) → keys_of (map entry_named es) ≡ map (λ p. bytes_of_type p.0) es
keys-said [] = refl
keys-said (e ∷ es) = ap (λ l. bytes_of_type e.0 ∷ l) (keys-said es)

pub ascends_put : (k : List ℕ) (v : PlainEntry) (es new : List (EntityType × EntityEntry)) → map entry_named new ≡ insert_entry text_cmp (map entry_named es) k v
    → IsTrue (ascends text_cmp (map (λ p. bytes_of_type p.0) es)) → IsTrue (ascends text_cmp (map (λ p. bytes_of_type p.0) new))
ascends_put k v es new put h =
    subst (λ ks. IsTrue (ascends text_cmp ks)) (sym (keys-put k v (map entry_named es)) ∙ ap keys_of (sym put) ∙ keys-said new)
    (ascends-inserted text_cmp nat_list_cmp_total k (keys_of (map entry_named es)) (subst (λ ks. IsTrue (ascends text_cmp ks)) (sym (keys-said es)) h))

pub ascends_held : (es : List (EntityType × EntityEntry)) → IsTrue (ascends text_cmp (map (λ p. bytes_of_type p.0) es)) → IsTrue (ascends text_cmp (keys_of (map entry_named es)))
ascends_held es h = subst (λ ks. IsTrue (ascends text_cmp ks)) (sym (keys-said es)) h

-- what was put is found
pub entry-found : (k asked : List ℕ) (v : PlainEntry) (es : List Entry) → lookup (bytes_eq asked) (insert_entry text_cmp es k v) ≡ cond (bytes_eq k asked) (Some v) (lookup (bytes_eq asked) es)
entry-found k asked v es = lookup-put text_cmp bytes_eq nat_list_cmp_total text_same (λ x y. sym (is_eq-slice_cmp x y)) k v es asked
