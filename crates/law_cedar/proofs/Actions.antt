-- What the tables of ancestors give at an action.
use Rattle.std.proofs.Common.{◌≡◌, Bool, true, false, ◌&&◌, List, [], ◌∷◌, ◌++◌, Option, Some, None, cond, map, option_map, reverse, append-nil, refl, sym, ap, ◌∙◌, subst}
use Rattle.std.proofs.lemmas.List.{map-append, reverse-append}
use Rattle.std.proofs.lemmas.List.Elements.{filter-append}
use Rattle.std.specs.List.{filter, find, list_any}
use Rattle.std.specs.Map.{lookup}
use Rattle.std.specs.Prelude.{ℕ, bytes_eq, ◌||◌}
use mathlib.Core.Logic.{inl, inr, ⊎_elim}
use Rattle.law_folding.specs.FoldFunctions.{folded_app}
use Rattle.law_terms.proofs.SameTerm.{term_same}
use Rattle.law_terms.proofs.Sorted.{IsIn, in-sorted, out-sorted}
use Rattle.law_terms.proofs.TermTotal.{terms_decided, terms_total}
use Rattle.law_terms.proofs.ValueOrder.{text_same}
use Rattle.law_terms.specs.Plain.{PlainType, EntityType, SetType, PlainTerm}
use Rattle.law_terms.specs.TermOrder.{term_cmp, term_eq}
use Rattle.law_terms.specs.ValueOrder.{text_cmp}
use Rattle.smt_term.proofs.LastPairs.{last_pairs}
use Rattle.smt_values.specs.Plain.{PlainAction}
use Rattle.smt_values.specs.Stores.{action_of}
use Rattle.smt_values.specs.Uids.{Uid, same_uid}
use Rattle.law_cedar.specs.Symbolized.{action_entry, action_table, action_types, actions_of, is_action_type}
use Rattle.law_cedar.specs.Tables.{entity_term, set_of_type}
use Rattle.law_cedar.proofs.Members.{in_map, out_map, out_reverse}
use Rattle.law_cedar.proofs.Stored.{bytes_same, given_at, one_uid, uid_itself}
use Rattle.smt_values.proofs.PutEntity.{same_uids}

-- ---- the types of actions

found_among : {X : Type 0} (p : X → Bool) (b : Bool) (x y : X) (ys : List X) → p y ≡ b → cond b (Some y) (find p ys) ≡ Some x → (find p ys ≡ Some x → IsIn x ys × (p x ≡ true)) → IsIn x (y ∷ ys) × (p x ≡ true)
found_among p true x y ys t h rest = let e : y ≡ x = ap (λ o. elim o [ Some z ↦ z | None ↦ y ]) h in (inl (sym e), ap p (sym e) ∙ t)
found_among p false x y ys t h rest = let r = rest h in (inr r.0, r.1)

found_by : {X : Type 0} (p : X → Bool) (x : X) (xs : List X) → find p xs ≡ Some x → IsIn x xs × (p x ≡ true)
found_by p x [] h = cc
found_by p x (y ∷ ys) h = found_among p (p y) x y ys refl h (found_by p x ys)

-- an action that has an entry, and its uid
pub entry_in : (actions : List PlainAction) (uid : Uid) (action : PlainAction) → action_of actions uid ≡ Some action → IsIn action actions × (action.uid ≡ uid)
entry_in actions uid action h =
    let r = found_by (λ a. same_uid a.uid uid) action (reverse actions) h in
    (out_reverse action actions r.0, same_uids action.uid uid r.1)

pub type_in : (actions : List PlainAction) (uid : Uid) (action : PlainAction) → action_of actions uid ≡ Some action → IsIn uid.0 (action_types actions)
type_in actions uid action h =
    let r = entry_in actions uid action h in
    in-sorted text_cmp text_same uid.0 (map (λ a. a.uid.0) actions) (subst (λ t. IsIn t (map (λ a. a.uid.0) actions)) (ap (λ u. u.0) r.1) (in_map (λ a. a.uid.0) action actions r.0))

either : (a b : Bool) → a ≡ true → (a || b) ≡ true
either true b h = refl
either false b h = cc

other : (a b : Bool) → b ≡ true → (a || b) ≡ true
other true b h = refl
other false b h = h

any_of : {X : Type 0} (p : X → Bool) (x : X) (xs : List X) → p x ≡ true → IsIn x xs → list_any p xs ≡ true
any_of p x [] t h = absurd h
any_of p x (y ∷ ys) t h = ⊎_elim (λ e. either (p y) (list_any p ys) (ap p (sym e) ∙ t)) (λ m. other (p y) (list_any p ys) (any_of p x ys t m)) h

pub is_of_actions : (actions : List PlainAction) (type : List ℕ) → IsIn type (action_types actions) → is_action_type actions type ≡ true
is_of_actions actions type m =
    let r = out_map (λ a. a.uid.0) type actions (out-sorted text_cmp type (map (λ a. a.uid.0) actions) m) in
    any_of (λ a. bytes_eq a.uid.0 type) r.0 actions (bytes_same r.0.uid.0 type (sym r.2)) r.1

-- ---- the last entry of an action

-- the order of what is kept, and of what is made of it, turned round
kept_one : {X Y : Type 0} (f : X → Y) (p : X → Bool) (b : Bool) (x : X) (kept : List X) (turned : List Y) → reverse (map f kept) ≡ turned → reverse (map f (cond b (x ∷ kept) kept)) ≡ turned ++ map f (cond b (x ∷ []) [])
kept_one f p true x kept turned h = reverse-append (f x ∷ []) (map f kept) ∙ ap (λ l. l ++ f x ∷ []) h
kept_one f p false x kept turned h = h ∙ sym (append-nil turned)

reverse_kept : {X Y : Type 0} (f : X → Y) (p : X → Bool) (xs : List X) → reverse (map f (filter p xs)) ≡ map f (filter p (reverse xs))
reverse_kept f p [] = refl
reverse_kept f p (x ∷ xs) =
    kept_one f p (p x) x (filter p xs) (map f (filter p (reverse xs))) (reverse_kept f p xs)
    ∙ (sym (map-append f (filter p (reverse xs)) (filter p (x ∷ [])))
    ∙ (ap (map f) (sym (filter-append p (reverse xs) (x ∷ []))) ∙ ap (λ l. map f (filter p l)) (sym (reverse-append (x ∷ []) xs))))

agree : (b c : Bool) → (b ≡ true → c ≡ true) → (c ≡ true → b ≡ true) → b ≡ c
agree true c f g = sym (f refl)
agree false true f g = g refl
agree false false f g = refl

-- an entity's term is another's exactly where the two are one
same_terms : (a b : Uid) → term_eq (entity_term a) (entity_term b) ≡ same_uid b a
same_terms a b =
    agree (term_eq (entity_term a) (entity_term b)) (same_uid b a)
    (λ h. ap (λ u. same_uid u a) (sym (one_uid a b ((terms_decided (entity_term a) (entity_term b)).0 h))) ∙ uid_itself a)
    (λ h. (terms_decided (entity_term a) (entity_term b)).1 (ap entity_term (sym (same_uids b a h))))

module _ (kind : List ℕ) (uid : Uid) where
  abbrev at : List PlainAction → Option PlainTerm
  at ys = lookup (term_eq (entity_term uid)) (map (action_entry kind) (filter (λ a. bytes_eq a.uid.0 uid.0) ys))

  abbrev said : Option PlainAction → Option PlainTerm
  said o = option_map (λ a. set_of_type kind a.ancestors) o

  chosen : (b : Bool) (t : PlainTerm) (y : PlainAction) (rest : Option PlainTerm) (o : Option PlainAction) → t ≡ set_of_type kind y.ancestors → rest ≡ said o → cond b (Some t) rest ≡ said (cond b (Some y) o)
  chosen true t y rest o e h = ap Some e
  chosen false t y rest o e h = h

  one_more : (b : Bool) (y : PlainAction) (ys : List PlainAction) → bytes_eq y.uid.0 uid.0 ≡ b → at ys ≡ said (find (λ a. same_uid a.uid uid) ys)
      → lookup (term_eq (entity_term uid)) (map (action_entry kind) (cond b (y ∷ filter (λ a. bytes_eq a.uid.0 uid.0) ys) (filter (λ a. bytes_eq a.uid.0 uid.0) ys))) ≡ said (cond (b && bytes_eq y.uid.1 uid.1) (Some y) (find (λ a. same_uid a.uid uid) ys))
  one_more true y ys t h =
      ap (λ b. cond b (Some (set_of_type kind y.ancestors)) (at ys)) (same_terms uid y.uid ∙ ap (λ b. b && bytes_eq y.uid.1 uid.1) t)
      ∙ chosen (true && bytes_eq y.uid.1 uid.1) (set_of_type kind y.ancestors) y (at ys) (find (λ a. same_uid a.uid uid) ys) refl h
  one_more false y ys t h = h

  first_found : (ys : List PlainAction) → at ys ≡ said (find (λ a. same_uid a.uid uid) ys)
  first_found [] = refl
  first_found (y ∷ ys) =
      one_more (bytes_eq y.uid.0 uid.0) y ys refl (first_found ys)

-- the table of an action's ancestors gives those of its last entry
pub action_given : (default : PlainType → PlainTerm) (actions : List PlainAction) (uid : Uid) (action : PlainAction) (kind : List ℕ) → action_of actions uid ≡ Some action
    → folded_app (action_table default actions uid.0 kind) (entity_term uid) ≡ set_of_type kind action.ancestors
action_given default actions uid action kind h =
    let ps : List (PlainTerm × PlainTerm) = map (action_entry kind) (actions_of uid.0 actions) in
    given_at default (EntityType uid.0) (SetType (EntityType kind)) ps (entity_term uid) (set_of_type kind action.ancestors) refl
    ((last_pairs term_cmp term_eq terms_total term_same (λ x y. refl) ps).last (entity_term uid)
    ∙ (ap (lookup (term_eq (entity_term uid))) (reverse_kept (action_entry kind) (λ a. bytes_eq a.uid.0 uid.0) actions)
    ∙ (first_found kind uid (reverse actions) ∙ ap (said kind uid) h)))
