-- An entity put into a list: at its place, or behind the others; and no uid stands twice.
use Rattle.std.proofs.Common.{◌≡◌, ◌+◌, ◌<◌, ◌≤◌, ℕ, Bool, true, false, not, List, [], ◌∷◌, ◌++◌, cond, length, map, set, Option, Some, refl, sym, ap, ◌∙◌, subst, suc, arith}
use Rattle.std.proofs.lemmas.List.{length-map, map-append, map-set}
use Rattle.std.proofs.lemmas.Slice.Eq.{bytes_eq-Decides}
use Rattle.std.specs.Cmp.{first_so, second_so}
use Rattle.std.specs.List.{AllByRecursion, IsDistinct, position_or_len}
use Rattle.std.specs.Prelude.{bytes_eq}
use Rattle.smt_term.specs.Entities.{texts_of_entity}
use Rattle.smt_values.specs.Plain.{PlainEntity}
use Rattle.smt_values.specs.Stores.{entity_of, is_named, put_entity}
use Rattle.smt_values.specs.Uids.{Uid, same_uid}
use Rattle.smt_values.specs.View.{plain_stored}
use Rattle.smt_values.specs.declared.entity.Entity.{Entity}

-- uids that are the same by their bytes are one
pub same_uids : (a b : Uid) → same_uid a b ≡ true → a ≡ b
same_uids a b h = λ i. (
  (bytes_eq-Decides a.0 b.0).0 (first_so (bytes_eq a.0 b.0) (bytes_eq a.1 b.1) h) i,
  (bytes_eq-Decides a.1 b.1).0 (second_so (bytes_eq a.0 b.0) (bytes_eq a.1 b.1) h) i,
)

-- an entity at the place of the first one of its uid
set-chosen : (b : Bool) (e d : PlainEntity) (ds : List PlainEntity) (p : ℕ) → (p < length ds → set ds p e ≡ put_entity e ds) → cond (not b) (1 + p) 0 < length (d ∷ ds)
    → set (d ∷ ds) (cond (not b) (1 + p) 0) e ≡ cond b (e ∷ ds) (d ∷ put_entity e ds)
set-chosen true e d ds p rest l = refl
set-chosen false e d ds p rest l = let next : 1 + p ≡ suc p = omega arith in ap (λ n. set (d ∷ ds) n e) next ∙ ap (λ l. d ∷ l) (rest (omega arith))

pub set-put : (e : PlainEntity) (ds : List PlainEntity) → position_or_len (is_named e.uid) ds < length ds → set ds (position_or_len (is_named e.uid) ds) e ≡ put_entity e ds
set-put e [] l = let z : ⊥ = omega arith in absurd z
set-put e (d ∷ ds) l = set-chosen (is_named e.uid d) e d ds (position_or_len (is_named e.uid) ds) (set-put e ds) l

-- and behind the others where there is none
push-chosen : (b : Bool) (e d : PlainEntity) (ds : List PlainEntity) (p : ℕ) → (length ds ≤ p → ds ++ e ∷ [] ≡ put_entity e ds) → length (d ∷ ds) ≤ cond (not b) (1 + p) 0
    → (d ∷ ds) ++ e ∷ [] ≡ cond b (e ∷ ds) (d ∷ put_entity e ds)
push-chosen true e d ds p rest l = let z : ⊥ = omega arith in absurd z
push-chosen false e d ds p rest l = ap (λ l. d ∷ l) (rest (omega arith))

pub push-put : (e : PlainEntity) (ds : List PlainEntity) → length ds ≤ position_or_len (is_named e.uid) ds → ds ++ e ∷ [] ≡ put_entity e ds
push-put e [] l = refl
push-put e (d ∷ ds) l = push-chosen (is_named e.uid d) e d ds (position_or_len (is_named e.uid) ds) (push-put e ds) l

-- the same of the program's entities
pub entity_set : (e : Entity) (es : List Entity) (p : ℕ) → p ≡ position_or_len (is_named (texts_of_entity e.uid)) (map plain_stored es) → p < length es → map plain_stored (set es p e) ≡ put_entity (plain_stored e) (map plain_stored es)
entity_set e es p at l =
    let within : position_or_len (is_named (texts_of_entity e.uid)) (map plain_stored es) < length (map plain_stored es) = subst (λ n. n < length (map plain_stored es)) at (subst (λ n. p < n) (sym (length-map es plain_stored)) l) in
    map-set plain_stored es p e ∙ ap (λ n. set (map plain_stored es) n (plain_stored e)) at ∙ set-put (plain_stored e) (map plain_stored es) within

pub entity_push : (e : Entity) (es : List Entity) (p : ℕ) → p ≡ position_or_len (is_named (texts_of_entity e.uid)) (map plain_stored es) → length es ≤ p → map plain_stored (es ++ e ∷ []) ≡ put_entity (plain_stored e) (map plain_stored es)
entity_push e es p at l =
    let beyond : length (map plain_stored es) ≤ position_or_len (is_named (texts_of_entity e.uid)) (map plain_stored es) = subst (λ n. length (map plain_stored es) ≤ n) at (subst (λ n. n ≤ p) (sym (length-map es plain_stored)) l) in
    map-append plain_stored es (e ∷ []) ∙ push-put (plain_stored e) (map plain_stored es) beyond

-- ---- no uid stands twice

-- the uids of entities
abbrev pub uids_in : List PlainEntity → List Uid
uids_in ds = map (λ d. d.uid) ds

-- an entity of another uid is put, and all uids are still other ones
others-chosen : (b : Bool) (u : Uid) (e d : PlainEntity) (ds : List PlainEntity) → same_uid u e.uid ≡ false → AllByRecursion (λ y. same_uid u y ≡ false) (uids_in (d ∷ ds))
    → AllByRecursion (λ y. same_uid u y ≡ false) (uids_in (put_entity e ds)) → AllByRecursion (λ y. same_uid u y ≡ false) (uids_in (cond b (e ∷ ds) (d ∷ put_entity e ds)))
others-chosen true u e d ds h all rest = (h, all.1)
others-chosen false u e d ds h all rest = (all.0, rest)

others-put : (u : Uid) (e : PlainEntity) (ds : List PlainEntity) → same_uid u e.uid ≡ false → AllByRecursion (λ y. same_uid u y ≡ false) (uids_in ds) → AllByRecursion (λ y. same_uid u y ≡ false) (uids_in (put_entity e ds))
others-put u e [] h all = (h, tt)
others-put u e (d ∷ ds) h all = others-chosen (is_named e.uid d) u e d ds h all (others-put u e ds h all.1)

distinct-chosen : (b : Bool) (e d : PlainEntity) (ds : List PlainEntity) → same_uid d.uid e.uid ≡ b → AllByRecursion (λ y. same_uid d.uid y ≡ false) (uids_in ds) → IsDistinct same_uid (uids_in ds)
    → IsDistinct same_uid (uids_in (put_entity e ds)) → IsDistinct same_uid (uids_in (cond b (e ∷ ds) (d ∷ put_entity e ds)))
unfolding IsDistinct
distinct-chosen true e d ds h all apart rest = (subst (λ u. AllByRecursion (λ y. same_uid u y ≡ false) (uids_in ds)) (same_uids d.uid e.uid h) all, apart)
distinct-chosen false e d ds h all apart rest = (others-put d.uid e ds h all, rest)

pub distinct-put : (e : PlainEntity) (ds : List PlainEntity) → IsDistinct same_uid (uids_in ds) → IsDistinct same_uid (uids_in (put_entity e ds))
unfolding IsDistinct
distinct-put e [] h = (tt, tt)
distinct-put e (d ∷ ds) h = distinct-chosen (is_named e.uid d) e d ds refl h.0 h.1 (distinct-put e ds h.1)

-- the same of the program's entities
pub uids-said : (es : List Entity) → uids_in (map plain_stored es) ≡ map (λ e. texts_of_entity e.uid) es
uids-said [] = refl
uids-said (e ∷ es) = ap (λ l. texts_of_entity e.uid ∷ l) (uids-said es)

pub distinct_entities : (e : Entity) (es new : List Entity) → map plain_stored new ≡ put_entity (plain_stored e) (map plain_stored es) → IsDistinct same_uid (map (λ e. texts_of_entity e.uid) es) → IsDistinct same_uid (map (λ e. texts_of_entity e.uid) new)
distinct_entities e es new put h =
    subst (IsDistinct same_uid) (ap uids_in (sym put) ∙ uids-said new) (distinct-put (plain_stored e) (map plain_stored es) (subst (IsDistinct same_uid) (sym (uids-said es)) h))

pub none_distinct : (es : List Entity) → es ≡ [] → IsDistinct same_uid (map (λ e. texts_of_entity e.uid) es)
unfolding IsDistinct
none_distinct es none = subst (λ l. IsDistinct same_uid (map (λ e. texts_of_entity e.uid) l)) (sym none) tt

pub distinct_held : (es : List Entity) → IsDistinct same_uid (map (λ e. texts_of_entity e.uid) es) → IsDistinct same_uid (uids_in (map plain_stored es))
distinct_held es h = subst (IsDistinct same_uid) (sym (uids-said es)) h

-- ---- what was put is found

first_chosen : (b : Bool) (x y z : Option PlainEntity) → cond b x z ≡ cond b x (cond b y z)
first_chosen true x y z = refl
first_chosen false x y z = refl

-- of two tests that do not both hold either may come first
turned : (b c : Bool) (x y z : Option PlainEntity) → (b ≡ true → c ≡ true → ⊥) → cond c y (cond b x z) ≡ cond b x (cond c y z)
turned true true x y z apart = absurd (apart refl refl)
turned true false x y z apart = refl
turned false c x y z apart = refl

found-chosen : (b : Bool) (u : Uid) (e d : PlainEntity) (ds : List PlainEntity) → same_uid d.uid e.uid ≡ b → entity_of (put_entity e ds) u ≡ cond (same_uid e.uid u) (Some e) (entity_of ds u)
    → entity_of (cond b (e ∷ ds) (d ∷ put_entity e ds)) u ≡ cond (same_uid e.uid u) (Some e) (entity_of (d ∷ ds) u)
found-chosen true u e d ds h rest =
    first_chosen (same_uid e.uid u) (Some e) (Some d) (entity_of ds u) ∙ ap (λ v. cond (same_uid e.uid u) (Some e) (cond (same_uid v u) (Some d) (entity_of ds u))) (sym (same_uids d.uid e.uid h))
found-chosen false u e d ds h rest =
    let apart : same_uid e.uid u ≡ true → same_uid d.uid u ≡ true → ⊥ =
    λ one other. let z : false ≡ true = sym h ∙ ap (same_uid d.uid) (same_uids e.uid u one) ∙ other in cc
    in
    ap (λ o. cond (same_uid d.uid u) (Some d) o) rest ∙ turned (same_uid e.uid u) (same_uid d.uid u) (Some e) (Some d) (entity_of ds u) apart

pub put-found : (u : Uid) (e : PlainEntity) (ds : List PlainEntity) → entity_of (put_entity e ds) u ≡ cond (same_uid e.uid u) (Some e) (entity_of ds u)
put-found u e [] = refl
put-found u e (d ∷ ds) = found-chosen (is_named e.uid d) u e d ds refl (put-found u e ds)
