-- Pairs of names and values in a vector, as a type that may hold the type that holds it: what the types of such pairs share.
use Rattle.std.specs.Prelude.{◌≡◌, ℕ, true, IsTrue, List, [], ◌∷◌, map}
use mathlib.Core.Bool.{Bool-set}
use mathlib.Core.Path.{refl, sym, ap, subst}
use mathlib.Core.Former.{Former, Count, Row, const, this, pair, list, list_count, list_get, children}
use denote.RattleType.{RattleType}
use denote.HoleLaws.{Alike}
use denote.HolePlaces.{Recodes, struct_places, struct_Codes, laid, stays}
use denote.Hole.Carrier.{listed}
use denote.Struct.Tuple.{Tuple, tuple_type}
use Rattle.std.specs.formers.vec.Vec as vec
use Rattle.std.specs.contracts.alloc.Global as heap
use Rattle.std.specs.contracts.impls.GlobalAllocator.TheImpl.{ghosts}
use Rattle.std.specs.contracts.vec.Vec as vector
use Rattle.std.specs.declared.alloc.Global.{Global}
use Rattle.std.specs.declared.vec.Vec.{Vec}
use Rattle.std.specs.Rc.{rc_str_bytes}
use Rattle.std.specs.contracts.rc.RcStr as text
use Rattle.std.specs.declared.rc.RcStr.{RcStr}
use Rattle.law_terms.specs.ValueOrder.{ascends, text_cmp}
use Rattle.smt_term.specs.Pairs.{attributes_in}

-- the name of an attribute, as pairs hold it: a shared text
abbrev pub Name : Type 0
Name = RcStr Global

-- the attributes of pairs ascend
abbrev pub Ascend : {X : Type 0} → List (Name × X) → Type 0
Ascend ps = IsTrue (ascends text_cmp (attributes_in ps))

-- whether attributes ascend is a proposition, so that no two proofs of it differ
pub Ascend-prop : {X : Type 0} (ps : List (Name × X)) → IsProp (Ascend ps)
Ascend-prop ps = Bool-set (ascends text_cmp (attributes_in ps)) true

-- the pair, with h applied to its value
abbrev pub on_value : {X Y : Type 0} → (X → Y) → Name × X → Name × Y
on_value h p = (p.0, h p.1)

-- pairs keep their attributes where a function is applied to their values
pub attributes-over : {X Y : Type 0} (h : X → Y) (ps : List (Name × X)) → attributes_in (map (on_value h) ps) ≡ attributes_in ps
attributes-over h [] = refl
attributes-over h (p ∷ ps) = ap (λ l. rc_str_bytes p.0 ∷ l) (attributes-over h ps)

-- pairs keep the order of their attributes where a function is applied to their values
pub along : {X Y : Type 0} (h : X → Y) (ps : List (Name × X)) → Ascend ps → Ascend (map (on_value h) ps)
along h ps a = let P : List (List ℕ) → Type 0 = λ l. IsTrue (ascends text_cmp l) in subst P (sym (attributes-over h ps)) a

module _ (g : Former {0}) where
  -- the former of one pair: a name and a value that g forms
  abbrev pub pairs : Former {0}
  pairs = pair (const Name) g

  -- the former of a vector of such pairs
  abbrev pub vecs : Former {0}
  vecs = vec.the_former pairs Global

  -- pairs that are put together from a shape and a row have the attributes of the shape
  pub attributes-got : (X : Type 0) (as' : List (Name × g.Shape)) (n : Count) (v : Row X (list_count pairs as' n)) →
      attributes_in (list_get pairs X as' n v).0 ≡ attributes_in as'
  attributes-got X [] n v = refl
  attributes-got X (a ∷ as') n v = ap (λ l. rc_str_bytes a.0 ∷ l) (attributes-got X as' n (g.get X a.1 (list_count pairs as' n) v).1)

  -- so their attributes ascend where those of the shape do
  pub got_ascends : (X : Type 0) (as' : List (Name × g.Shape)) (n : Count) (v : Row X (list_count pairs as' n)) → Ascend as' →
      Ascend (list_get pairs X as' n v).0
  got_ascends X as' n v h = let P : List (List ℕ) → Type 0 = λ l. IsTrue (ascends text_cmp l) in subst P (sym (attributes-got X as' n v)) h

-- what pairs hold of the type itself, listed, are their values in order
pub values_listed : (X : Type 0) (ps : List (Name × X)) → listed _ (children (list (pair (const Name) this)) X ps) ≡ map (λ p. p.1) ps
values_listed X [] = refl
values_listed X (p ∷ ps) = ap (λ l. p.1 ∷ l) (values_listed X ps)

-- the Rattle type of names
abbrev pub name_row : RattleType
name_row = text.the_row heap.the_row ghosts

-- the Rattle type of pairs of a name and a value of R
abbrev pub pair_row : RattleType → RattleType
pair_row R = Tuple (name_row ∷ R ∷ [])

-- the Rattle type of vectors of such pairs
abbrev pub vec_row : RattleType → RattleType
vec_row R = vector.the_row (pair_row R) heap.the_row ghosts

module _ (R R' : RattleType) (h : R.Denot → R'.Denot) where
  -- where h keeps the places of R in R', h applied to values keeps those of pairs
  pub pair_places : Alike R R' h → Alike (pair_row R) (pair_row R') (on_value h)
  pair_places a =
      struct_places (tuple_type (name_row ∷ R ∷ [])) (tuple_type (name_row ∷ R' ∷ [])) (λ x. x, (h, tt)) (on_value h) (λ d. refl) refl
      (stays name_row, (laid _ _ _ a, tt))

  -- and those of vectors of pairs
  pub vec_places : Alike R R' h → Alike (vec_row R) (vec_row R') (vec.mapped (on_value h))
  vec_places a = vec.the_places heap.the_row ghosts (pair_row R) (pair_row R') (on_value h) (pair_places a)

  -- where h keeps the codes of R in R', h applied to values keeps those of pairs
  pub pair_codes : Recodes R R' h → Recodes (pair_row R) (pair_row R') (on_value h)
  pair_codes e =
      struct_Codes (tuple_type (name_row ∷ R ∷ [])) (tuple_type (name_row ∷ R' ∷ [])) (λ x. x, (h, tt)) (on_value h) (λ d. refl)
      (λ y. refl, (e, tt))

  -- and those of vectors of pairs
  pub vec_codes : Recodes R R' h → Recodes (vec_row R) (vec_row R') (vec.mapped (on_value h))
  vec_codes e = vec.the_codes_placed heap.the_row ghosts (pair_row R) (pair_row R') (on_value h) (pair_codes e)
