-- Types that are entered into a table one after the other, of which the first counts.
use Rattle.std.proofs.Common.{◌≡◌, ℕ, ◌+◌, ◌<◌, ◌≤◌, Bool, true, false, not, List, [], ◌∷◌, Option, Some, None, cond, drop, get_or, is_some, length, map, refl, sym, ap, ◌∙◌}
use Rattle.std.proofs.lemmas.List.{at_drop_more, at_drop_all}
use Rattle.std.proofs.lemmas.Slice.Eq.{bytes_eq-Decides}
use Rattle.std.specs.Bool.{OnFalse, OnTrue}
use Rattle.std.specs.Map.{update}
use Rattle.std.specs.Option.{option_or}
use Rattle.std.specs.Prelude.{bytes_eq}
use Rattle.smt_term.specs.TextSets.{texts_of}
use Rattle.smt_term.specs.declared.entity.EntityType.{EntityType}
use Rattle.smt_term.specs.declared.texts.TextSet.{TextSet}
use Rattle.law_terms.specs.TypeValues.{Enums, members_of}
use Rattle.smt_symbolizer.specs.Named.{said}

abbrev Members : Type 0
Members = Option (List (List ℕ))

-- the members of a type in a table of one
abbrev in_one : Bool → List (List ℕ) → Members
in_one b ids = cond b (Some ids) None

absent : (o : Members) → is_some o ≡ false → o ≡ None
absent None h = refl
absent (Some x) h = cc

turned : (s t : List ℕ) (b c : Bool) → bytes_eq s t ≡ b → bytes_eq t s ≡ c → b ≡ c
turned s t true true h g = refl
turned s t false false h g = refl
turned s t true false h g = let z : true ≡ false = sym ((bytes_eq-Decides t s).1 (sym ((bytes_eq-Decides s t).0 h))) ∙ g in cc
turned s t false true h g = let z : true ≡ false = sym ((bytes_eq-Decides s t).1 (sym ((bytes_eq-Decides t s).0 g))) ∙ h in cc

put_there : (b : Bool) (ids : List (List ℕ)) (o : Members) → (b ≡ true → o ≡ None) → cond b (Some ids) o ≡ option_or o (in_one b ids)
put_there true ids o h = ap (λ p. option_or p (Some ids)) (sym (h refl))
put_there false ids None h = refl
put_there false ids (Some x) h = refl

kept_there : (b : Bool) (ids : List (List ℕ)) (o : Members) → (b ≡ true → is_some o ≡ true) → o ≡ option_or o (in_one b ids)
kept_there b ids (Some x) h = refl
kept_there true ids None h = let z : false ≡ true = h refl in cc
kept_there false ids None h = refl

module _ (type : List ℕ) (ids : List (List ℕ)) (old new : Enums) where
  there : (t : List ℕ) → bytes_eq t type ≡ true → members_of old t ≡ members_of old type
  there t h = ap (members_of old) ((bytes_eq-Decides t type).0 h)

  was : (b : Bool) → b ≡ not (is_some (members_of old type)) → (c : Bool) → is_some (members_of old type) ≡ c → c ≡ not b
  was true h true g = let z : true ≡ false = h ∙ ap not g in cc
  was true h false g = refl
  was false h true g = refl
  was false h false g = let z : false ≡ true = h ∙ ap not g in cc

  pub entered : (added : Bool) → added ≡ not (is_some (members_of old type))
      → OnTrue added ((e : List ℕ) → members_of new e ≡ update bytes_eq (members_of old) type (Some ids) e) → OnFalse added (new ≡ old)
      → (t : List ℕ) → members_of new t ≡ option_or (members_of old t) (members_of ((type, ids) ∷ []) t)
  entered true is put kept t =
      put t
      ∙ ap (λ b. cond b (Some ids) (members_of old t)) (turned type t (bytes_eq type t) (bytes_eq t type) refl refl)
      ∙ put_there (bytes_eq t type) ids (members_of old t) (λ h. there t h ∙ absent (members_of old type) (was true is (is_some (members_of old type)) refl))
  entered false is put kept t =
      ap (λ es. members_of es t) kept
      ∙ kept_there (bytes_eq t type) ids (members_of old t) (λ h. ap is_some (there t h) ∙ was false is (is_some (members_of old type)) refl)

-- the same of a type and of members that say the same
pub entered_as : (type other : List ℕ) (ids members : List (List ℕ)) (old new : Enums) → type ≡ other → ids ≡ members
    → (added : Bool) → added ≡ not (is_some (members_of old type))
    → OnTrue added ((e : List ℕ) → members_of new e ≡ update bytes_eq (members_of old) type (Some ids) e) → OnFalse added (new ≡ old)
    → (t : List ℕ) → members_of new t ≡ option_or (members_of old t) (members_of ((other, members) ∷ []) t)
entered_as type other ids members old new e h added is put kept t =
    entered type ids old new added is put kept t ∙ (λ i. option_or (members_of old t) (members_of ((e i, h i) ∷ []) t))

-- ---- the loop

or_or : (o p q : Members) → option_or (option_or o p) q ≡ option_or o (option_or p q)
or_or None p q = refl
or_or (Some x) p q = refl

or_none : (o : Members) → option_or o None ≡ o
or_none None = refl
or_none (Some x) = refl

first_or : (b : Bool) (ids : List (List ℕ)) (o : Members) → option_or (in_one b ids) o ≡ cond b (Some ids) o
first_or true ids o = refl
first_or false ids o = refl

abbrev Pair : Type 0
Pair = EntityType × TextSet

-- the members of a type in a table, or else in pairs
abbrev pub in_both : Enums → List Pair → List ℕ → Members
in_both table types t = option_or (members_of table t) (members_of (map (said texts_of) types) t)

module _ (types : List Pair) (i : ℕ) (table : Enums) (so_far : (t : List ℕ) → in_both table (drop i types) t ≡ members_of (map (said texts_of) types) t) where
  pub all_entered : length types ≤ i → (t : List ℕ) → members_of table t ≡ members_of (map (said texts_of) types) t
  all_entered l t = sym (or_none (members_of table t)) ∙ sym (at_drop_all (λ ps. in_both table ps t) types i l) ∙ so_far t

  pub one_entered : (item : Pair) (new : Enums) → i < length types → item ≡ get_or types i item
      → ((t : List ℕ) → members_of new t ≡ option_or (members_of table t) (members_of (said texts_of item ∷ []) t))
      → (t : List ℕ) → in_both new (drop (i + 1) types) t ≡ members_of (map (said texts_of) types) t
  one_entered item new l at entered t =
      let rest : Members = members_of (map (said texts_of) (drop (i + 1) types)) t in
      let b : Bool = bytes_eq t (said texts_of item).0 in
      ap (λ o. option_or o rest) (entered t)
      ∙ or_or (members_of table t) (in_one b (texts_of item.1)) rest
      ∙ ap (option_or (members_of table t)) (first_or b (texts_of item.1) rest)
      ∙ ap (λ x. in_both table (x ∷ drop (i + 1) types) t) at
      ∙ sym (at_drop_more (λ ps. in_both table ps t) types i item l)
      ∙ so_far t
