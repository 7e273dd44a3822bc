-- The places of what is declared.
use Rattle.std.proofs.Common.{arith, ◌≡◌, ℕ, ◌+◌, suc, Bool, true, false, not, cond, List, [], ◌∷◌, ◌++◌, Option, Some, None, bytes_eq, length, option_map, refl, sym, ap, ◌∙◌}
use Rattle.std.specs.Cmp.Lexicographic.{nat_list_eq_equiv}
use Rattle.std.specs.List.{position_or_len}
use Rattle.std.specs.Prelude.{is_some, nat_lt, option_and_then, slice_get}
use Rattle.std.proofs.lemmas.Bool.{false≢true}
use Rattle.std.proofs.lemmas.Slice.Eq.{bytes_eq-Decides}
use Rattle.law_jobs.specs.Declarations.{Declarations, declared}
use Rattle.smt_job_terms.specs.DeclarationView.{place_of}

-- ---- places, one declaration after the other
first_or_later : (b : Bool) (n m : ℕ) → cond (nat_lt (cond (not b) (1 + n) 0) (suc m)) (Some (cond (not b) (1 + n) 0)) None ≡ cond b (Some 0) (option_map suc (cond (nat_lt n m) (Some n) None))
first_or_later b n m = grind arith

place_of_more : {A : Type 0} (d : List ℕ × A) (ds : Declarations A) (id : List ℕ) → place_of (d ∷ ds) id ≡ cond (bytes_eq id d.0) (Some 0) (option_map suc (place_of ds id))
place_of_more d ds id = first_or_later (bytes_eq id d.0) (position_or_len (λ d. bytes_eq id d.0) ds) (length ds)

-- ---- what stands at a place
at_one_later : {A : Type 0} (b : Bool) (id : List ℕ) (d : List ℕ × A) (ds : Declarations A) (o : Option ℕ) (a : Option A) → (b ≡ true → id ≡ d.0) → option_and_then (slice_get ds) o ≡ option_map (λ x. (id, x)) a
    → option_and_then (slice_get (d ∷ ds)) (cond b (Some 0) (option_map suc o)) ≡ option_map (λ x. (id, x)) (cond b (Some d.1) a)
at_one_later true id d ds o a same had = ap (λ (k : List ℕ). Some (k, d.1)) (sym (same refl))
at_one_later false id d ds None a same had = had
at_one_later false id d ds (Some i) a same had = had

-- what stands at the place of an id is what the id is declared as
stands_there : {A : Type 0} (ds : Declarations A) (id : List ℕ) → option_and_then (slice_get ds) (place_of ds id) ≡ option_map (λ a. (id, a)) (declared ds id)
stands_there [] id = refl
stands_there (d ∷ ds) id =
    ap (option_and_then (slice_get (d ∷ ds))) (place_of_more d ds id)
    ∙ at_one_later (bytes_eq id d.0) id d ds (place_of ds id) (declared ds id) (bytes_eq-Decides id d.0).0 (stands_there ds id)

some_one_later : {A : Type 0} (b : Bool) (o : Option ℕ) (x : A) (a : Option A) → is_some o ≡ is_some a → is_some (cond b (Some 0) (option_map suc o)) ≡ is_some (cond b (Some x) a)
some_one_later true o x a had = refl
some_one_later false None x a had = had
some_one_later false (Some i) x a had = had

-- what is declared has a place
placed_where_declared : {A : Type 0} (ds : Declarations A) (id : List ℕ) → is_some (place_of ds id) ≡ is_some (declared ds id)
placed_where_declared [] id = refl
placed_where_declared (d ∷ ds) id = ap is_some (place_of_more d ds id) ∙ some_one_later (bytes_eq id d.0) (place_of ds id) d.1 (declared ds id) (placed_where_declared ds id)

-- ---- what is found by a place
nothing_mapped : {A B : Type 0} (f : A → B) (o : Option A) → option_map f o ≡ None → o ≡ None
nothing_mapped f None h = refl
nothing_mapped f (Some a) h = absurd (cc)

both_named : {A : Type 0} (d : List ℕ × A) (id : List ℕ) (o : Option A) → Some d ≡ option_map (λ a. (id, a)) o → (d.0 ≡ id) × (Some d.1 ≡ o)
both_named d id None h = absurd (cc)
both_named d id (Some a) h = (let e : d ≡ (id, a) = cc in (ap (λ x. x.0) e, ap (λ x. Some x.1) e))

module _ {A : Type 0} (ds : Declarations A) (id : List ℕ) where
  -- the declaration at the place of an id has this id, and counts for it
  pub counts : (place : ℕ) (d : List ℕ × A) → Some place ≡ place_of ds id → slice_get ds place ≡ Some d → (d.0 ≡ id) × (Some d.1 ≡ declared ds id)
  counts place d h at = both_named d id (declared ds id) (sym at ∙ ap (option_and_then (slice_get ds)) h ∙ stands_there ds id)

  -- an id at whose place nothing stands is not declared
  pub is_absent : (place : Option ℕ) → place ≡ place_of ds id → option_and_then (slice_get ds) place ≡ None → declared ds id ≡ None
  is_absent place h nothing = nothing_mapped (λ (a : A). (id, a)) (declared ds id) (sym (stands_there ds id) ∙ sym (ap (option_and_then (slice_get ds)) h) ∙ nothing)

-- ---- one declaration more
-- the first place, and where there is none the last one, if the last id is asked for
abbrev or_last : (first : Option ℕ) (last : Bool) (place : ℕ) → Option ℕ
or_last None last place = cond last (Some place) None
or_last (Some i) last place = Some i

last_later : (b : Bool) (o : Option ℕ) (last : Bool) (n : ℕ) → cond b (Some 0) (option_map suc (or_last o last n)) ≡ or_last (cond b (Some 0) (option_map suc o)) last (suc n)
last_later true o last n = refl
last_later false (Some i) last n = refl
last_later false None true n = refl
last_later false None false n = refl

place_behind : {A : Type 0} (ds : Declarations A) (d : List ℕ × A) (id : List ℕ) → place_of (ds ++ d ∷ []) id ≡ or_last (place_of ds id) (bytes_eq id d.0) (length ds)
place_behind [] d id = place_of_more d [] id
place_behind (e ∷ ds) d id =
    place_of_more e (ds ++ d ∷ []) id
    ∙ ap (λ o. cond (bytes_eq id e.0) (Some 0) (option_map suc o)) (place_behind ds d id)
    ∙ last_later (bytes_eq id e.0) (place_of ds id) (bytes_eq id d.0) (length ds)
    ∙ ap (λ o. or_last o (bytes_eq id d.0) (suc (length ds))) (sym (place_of_more e ds id))

last_unused : (o : Option ℕ) (last : Bool) (n : ℕ) → (last ≡ true → is_some o ≡ true) → or_last o last n ≡ o
last_unused (Some i) last n h = refl
last_unused None true n h = absurd (false≢true (h refl))
last_unused None false n h = refl

last_first : (o : Option ℕ) (b last : Bool) (n : ℕ) → b ≡ last → (b ≡ true → is_some o ≡ false) → cond b (Some n) o ≡ or_last o last n
last_first o b last n tied new = grind arith

-- the place of an id that is declared for the first time is behind all
pub placed_first : {A : Type 0} (ds : Declarations A) (k : List ℕ) (a : A) (q : List ℕ) → declared ds k ≡ None → cond (bytes_eq k q) (Some (length ds)) (place_of ds q) ≡ place_of (ds ++ (k, a) ∷ []) q
placed_first ds k a q absent =
    last_first (place_of ds q) (bytes_eq k q) (bytes_eq q k) (length ds) (nat_list_eq_equiv.symm k q) (λ h. placed_where_declared ds q ∙ ap (λ x. is_some (declared ds x)) (sym ((bytes_eq-Decides k q).0 h)) ∙ ap is_some absent)
    ∙ sym (place_behind ds (k, a) q)

-- of declarations with one id the first keeps its place
pub placed_again : {A : Type 0} (ds : Declarations A) (k : List ℕ) (a : A) (q : List ℕ) → is_some (declared ds k) ≡ true → place_of (ds ++ (k, a) ∷ []) q ≡ place_of ds q
placed_again ds k a q there =
    place_behind ds (k, a) q
    ∙ last_unused (place_of ds q) (bytes_eq q k) (length ds) (λ h. placed_where_declared ds q ∙ ap (λ x. is_some (declared ds x)) ((bytes_eq-Decides q k).0 h) ∙ there)
