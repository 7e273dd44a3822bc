-- What a look-up finds by the place of the first key, and the places of the first keys after one entry more.
use Rattle.std.proofs.Common.{◌≡◌, ℕ, suc, Bool, true, false, cond, List, [], ◌∷◌, ◌++◌, Option, Some, None, length, option_map, refl, sym, ap, ◌∙◌}
use Rattle.std.proofs.lemmas.Bool.{false≢true}
use Rattle.std.specs.BTreeMap.{BTreeMap, Updates, get, is_at}
use Rattle.std.specs.Cmp.{IsTotalOrder, Equal-is, alike_right, eq_by_cmp_equiv}
use Rattle.std.specs.Map.{keys_of, lookup}
use Rattle.std.specs.Ordering.{is_eq}
use Rattle.std.specs.Prelude.{is_some, option_and_then, slice_get}
use Rattle.std.specs.declared.cmp.Ordering.{Ordering}
use Rattle.std.specs.declared.cmp.Ordering.TheVariants.{Equal}
use Rattle.smt_eval.specs.FirstPlaces.{first_place}

-- ---- the value at the first place is what the look-up finds
abbrev value_at : {K V : Type 0} → List (K × V) → ℕ → Option V
value_at es i = option_map (λ e. e.1) (slice_get es i)

one_later : {K V : Type 0} (es : List (K × V)) (e : K × V) (b : Bool) (o : Option ℕ) → option_and_then (value_at (e ∷ es)) (cond b (Some 0) (option_map suc o)) ≡ cond b (Some e.1) (option_and_then (value_at es) o)
one_later es e true o = refl
one_later es e false None = refl
one_later es e false (Some i) = refl

found_at_first : {K V : Type 0} (test : K → Bool) (es : List (K × V)) → option_and_then (value_at es) (first_place test (keys_of es)) ≡ lookup test es
found_at_first test [] = refl
found_at_first test (e ∷ es) = one_later es e (test e.0) (first_place test (keys_of es)) ∙ ap (cond (test e.0) (Some e.1)) (found_at_first test es)

pub found_at : {K V : Type 0} (test : K → Bool) (es : List (K × V)) (place : Option ℕ) → place ≡ first_place test (keys_of es) → option_and_then (value_at es) place ≡ lookup test es
found_at test es place h = ap (option_and_then (value_at es)) h ∙ found_at_first test es

-- ---- one entry more
-- the first place, and where there is none the last one, if the last key passes
abbrev or_last : (first : Option ℕ) (last : Bool) (place : ℕ) → Option ℕ
or_last None last place = cond last (Some place) None
or_last (Some i) last place = Some i

last_later : (b : Bool) (o : Option ℕ) (last : Bool) (n : ℕ) → cond b (Some 0) (option_map suc (or_last o last n)) ≡ or_last (cond b (Some 0) (option_map suc o)) last (suc n)
last_later true o last n = refl
last_later false (Some i) last n = refl
last_later false None true n = refl
last_later false None false n = refl

first_of_more : {K V : Type 0} (test : K → Bool) (es : List (K × V)) (e : K × V) → first_place test (keys_of (es ++ e ∷ [])) ≡ or_last (first_place test (keys_of es)) (test e.0) (length es)
first_of_more test [] e = refl
first_of_more test (d ∷ es) e =
    ap (λ o. cond (test d.0) (Some 0) (option_map suc o)) (first_of_more test es e) ∙ last_later (test d.0) (first_place test (keys_of es)) (test e.0) (length es)

-- a key that is there already, or another one
last_unused : (o : Option ℕ) (last : Bool) (n : ℕ) → (last ≡ true → is_some o ≡ true) → or_last o last n ≡ o
last_unused (Some i) last n h = refl
last_unused None true n h = absurd (false≢true (h refl))
last_unused None false n h = refl

-- a new key
last_is_first : (o before : Option ℕ) (b last : Bool) (n : ℕ) → o ≡ before → b ≡ last → (b ≡ true → before ≡ None) → cond b (Some n) o ≡ or_last before last n
last_is_first o before true true n had tied new = sym (ap (λ p. or_last p true n) (new refl))
last_is_first o None false false n had tied new = had
last_is_first o (Some i) false false n had tied new = had
last_is_first o before true false n had tied new = absurd (false≢true (sym tied))
last_is_first o before false true n had tied new = absurd (false≢true tied)

none_of : {A : Type 0} (o : Option A) → is_some o ≡ false → o ≡ None
none_of None h = refl
none_of (Some a) h = absurd (false≢true (sym h))

module _ {K V : Type 0} {cmp : K → K → Ordering} (laws : IsTotalOrder cmp) (key : K) (e : K × V) (es : List (K × V)) (same : cmp key e.0 ≡ Equal) where
  -- the map finds for each key the place of the first entry that has it
  abbrev FindsFirst : BTreeMap K ℕ → List (K × V) → Type 0
  FindsFirst m ds = (q : K) → get cmp m q ≡ first_place (is_at (cmp q)) (keys_of ds)

  -- keys that are equal to the given one find what it finds
  alike : (q : K) → is_eq (cmp key q) ≡ true → first_place (is_at (cmp q)) (keys_of es) ≡ first_place (is_at (cmp key)) (keys_of es)
  alike q h = sym (λ i. first_place (λ k. is_eq (laws.congr key q k ((Equal-is (cmp key q)).0 h) i)) (keys_of es))

  tied : (q : K) → is_eq (cmp key q) ≡ is_eq (cmp q e.0)
  tied q = (eq_by_cmp_equiv laws).symm key q ∙ ap is_eq (alike_right laws key e.0 q same)

  pub with_known_key : (m : BTreeMap K ℕ) → FindsFirst m es → is_some (get cmp m key) ≡ true → (now : List (K × V)) → now ≡ es ++ e ∷ [] → FindsFirst m now
  with_known_key m had known now more q =
      had q
      ∙ sym (last_unused (first_place (is_at (cmp q)) (keys_of es)) (is_eq (cmp q e.0)) (length es) (λ t. ap is_some (alike q (tied q ∙ t) ∙ sym (had key)) ∙ known))
      ∙ sym (first_of_more (is_at (cmp q)) es e)
      ∙ sym (ap (λ ds. first_place (is_at (cmp q)) (keys_of ds)) more)

  pub with_new_key : (m n : BTreeMap K ℕ) (place : ℕ) → FindsFirst m es → is_some (get cmp m key) ≡ false → Updates cmp m n key (Some place) → place ≡ length es → (now : List (K × V)) → now ≡ es ++ e ∷ [] → FindsFirst n now
  with_new_key m n place had new updates last now more q =
      updates.0 q
      ∙ ap (λ i. cond (is_eq (cmp key q)) (Some i) (get cmp m q)) last
      ∙ last_is_first (get cmp m q) (first_place (is_at (cmp q)) (keys_of es)) (is_eq (cmp key q)) (is_eq (cmp q e.0)) (length es) (had q) (tied q) (λ t. alike q t ∙ (sym (had key) ∙ none_of (get cmp m key) new))
      ∙ sym (first_of_more (is_at (cmp q)) es e)
      ∙ sym (ap (λ ds. first_place (is_at (cmp q)) (keys_of ds)) more)
