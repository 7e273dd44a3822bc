-- Texts that are kept at places of a list.
use Rattle.std.proofs.Common.{◌≡◌, ℕ, zero, suc, ◌<◌, ◌≤◌, ◌||◌, Bool, true, false, List, [], ◌∷◌, ◌++◌, drop, length, Option, Some, None, refl, sym, ap, ◌∙◌, arith}
use Rattle.std.specs.Prelude.{◌==◌, if◌then◌else◌, option_and_then, option_map, slice_set}
use Rattle.std.proofs.lemmas.Bool.{eq-eqb, eqb-true, false≢true}
use Rattle.std.proofs.lemmas.List.{drop-append-le}
use Rattle.std.proofs.lemmas.List.Folds.{list_any-append}
use Rattle.std.specs.Rc.{rc_str_bytes}
use Rattle.std.specs.declared.alloc.Global.{Global}
use Rattle.std.specs.declared.rc.RcStr.{RcStr}
use Rattle.smt_spelling.specs.Texts.{is_among, kept_at, kept_count, kept_then, IsKept}

abbrev pub Texts : Type 0
Texts = List (Option (RcStr Global))

-- there are no more texts than places
pub at_most : (texts : Texts) → kept_count texts ≤ length texts
at_most [] = omega arith
at_most (None ∷ texts) = let h = at_most texts in omega (arith, h)
at_most (Some text ∷ texts) = let h = at_most texts in omega (arith, h)

-- where a text is kept there is a place
pub within : (texts : Texts) (i : ℕ) (x : List ℕ) → kept_at texts i ≡ Some x → i < length texts
within [] i x h = absurd (cc)
within (text ∷ texts) zero x h = omega arith
within (text ∷ texts) (suc i) x h = let k = within texts i x h in omega (arith, k)

pub past : (texts : Texts) (i : ℕ) → length texts ≤ i → kept_at texts i ≡ None
past [] i h = refl
past (text ∷ texts) zero h = absurd (omega (arith, h))
past (text ∷ texts) (suc i) h = past texts i (omega (arith, h))

-- room for one more text keeps none
pub room : (texts : Texts) (i : ℕ) → kept_at (texts ++ None ∷ []) i ≡ kept_at texts i
room [] zero = refl
room [] (suc i) = refl
room (text ∷ texts) zero = refl
room (text ∷ texts) (suc i) = room texts i

pub room_counts : (texts : Texts) → kept_count (texts ++ None ∷ []) ≡ kept_count texts
room_counts [] = refl
room_counts (None ∷ texts) = room_counts texts
room_counts (Some text ∷ texts) = ap suc (room_counts texts)

-- ---- a text that is set where there was none

not_kept : (o : Option (RcStr Global)) → option_map rc_str_bytes (option_and_then (λ text. text) (Some o)) ≡ None → o ≡ None
not_kept None h = refl
not_kept (Some text) h = absurd (cc)

here : (texts : Texts) (i : ℕ) (x : RcStr Global) → i < length texts → kept_at (slice_set texts i (Some x)) i ≡ Some (rc_str_bytes x)
here [] i x b = absurd (omega (arith, b))
here (text ∷ texts) zero x b = refl
here (text ∷ texts) (suc i) x b = here texts i x (omega (arith, b))

others : (texts : Texts) (i : ℕ) (x : Option (RcStr Global)) (j : ℕ) → ¬ (j ≡ i) → kept_at (slice_set texts i x) j ≡ kept_at texts j
others [] i x j h = refl
others (text ∷ texts) zero x zero h = absurd (h refl)
others (text ∷ texts) zero x (suc j) h = refl
others (text ∷ texts) (suc i) x zero h = refl
others (text ∷ texts) (suc i) x (suc j) h = others texts i x j (λ e. h (ap suc e))

pub as_many : (texts : Texts) (i : ℕ) (x : Option (RcStr Global)) → length (slice_set texts i x) ≡ length texts
as_many [] i x = refl
as_many (text ∷ texts) zero x = refl
as_many (text ∷ texts) (suc i) x = ap suc (as_many texts i x)

one_more : (texts : Texts) (i : ℕ) (x : RcStr Global) → i < length texts → kept_at texts i ≡ None → kept_count (slice_set texts i (Some x)) ≡ suc (kept_count texts)
one_more [] i x b h = absurd (omega (arith, b))
one_more (None ∷ texts) zero x b h = refl
one_more (Some text ∷ texts) zero x b h = absurd (cc)
one_more (None ∷ texts) (suc i) x b h = one_more texts i x (omega (arith, b)) h
one_more (Some text ∷ texts) (suc i) x b h = ap suc (one_more texts i x (omega (arith, b)) h)

pub set : (texts : Texts) (i : ℕ) (x : RcStr Global) → i < length texts → kept_at texts i ≡ None → IsKept texts (slice_set texts i (Some x)) i (rc_str_bytes x)
set texts i x b h = record { here = here texts i x b; others = others texts i (Some x); as_many = as_many texts i (Some x); one_more = one_more texts i x b h }

-- where no place keeps a text there is none
pub none_kept : (texts : Texts) → ((i : ℕ) → kept_at texts i ≡ None) → kept_count texts ≡ 0
none_kept [] h = refl
none_kept (None ∷ texts) h = none_kept texts (λ i. h (suc i))
none_kept (Some text ∷ texts) h = absurd (no_text (h zero))
  where
    no_text : {A : Type 0} {x : A} → ◌≡◌ {A = Option A} (Some x) None → ⊥
    no_text e = cc

-- ---- a text that is taken out

apart : (j i : ℕ) → (j == i) ≡ false → ¬ (j ≡ i)
apart j i h e = false≢true (sym h ∙ eq-eqb j i e)

gone : (texts : Texts) (i : ℕ) → kept_at (slice_set texts i None) i ≡ None
gone [] i = refl
gone (text ∷ texts) zero = refl
gone (text ∷ texts) (suc i) = gone texts i

pub cleared : (texts : Texts) (i j : ℕ) → kept_at (slice_set texts i None) j ≡ (if j == i then None else kept_at texts j)
cleared texts i j = by (j == i) refl
  where
    by : (b : Bool) → (j == i) ≡ b → kept_at (slice_set texts i None) j ≡ (if b then None else kept_at texts j)
    by true e = ap (kept_at (slice_set texts i None)) (eqb-true j i e) ∙ gone texts i
    by false e = others texts i None j (apart j i e)

-- past the end there is nothing to be taken out
pub none_past : (texts : Texts) (i j : ℕ) → length texts ≤ i → kept_at texts j ≡ (if j == i then None else kept_at texts j)
none_past texts i j h = by (j == i) refl
  where
    by : (b : Bool) → (j == i) ≡ b → kept_at texts j ≡ (if b then None else kept_at texts j)
    by true e = ap (kept_at texts) (eqb-true j i e) ∙ past texts i h
    by false e = refl

pub cleared_count : (texts : Texts) (i : ℕ) → kept_count texts ≤ suc (kept_count (slice_set texts i None))
cleared_count [] i = omega arith
cleared_count (None ∷ texts) zero = omega arith
cleared_count (Some text ∷ texts) zero = omega arith
cleared_count (None ∷ texts) (suc i) = cleared_count texts i
cleared_count (Some text ∷ texts) (suc i) = let h = cleared_count texts i in omega (arith, h)

-- where a place keeps none, fewer texts are kept than there are places
pub spare : (texts : Texts) (i : ℕ) → i < length texts → kept_at texts i ≡ None → kept_count texts < length texts
spare [] i b h = absurd (omega (arith, b))
spare (None ∷ texts) zero b h = let k = at_most texts in omega (arith, k)
spare (Some text ∷ texts) zero b h = absurd (cc)
spare (None ∷ texts) (suc i) b h = let k = spare texts i (omega (arith, b)) h in omega (arith, k)
spare (Some text ∷ texts) (suc i) b h = let k = spare texts i (omega (arith, b)) h in omega (arith, k)

pub not_below : (p n : ℕ) → (p < n → ⊥) → n ≤ p
not_below p zero h = omega arith
not_below zero (suc n) h = absurd (h (omega arith))
not_below (suc p) (suc n) h = let k = not_below p n (λ q. h (omega (arith, q))) in omega (arith, k)

-- ---- what was kept then

abbrev pub At : Type 0
At = ℕ → Option (List ℕ)

or_false : (b : Bool) → (b || false) ≡ b
or_false true = refl
or_false false = refl

or_true : (b : Bool) → (b || true) ≡ true
or_true true = refl
or_true false = refl

if_none : (b : Bool) (o : Option (List ℕ)) → o ≡ None → (if b then None else o) ≡ None
if_none true o h = refl
if_none false o h = h

if_or : (a b : Bool) (o : Option (List ℕ)) → (if a then None else (if b then None else o)) ≡ (if a || b then None else o)
if_or true b o = refl
if_or false b o = refl

-- the places that came since, and those that came after them
since : (place kept : ℕ) (order more : List ℕ) → kept ≤ length order → is_among place (drop kept (order ++ more)) ≡ (is_among place (drop kept order) || is_among place more)
since place kept order more k = ap (is_among place) (drop-append-le kept order more k) ∙ list_any-append (λ other. place == other) (drop kept order) more

-- a text that is kept where there was none changes nothing of what was kept then
pub levels_stay : (old new : At) (order : List ℕ) (i : ℕ) → old i ≡ None → ((j : ℕ) → ¬ (j ≡ i) → new j ≡ old j) → (kept : ℕ) → kept ≤ length order → kept_then new (order ++ i ∷ []) kept ≡ kept_then old order kept
levels_stay old new order i none others kept k = λ z place. by place (place == i) refl z
  where
    by : (place : ℕ) (b : Bool) → (place == i) ≡ b → kept_then new (order ++ i ∷ []) kept place ≡ kept_then old order kept place
    by place true e =
        let b = is_among place (drop kept order) in
        ap (λ c. if c then None else new place) (since place kept order (i ∷ []) k ∙ ap (λ c. b || (c || false)) e ∙ or_true b)
        ∙ sym (if_none b (old place) (ap old (eqb-true place i e) ∙ none))
    by place false e =
        let b = is_among place (drop kept order) in
        ap (λ c. if c then None else new place) (since place kept order (i ∷ []) k ∙ ap (λ c. b || (c || false)) e ∙ or_false b)
        ∙ ap (λ o. if b then None else o) (others place (apart place i e))

-- where the last places were taken out, what was kept before them is what it was
pub lower_stay : (old new : At) (order more : List ℕ) → ((place : ℕ) → new place ≡ (if is_among place more then None else old place)) → (kept : ℕ) → kept ≤ length order → kept_then new order kept ≡ kept_then old (order ++ more) kept
lower_stay old new order more h kept k = λ z place. at place z
  where
    at : (place : ℕ) → kept_then new order kept place ≡ kept_then old (order ++ more) kept place
    at place =
        let a = is_among place (drop kept order) in
        ap (λ o. if a then None else o) (h place)
        ∙ if_or a (is_among place more) (old place)
        ∙ ap (λ c. if c then None else old place) (sym (since place kept order more k))

-- one place more is taken out
pub taken_out : (old now new : At) (p : ℕ) (more : List ℕ) → ((place : ℕ) → now place ≡ (if is_among place more then None else old place)) → ((place : ℕ) → new place ≡ (if place == p then None else now place))
    → (place : ℕ) → new place ≡ (if is_among place (p ∷ more) then None else old place)
taken_out old now new p more h k place = k place ∙ ap (λ o. if place == p then None else o) (h place) ∙ if_or (place == p) (is_among place more) (old place)

drop_all : {A : Type 0} (xs : List A) (n : ℕ) → length xs ≤ n → drop n xs ≡ []
drop_all [] zero h = refl
drop_all [] (suc n) h = refl
drop_all (x ∷ xs) zero h = absurd (omega (arith, h))
drop_all (x ∷ xs) (suc n) h = drop_all xs n (omega (arith, h))

-- what is kept now is kept then, where nothing was kept since
pub nothing_since : (now : At) (order : List ℕ) (kept : ℕ) → length order ≤ kept → kept_then now order kept ≡ now
nothing_since now order kept h = λ z place. at place z
  where
    at : (place : ℕ) → kept_then now order kept place ≡ now place
    at place = ap (λ (l : List ℕ). if is_among place l then None else now place) (drop_all order kept h)

-- what was kept then is kept now
pub still_kept : (now : At) (order : List ℕ) (kept place : ℕ) (x : List ℕ) → kept_then now order kept place ≡ Some x → now place ≡ Some x
still_kept now order kept place x = by (is_among place (drop kept order))
  where
    by : (b : Bool) → (if b then None else now place) ≡ Some x → now place ≡ Some x
    by true h = absurd (cc)
    by false h = h
