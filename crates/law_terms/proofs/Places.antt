-- What stands at places of lists, and what one node more leaves.
use Rattle.std.proofs.Common.{◌≡◌, ℕ, zero, suc, ◌+◌, ◌<◌, List, [], ◌∷◌, ◌++◌, length, refl, sym, ap, ◌∙◌, inl, inr, ◌⊎◌, arith, length-append}
use Rattle.std.specs.Bool.{then_some}
use Rattle.std.specs.Prelude.{Bool, true, false, fold, Option, Some, None, option_and_then, option_map, slice_get}
use Rattle.std.proofs.lemmas.List.Sums.{fold-append}
use Rattle.law_terms.specs.Meanings.{all_found, found, meaning_at, meaning_of, meanings, only_if}
use Rattle.law_terms.specs.Nodes.{Meaning, PlainNode}

pub some_same : {A : Type 0} (x y : A) → Some x ≡ Some y → x ≡ y
some_same x y h = cc

-- back from an answer to what it came from
pub map_back : {A B : Type 0} (f : A → B) (o : Option A) (y : B) → option_map f o ≡ Some y → (x : A) × (o ≡ Some x) × (f x ≡ y)
map_back f None y h = absurd (cc)
map_back f (Some x) y h = (x, refl, some_same (f x) y h)

pub then_back : {A B : Type 0} (f : A → Option B) (o : Option A) (y : B) → option_and_then f o ≡ Some y → (x : A) × (o ≡ Some x) × (f x ≡ Some y)
then_back f None y h = absurd (cc)
then_back f (Some x) y h = (x, refl, h)

pub test_back : {A : Type 0} (b : Bool) (x y : A) → then_some b x ≡ Some y → (b ≡ true) × (x ≡ y)
test_back true x y h = (refl, some_same x y h)
test_back false x y h = absurd (cc)

pub only_back : {A : Type 0} (b : Bool) (o : Option A) (y : A) → only_if b o ≡ Some y → (b ≡ true) × (o ≡ Some y)
only_back true o y h = (refl, h)
only_back false o y h = absurd (cc)

-- ---- places of a list with one item more
pub get_older : {A : Type 0} (xs ys : List A) (i : ℕ) → i < length xs → slice_get (xs ++ ys) i ≡ slice_get xs i
get_older [] ys i h = absurd (omega arith)
get_older (x ∷ xs) ys zero h = refl
get_older (x ∷ xs) ys (suc i) h = get_older xs ys i (omega arith)

pub get_last : {A : Type 0} (xs : List A) (y : A) → slice_get (xs ++ y ∷ []) (length xs) ≡ Some y
get_last [] y = refl
get_last (x ∷ xs) y = get_last xs y

pub get_split : {A : Type 0} (xs : List A) (y : A) (i : ℕ) (z : A) → slice_get (xs ++ y ∷ []) i ≡ Some z → (slice_get xs i ≡ Some z) ⊎ ((i ≡ length xs) × (y ≡ z))
get_split [] y zero z h = inr (refl, some_same y z h)
get_split [] y (suc i) z h = absurd (cc)
get_split (x ∷ xs) y zero z h = inl h
get_split (x ∷ xs) y (suc i) z h = elim (get_split xs y i z h) [ inl e ↦ inl e | inr e ↦ inr (ap suc e.0, e.1) ]

pub get_stays : {A : Type 0} (xs ys : List A) (i : ℕ) (z : A) → slice_get xs i ≡ Some z → slice_get (xs ++ ys) i ≡ Some z
get_stays [] ys i z h = absurd (cc)
get_stays (x ∷ xs) ys zero z h = h
get_stays (x ∷ xs) ys (suc i) z h = get_stays xs ys i z h

-- ---- the same of what is found
pub found_split : (ms : List (Option Meaning)) (o : Option Meaning) (i : ℕ) (m : Meaning) → found (ms ++ o ∷ []) i ≡ Some m → (found ms i ≡ Some m) ⊎ ((i ≡ length ms) × (o ≡ Some m))
found_split [] o zero m h = inr (refl, h)
found_split [] o (suc i) m h = absurd (cc)
found_split (x ∷ ms) o zero m h = inl h
found_split (x ∷ ms) o (suc i) m h = elim (found_split ms o i m h) [ inl e ↦ inl e | inr e ↦ inr (ap suc e.0, e.1) ]

pub found_stays : (ms ns : List (Option Meaning)) (i : ℕ) (m : Meaning) → found ms i ≡ Some m → found (ms ++ ns) i ≡ Some m
found_stays [] ns i m h = absurd (cc)
found_stays (x ∷ ms) ns zero m h = h
found_stays (x ∷ ms) ns (suc i) m h = found_stays ms ns i m h

pub found_within : (ms : List (Option Meaning)) (i : ℕ) (m : Meaning) → found ms i ≡ Some m → i < length ms
found_within [] i m h = absurd (cc)
found_within (x ∷ ms) zero m h = omega arith
found_within (x ∷ ms) (suc i) m h = let k = found_within ms i m h in omega arith

pub all_stay : (ms ns : List (Option Meaning)) (is : List ℕ) (ps : List Meaning) → all_found ms is ≡ Some ps → all_found (ms ++ ns) is ≡ Some ps
all_stay ms ns [] ps h = h
all_stay ms ns (i ∷ is) ps h =
    let (m, e, d) = then_back (λ m. option_map (λ rest. m ∷ rest) (all_found ms is)) (found ms i) ps h in
    let (rest, f, g) = map_back (λ rest. m ∷ rest) (all_found ms is) ps d in
    ap (option_and_then (λ m. option_map (λ rest. m ∷ rest) (all_found (ms ++ ns) is))) (found_stays ms ns i m e) ∙ (ap (option_map (λ rest. m ∷ rest)) (all_stay ms ns is rest f) ∙ ap Some g)

-- ---- what nodes stand for, with one node more
pub meanings_grow : (ns : List PlainNode) (n : PlainNode) → meanings (ns ++ n ∷ []) ≡ meanings ns ++ meaning_of (meanings ns) n ∷ []
meanings_grow ns n = fold-append (λ ms n. ms ++ meaning_of ms n ∷ []) [] ns (n ∷ [])

pub count : (ms : List (Option Meaning)) (ns : List PlainNode) → length (fold (λ ms n. ms ++ meaning_of ms n ∷ []) ms ns) ≡ length ms + length ns
count ms [] = omega arith
count ms (n ∷ ns) = let k = count (ms ++ meaning_of ms n ∷ []) ns in omega (arith, length-append ms (meaning_of ms n ∷ []))

pub as_many : (ns : List PlainNode) → length (meanings ns) ≡ length ns
as_many ns = let k = count [] ns in omega arith

pub meaning_stays : (ns : List PlainNode) (n : PlainNode) (i : ℕ) (m : Meaning) → meaning_at ns i ≡ Some m → meaning_at (ns ++ n ∷ []) i ≡ Some m
meaning_stays ns n i m h = ap (λ ms. found ms i) (meanings_grow ns n) ∙ found_stays (meanings ns) _ i m h

pub older_stay : (ns : List PlainNode) (n : PlainNode) (i : ℕ) → i < length ns → meaning_at (ns ++ n ∷ []) i ≡ meaning_at ns i
older_stay ns n i h =
    let b : i < length (meanings ns) = omega (arith, as_many ns) in
    ap (λ ms. found ms i) (meanings_grow ns n) ∙ ap (option_and_then (λ m. m)) (get_older (meanings ns) (meaning_of (meanings ns) n ∷ []) i b)

pub last_has : (ns : List PlainNode) (n : PlainNode) → meaning_at (ns ++ n ∷ []) (length ns) ≡ meaning_of (meanings ns) n
last_has ns n =
    ap (λ ms. found ms (length ns)) (meanings_grow ns n) ∙ (ap (found (meanings ns ++ meaning_of (meanings ns) n ∷ [])) (sym (as_many ns)) ∙ ap (option_and_then (λ m. m)) (get_last (meanings ns) (meaning_of (meanings ns) n)))
