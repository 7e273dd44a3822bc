-- Where a walk over pairs finds the place of a key.
use Rattle.std.proofs.Common.{◌≡◌, ℕ, ◌+◌, ◌<◌, ◌≤◌, List, [], ◌∷◌, ◌++◌, drop, take, length, get_or, set, refl, sym, ap, ◌∙◌, arith, append_assoc}
use Rattle.std.proofs.lemmas.List.{at_drop_more, at_drop_all, take_more, length-take, set_at, take-append-drop, drop_more, get_or_default}
use Rattle.std.specs.BTreeMap.{insert_entry}
use Rattle.std.specs.Ordering.{match_ordering}
use Rattle.std.specs.Prelude.{Ok, Err}
use Rattle.std.specs.declared.cmp.Ordering.{Ordering}
use Rattle.std.specs.declared.cmp.Ordering.TheVariants.{Less, Equal, Greater}
use Rattle.smt_values.specs.KeyPlaces.{IsPlace}

module _ {K V : Type 0} (cmp : K → K → Ordering) (k : K) where
  -- a pair of the key goes behind the first i pairs
  abbrev pub GoesBehind : List (K × V) → ℕ → Type 0
  GoesBehind es i = (v : V) → insert_entry cmp es k v ≡ take i es ++ insert_entry cmp (drop i es) k v

  -- where the key stands to the first of some pairs
  front : (x : K × V) (es : List (K × V)) (v : V) (r : Ordering) → cmp k x.0 ≡ r → insert_entry cmp (x ∷ es) k v ≡ match_ordering r ((k, v) ∷ x ∷ es) ((x.0, v) ∷ es) (x ∷ insert_entry cmp es k v)
  front x es v r h = ap (λ o. match_ordering o ((k, v) ∷ x ∷ es) ((x.0, v) ∷ es) (x ∷ insert_entry cmp es k v)) h

  module _ (es : List (K × V)) (i : ℕ) (x : K × V) (behind : GoesBehind es i) (l : i < length es) (at : x ≡ get_or es i x) where
    abbrev others : List (K × V)
    others = drop (i + 1) es

    here : (v : V) (r : Ordering) → cmp k x.0 ≡ r → insert_entry cmp es k v ≡ take i es ++ match_ordering r ((k, v) ∷ x ∷ others) ((x.0, v) ∷ others) (x ∷ insert_entry cmp others k v)
    here v r h =
        behind v
        ∙ at_drop_more (λ xs. take i es ++ insert_entry cmp xs k v) es i x l
        ∙ ap (λ y. take i es ++ insert_entry cmp (y ∷ others) k v) (sym at)
        ∙ ap (λ xs. take i es ++ xs) (front x others v r h)

    pub goes_further : cmp k x.0 ≡ Greater → GoesBehind es (i + 1)
    goes_further h v =
        here v Greater h
        ∙ sym (append_assoc (take i es) (x ∷ []) (insert_entry cmp others k v))
        ∙ ap (λ y. (take i es ++ y ∷ []) ++ insert_entry cmp others k v) at
        ∙ ap (λ xs. xs ++ insert_entry cmp others k v) (sym (take_more es i x l))

    all_there : es ≡ take i es ++ x ∷ others
    all_there = sym (take-append-drop i es) ∙ at_drop_more (λ xs. take i es ++ xs) es i x l ∙ ap (λ y. take i es ++ y ∷ others) (sym at)

    stands : (v : V) → set es i (x.0, v) ≡ take i es ++ (x.0, v) ∷ others
    stands v = ap (λ xs. set xs i (x.0, v)) all_there ∙ set_at (take i es) x others (x.0, v) i (length-take-to i es l)
      where
        length-take-to : (i : ℕ) (es : List (K × V)) → i < length es → length (take i es) ≡ i
        length-take-to i es l = length-take i es ∙ omega (arith, l)

    pub stands_here : cmp k x.0 ≡ Equal → IsPlace cmp k es (Ok i)
    stands_here h = (l, λ v y same. (ap (λ z. set es i (z.0, v)) (same ∙ sym (one_read y)) ∙ stands v ∙ sym (here v Equal h)))
      where
        one_read : (y : K × V) → x ≡ get_or es i y
        one_read y = at ∙ get_or_default es i x y l

    pub goes_here : cmp k x.0 ≡ Less → IsPlace cmp k es (Err i)
    goes_here h = (omega (arith, l), λ v. ap (λ xs. take i es ++ (k, v) ∷ xs) (drop_more es i x l ∙ ap (λ y. y ∷ others) (sym at)) ∙ sym (here v Less h))

  pub goes_first : (es : List (K × V)) → GoesBehind es 0
  goes_first es v = refl

  pub goes_last : (es : List (K × V)) (i : ℕ) → i ≤ length es → length es ≤ i → GoesBehind es i → IsPlace cmp k es (Err i)
  goes_last es i l m behind = (l, λ v. ap (λ xs. take i es ++ (k, v) ∷ xs) (drop-none es i m) ∙ sym (behind v ∙ at_drop_all (λ xs. take i es ++ insert_entry cmp xs k v) es i m))
    where
      drop-none : (es : List (K × V)) (i : ℕ) → length es ≤ i → drop i es ≡ []
      drop-none es i m = at_drop_all (λ xs. xs) es i m
