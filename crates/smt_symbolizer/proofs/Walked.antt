-- Lists whose elements are symbolized one after the other: of elements that are seen by what they say, and of elements each of
-- which gives a list.
use Rattle.std.proofs.Common.{◌≡◌, ℕ, ◌+◌, ◌<◌, ◌≤◌, List, [], ◌∷◌, ◌++◌, Ok, Err, drop, get_or, length, map, refl, sym, ap, ◌∙◌, append-nil, append_assoc}
use Rattle.std.proofs.lemmas.List.{at_drop_more, at_drop_all, map-append}
use Rattle.std.specs.List.{flat_map}
use Rattle.smt_values.proofs.Walks.{Walking, all_done, behind, one_more, one_refused}
use Rattle.smt_values.specs.Outcomes.{SymbolizeFault, Outcome, ◌>>=◌, each}

pub each_mapped : {X Y A : Type 0} (f : Y → Outcome A) (view : X → Y) (xs : List X) → each f (map view xs) ≡ each (λ x. f (view x)) xs
each_mapped f view [] = refl
each_mapped f view (x ∷ xs) = ap (λ o. f (view x) >>= λ a. o >>= λ rest. Ok (a ∷ rest)) (each_mapped f view xs)

module _ {X Y A : Type 0} (f : Y → Outcome A) (view : X → Y) (done : List A) (all : List X) (i : ℕ) (g : Walking (λ x. f (view x)) done (drop i all) all) where
  pub mapped_done : length all ≤ i → each f (map view all) ≡ Ok done
  mapped_done l = each_mapped f view all ∙ all_done (λ x. f (view x)) done all i l g

  pub mapped_refused : (item : X) → i < length all → item ≡ get_or all i item → (fault : SymbolizeFault) → f (view item) ≡ Err fault → each f (map view all) ≡ Err fault
  mapped_refused item l at fault h = each_mapped f view all ∙ one_refused (λ x. f (view x)) done all i item g l at fault h

-- one more is made, seen by what it says
pub mapped_more : {X Y Z A : Type 0} (f : Y → Outcome A) (view : X → Y) (said : Z → A) (done : List Z) (all : List X) (i : ℕ) → Walking (λ x. f (view x)) (map said done) (drop i all) all
    → (item : X) → i < length all → item ≡ get_or all i item → (z : Z) (more : List Z) → f (view item) ≡ Ok (said z) → more ≡ done ++ z ∷ [] → Walking (λ x. f (view x)) (map said more) (drop (i + 1) all) all
mapped_more f view said done all i g item l at z more given is = one_more (λ x. f (view x)) (map said done) all i item g l at (said z) (map said more) given (ap (map said) is ∙ map-append said done (z ∷ []))

-- the same where there is no fault
pub made_more : {X Y Z A : Type 0} (f : Y → A) (view : X → Y) (said : Z → A) (done : List Z) (all : List X) (i : ℕ) → map said done ++ map f (map view (drop i all)) ≡ map f (map view all)
    → (item : X) → i < length all → item ≡ get_or all i item → (z : Z) (more : List Z) → said z ≡ f (view item) → more ≡ done ++ z ∷ [] → map said more ++ map f (map view (drop (i + 1) all)) ≡ map f (map view all)
made_more f view said done all i g item l at z more given is =
    let rest = map f (map view (drop (i + 1) all)) in
    ap (λ l. l ++ rest) (ap (map said) is ∙ map-append said done (z ∷ []))
    ∙ append_assoc (map said done) (said z ∷ []) rest
    ∙ ap (λ a. map said done ++ a ∷ rest) given
    ∙ ap (λ x. map said done ++ f (view x) ∷ rest) at
    ∙ sym (at_drop_more (λ xs. map said done ++ map f (map view xs)) all i item l)
    ∙ g

-- ---- lists of lists, joined

abbrev pub joined : {X A : Type 0} → (X → Outcome (List A)) → List X → Outcome (List A)
joined f xs = each f xs >>= λ pss. Ok (flat_map (λ ps. ps) pss)

pub joined_mapped : {X Y A : Type 0} (f : Y → Outcome (List A)) (view : X → Y) (xs : List X) → joined f (map view xs) ≡ joined (λ x. f (view x)) xs
joined_mapped f view xs = ap (λ o. o >>= λ pss. Ok (flat_map (λ ps. ps) pss)) (each_mapped f view xs)

first_joined : {A : Type 0} (o : Outcome (List A)) (os : Outcome (List (List A)))
    → ((o >>= λ a. os >>= λ rest. Ok (a ∷ rest)) >>= λ pss. Ok (flat_map (λ ps. ps) pss)) ≡ (o >>= λ a. behind a (os >>= λ pss. Ok (flat_map (λ ps. ps) pss)))
first_joined (Err fault) os = refl
first_joined (Ok a) (Err fault) = refl
first_joined (Ok a) (Ok rest) = refl

behind_behind : {A : Type 0} (done more : List A) (o : Outcome (List A)) → behind done (behind more o) ≡ behind (done ++ more) o
behind_behind done more (Ok rest) = ap Ok (sym (append_assoc done more rest))
behind_behind done more (Err fault) = refl

none_behind : {A : Type 0} (o : Outcome (List A)) → o ≡ behind [] o
none_behind (Ok rest) = refl
none_behind (Err fault) = refl

-- what is done and what is left are all
pub record Joining {X A : Type 0} (f : X → Outcome (List A)) (done : List A) (remaining all : List X) : Type 0 where
  pub whole : joined f all ≡ behind done (joined f remaining)

pub none_joined : {X A : Type 0} (f : X → Outcome (List A)) (all : List X) → Joining f [] all all
none_joined f all = record { whole = none_behind (joined f all) }

pub all_joined : {X A : Type 0} (f : X → Outcome (List A)) (done : List A) (all : List X) (i : ℕ) → length all ≤ i → Joining f done (drop i all) all → joined f all ≡ Ok done
all_joined f done all i l g = g.whole ∙ at_drop_all (λ xs. behind done (joined f xs)) all i l ∙ ap Ok (append-nil done)

module _ {X A : Type 0} (f : X → Outcome (List A)) (done : List A) (all : List X) (i : ℕ) (item : X) (g : Joining f done (drop i all) all) (l : i < length all) (at : item ≡ get_or all i item) where
  this_joined : joined f all ≡ behind done (f item >>= λ a. behind a (joined f (drop (i + 1) all)))
  this_joined =
      g.whole
      ∙ at_drop_more (λ xs. behind done (joined f xs)) all i item l
      ∙ ap (behind done) (first_joined (f (get_or all i item)) (each f (drop (i + 1) all)))
      ∙ ap (λ x. behind done (f x >>= λ a. behind a (joined f (drop (i + 1) all)))) (sym at)

  pub joined_refused : (fault : SymbolizeFault) → f item ≡ Err fault → joined f all ≡ Err fault
  joined_refused fault h = this_joined ∙ ap (λ o. behind done (o >>= λ a. behind a (joined f (drop (i + 1) all)))) h

  pub joined_more : (a more : List A) → f item ≡ Ok a → more ≡ done ++ a → Joining f more (drop (i + 1) all) all
  joined_more a more given is = record {
    whole =
        this_joined
        ∙ ap (λ o. behind done (o >>= λ b. behind b (joined f (drop (i + 1) all)))) given
        ∙ behind_behind done a (joined f (drop (i + 1) all))
        ∙ ap (λ ps. behind ps (joined f (drop (i + 1) all))) (sym is);
  }
