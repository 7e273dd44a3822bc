-- Lists whose elements are symbolized one after the other.
use Rattle.std.proofs.Common.{◌≡◌, ℕ, ◌+◌, ◌<◌, ◌≤◌, List, [], ◌∷◌, ◌++◌, Ok, Err, drop, get_or, length, refl, sym, ap, ◌∙◌, append-nil, append_assoc}
use Rattle.std.proofs.lemmas.List.{at_drop_more, at_drop_all}
use Rattle.smt_values.specs.Outcomes.{SymbolizeFault, Outcome, ◌>>=◌, each}

-- these in front of what is stated
abbrev pub behind : {A : Type 0} → List A → Outcome (List A) → Outcome (List A)
behind done (Ok rest) = Ok (done ++ rest)
behind done (Err f) = Err f

nothing_behind : {A : Type 0} (o : Outcome (List A)) → o ≡ behind [] o
nothing_behind (Ok rest) = refl
nothing_behind (Err f) = refl

one_behind : {A : Type 0} (done : List A) (a : A) (o : Outcome (List A)) → behind done (o >>= λ rest. Ok (a ∷ rest)) ≡ behind (done ++ a ∷ []) o
one_behind done a (Ok rest) = ap Ok (sym (append_assoc done (a ∷ []) rest))
one_behind done a (Err f) = refl

-- what is done and what is left are all
pub record Walking {X A : Type 0} (f : X → Outcome A) (done : List A) (remaining all : List X) : Type 0 where
  pub whole : each f all ≡ behind done (each f remaining)

pub none_done : {X A : Type 0} (f : X → Outcome A) (all : List X) → Walking f [] all all
none_done f all = record { whole = nothing_behind (each f all) }

pub all_done : {X A : Type 0} (f : X → Outcome A) (done : List A) (all : List X) (i : ℕ) → length all ≤ i → Walking f done (drop i all) all → each f all ≡ Ok done
all_done f done all i l g = g.whole ∙ at_drop_all (λ xs. behind done (each f xs)) all i l ∙ ap Ok (append-nil done)

module _ {X A : Type 0} (f : X → Outcome A) (done : List A) (all : List X) (i : ℕ) (item : X) (g : Walking f done (drop i all) all) (l : i < length all) (at : item ≡ get_or all i item) where
  this_one : each f all ≡ behind done (f item >>= λ a. each f (drop (i + 1) all) >>= λ rest. Ok (a ∷ rest))
  this_one =
      g.whole
      ∙ at_drop_more (λ xs. behind done (each f xs)) all i item l
      ∙ ap (λ x. behind done (f x >>= λ a. each f (drop (i + 1) all) >>= λ rest. Ok (a ∷ rest))) (sym at)

  pub one_refused : (fault : SymbolizeFault) → f item ≡ Err fault → each f all ≡ Err fault
  one_refused fault h = this_one ∙ ap (λ o. behind done (o >>= λ a. each f (drop (i + 1) all) >>= λ rest. Ok (a ∷ rest))) h

  pub one_more : (a : A) (more : List A) → f item ≡ Ok a → more ≡ done ++ a ∷ [] → Walking f more (drop (i + 1) all) all
  one_more a more given is = record {
    whole =
        this_one
        ∙ ap (λ o. behind done (o >>= λ b. each f (drop (i + 1) all) >>= λ rest. Ok (b ∷ rest))) given
        ∙ one_behind done a (each f (drop (i + 1) all))
        ∙ ap (λ ps. behind ps (each f (drop (i + 1) all))) (sym is);
  }
