-- What the search over lists of truths finds.
use Rattle.std.proofs.Common.{◌≡◌, ◌⊎◌, ℕ, zero, suc, Bool, true, false, cond, List, [], ◌∷◌, length, refl, sym, ap, ◌∙◌, subst, inl, inr, Option, Some, None}
use Rattle.std.specs.Option.{option_or}
use Rattle.std.proofs.lemmas.Bool.{false≢true}
use Rattle.law_texts.specs.Options.{◌>>=◌}
use Rattle.law_verdicts.specs.FirstModel.{first_such, comes_no_later}

abbrev Holds : Type 0
Holds = List Bool → Bool

-- a truth in front
abbrev front : Bool → List Bool → Option (List Bool)
front b bs = Some (b ∷ bs)

front_none : (b : Bool) (o : Option (List Bool)) → (o >>= front b) ≡ None → o ≡ None
front_none b None h = refl
front_none b (Some x) h = absurd cc

front_some : (b : Bool) (o : Option (List Bool)) (found : List Bool) → (o >>= front b) ≡ Some found → (bs : List Bool) × (o ≡ Some bs) × (found ≡ b ∷ bs)
front_some b None found h = absurd cc
front_some b (Some x) found h = (x, refl, cc)

or_none : (o p : Option (List Bool)) → option_or o p ≡ None → (o ≡ None) × (p ≡ None)
or_none None p h = (refl, h)
or_none (Some x) p h = absurd cc

or_some : (o p : Option (List Bool)) (found : List Bool) → option_or o p ≡ Some found → (o ≡ Some found) ⊎ ((o ≡ None) × (p ≡ Some found))
or_some None p found h = inr (refl, h)
or_some (Some x) p found h = inl h

abbrev nothing : Option (List Bool)
nothing = None

at_end_none : (b : Bool) → cond b (Some []) None ≡ nothing → b ≡ false
at_end_none true h = absurd cc
at_end_none false h = refl

at_end_some : (b : Bool) (found : List Bool) → cond b (Some []) None ≡ Some found → (b ≡ true) × (found ≡ [])
at_end_some true found h = (refl, cc)
at_end_some false found h = absurd cc

-- nothing found: the test holds of none
pub none_such : (n : ℕ) (holds : Holds) → first_such n holds ≡ None → (bs : List Bool) → length bs ≡ n → holds bs ≡ false
none_such zero holds h [] l = at_end_none (holds []) h
none_such zero holds h (b ∷ bs) l = absurd cc
none_such (suc n) holds h [] l = absurd cc
none_such (suc n) holds h (false ∷ bs) l =
    let both = or_none (first_such n (λ bs. holds (false ∷ bs)) >>= front false) (first_such n (λ bs. holds (true ∷ bs)) >>= front true) h in
    none_such n (λ bs. holds (false ∷ bs)) (front_none false (first_such n (λ bs. holds (false ∷ bs))) both.0) bs cc
none_such (suc n) holds h (true ∷ bs) l =
    let both = or_none (first_such n (λ bs. holds (false ∷ bs)) >>= front false) (first_such n (λ bs. holds (true ∷ bs)) >>= front true) h in
    none_such n (λ bs. holds (true ∷ bs)) (front_none true (first_such n (λ bs. holds (true ∷ bs))) both.1) bs cc

-- The test holds of what is found, and of nothing before it.
pub record Finds (n : ℕ) (holds : Holds) (found : List Bool) : Type 0 where
  pub long : length found ≡ n
  pub such : holds found ≡ true
  pub first : (bs : List Bool) → length bs ≡ n → holds bs ≡ true → comes_no_later found bs ≡ true

pub found_such : (n : ℕ) (holds : Holds) (found : List Bool) → first_such n holds ≡ Some found → Finds n holds found
found_such zero holds found h =
    let p = at_end_some (holds []) found h in
    record { long = ap length p.1; such = ap holds p.1 ∙ p.0; first = λ bs l k. ap (λ x. comes_no_later x bs) p.1 }
found_such (suc n) holds found h =
    elim (or_some (first_such n (λ bs. holds (false ∷ bs)) >>= front false) (first_such n (λ bs. holds (true ∷ bs)) >>= front true) found h) [
      | inl p ↦ (let q = front_some false (first_such n (λ bs. holds (false ∷ bs))) found p in subst (Finds (suc n) holds) (sym q.2) (lower q.0 (found_such n (λ bs. holds (false ∷ bs)) q.0 q.1)))
      | inr p ↦ (let q = front_some true (first_such n (λ bs. holds (true ∷ bs))) found p.1 in
          subst (Finds (suc n) holds) (sym q.2) (upper q.0 (front_none false (first_such n (λ bs. holds (false ∷ bs))) p.0) (found_such n (λ bs. holds (true ∷ bs)) q.0 q.1)))
    ]
  where
    lower : (x : List Bool) → Finds n (λ bs. holds (false ∷ bs)) x → Finds (suc n) holds (false ∷ x)
    lower x f = record { long = ap suc f.long; such = f.such; first = after }
      where
        after : (bs : List Bool) → length bs ≡ suc n → holds bs ≡ true → comes_no_later (false ∷ x) bs ≡ true
        after [] l k = absurd cc
        after (true ∷ bs) l k = refl
        after (false ∷ bs) l k = let long : length bs ≡ n = cc in f.first bs long k

    upper : (x : List Bool) → first_such n (λ bs. holds (false ∷ bs)) ≡ None → Finds n (λ bs. holds (true ∷ bs)) x → Finds (suc n) holds (true ∷ x)
    upper x none f = record { long = ap suc f.long; such = f.such; first = after }
      where
        after : (bs : List Bool) → length bs ≡ suc n → holds bs ≡ true → comes_no_later (true ∷ x) bs ≡ true
        after [] l k = absurd cc
        after (true ∷ bs) l k = let long : length bs ≡ n = cc in f.first bs long k
        after (false ∷ bs) l k = absurd (false≢true (sym (none_such n (λ bs. holds (false ∷ bs)) none bs cc) ∙ k))
