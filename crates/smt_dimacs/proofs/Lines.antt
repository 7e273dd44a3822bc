-- Lists up to a place.
use Rattle.std.proofs.Common.{◌≡◌, ◌∙◌, ◌+◌, ◌<◌, ℕ, suc, List, [], ◌∷◌, ◌++◌, add-one, ap, arith, drop, drop-cons, get_or, length, refl, sym, take}
use Rattle.std.proofs.lemmas.List.{take-append-drop}

-- what was yielded, the item and what is ahead are all
pub at_turn : {X : Type 0} (all front : List X) (x : X) (n : ℕ) → front ≡ take n all → (n < length all) × (x ≡ get_or all n x) → all ≡ front ++ x ∷ drop (n + 1) all
at_turn all front x n so_far turn =
    sym (take-append-drop n all) ∙ (ap (λ l. l ++ drop n all) (sym so_far) ∙ ap (λ l. front ++ l) (drop-cons all n x turn.0 ∙ (ap (λ y. y ∷ drop (suc n) all) (sym turn.1) ∙ ap (λ k. x ∷ drop k all) (sym (add-one n)))))

-- the last of some
pub last_apart : {X : Type 0} (all : List X) → 0 < length all → (front : List X) × (last : X) × (all ≡ front ++ last ∷ [])
last_apart [] h = absurd (omega arith)
last_apart (x ∷ []) h = ([], x, refl)
last_apart (x ∷ y ∷ ys) h =
    let rest = last_apart (y ∷ ys) (omega arith) in
    (x ∷ rest.0, rest.1, ap (λ l. x ∷ l) rest.2)
