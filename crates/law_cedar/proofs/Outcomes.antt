-- What an outcome that states something says of its parts.
use Rattle.std.proofs.Common.{◌≡◌, List, [], ◌∷◌, Ok, Err, refl, sym, ap, ◌∙◌, subst}
use mathlib.Core.Logic.{inl, inr, ⊎_elim}
use Rattle.law_terms.proofs.Sorted.{IsIn}
use Rattle.smt_values.specs.Outcomes.{Outcome, ◌>>=◌, each}

-- what is read on from is stated
pub stated_first : {A B : Type 0} (o : Outcome A) (f : A → Outcome B) (b : B) → (o >>= f) ≡ Ok b → (a : A) × (o ≡ Ok a) × (f a ≡ Ok b)
stated_first (Ok a) f b h = (a, refl, h)
stated_first (Err fault) f b h = cc

abbrev ok_or : {A : Type 0} → A → Outcome A → A
ok_or a (Ok b) = b
ok_or a (Err fault) = a

abbrev pub ok : {A : Type 0} → A → Outcome A
ok a = Ok a

pub same_ok : {A : Type 0} (a b : A) → ok a ≡ ok b → a ≡ b
same_ok a b h = ap (ok_or a) h

-- of each of a list there is what is stated of it, and there is no more
pub each_in : {X A : Type 0} (f : X → Outcome A) (x : X) (xs : List X) (ys : List A) → each f xs ≡ Ok ys → IsIn x xs → (y : A) × (f x ≡ Ok y) × IsIn y ys
each_in f x [] ys h m = absurd m
each_in f x (z ∷ zs) ys h m =
    let first = stated_first (f z) (λ a. each f zs >>= λ rest. Ok (a ∷ rest)) ys h in
    let more = stated_first (each f zs) (λ rest. Ok (first.0 ∷ rest)) ys first.2 in
    let is : first.0 ∷ more.0 ≡ ys = same_ok (first.0 ∷ more.0) ys more.2 in
    ⊎_elim (λ e. (first.0, ap f e ∙ first.1, subst (λ l. IsIn first.0 l) is (inl refl))) (λ n. let r = each_in f x zs more.0 more.1 n in (r.0, r.1, subst (λ l. IsIn r.0 l) is (inr r.2))) m

pub each_out : {X A : Type 0} (f : X → Outcome A) (y : A) (xs : List X) (ys : List A) → each f xs ≡ Ok ys → IsIn y ys → (x : X) × IsIn x xs × (f x ≡ Ok y)
each_out f y [] ys h m = absurd (subst (λ l. IsIn y l) (sym (same_ok [] ys h)) m)
each_out f y (z ∷ zs) ys h m =
    let first = stated_first (f z) (λ a. each f zs >>= λ rest. Ok (a ∷ rest)) ys h in
    let more = stated_first (each f zs) (λ rest. Ok (first.0 ∷ rest)) ys first.2 in
    let is : first.0 ∷ more.0 ≡ ys = same_ok (first.0 ∷ more.0) ys more.2 in
    ⊎_elim (λ e. (z, inl refl, first.1 ∙ ap Ok (sym e))) (λ n. let r = each_out f y zs more.0 more.1 n in (r.0, inr r.1, r.2)) (subst (λ l. IsIn y l) (sym is) m)
