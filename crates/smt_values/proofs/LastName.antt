-- The last part of a name.
use Rattle.std.proofs.Common.{◌≡◌, ℕ, zero, suc, ◌<◌, ◌≤◌, Bool, true, false, cond, List, [], ◌∷◌, ◌++◌, Some, None, drop, take, length, refl, sym, ap, ◌∙◌, arith}
use Rattle.std.proofs.lemmas.List.{take-append-drop}
use Rattle.std.proofs.lemmas.Slice.Eq.{bytes_eq-Decides}
use Rattle.std.specs.Prelude.{codes, Decides, bytes_eq}
use Rattle.std.specs.Str.Pattern.{RFindsText}
use Rattle.smt_values.specs.TypeOfCedar.{behind_colons, behind_last, first_of, last_name, last_or_whole}

abbrev pub colons : List ℕ
colons = codes "::"

-- the colons do not stand at i
abbrev pub Lacks : List ℕ → ℕ → Type 0
Lacks s i = (rest : List ℕ) → drop i s ≡ colons ++ rest → ⊥

untested : {A : Type 0} {X : Type 0} (b : Bool) (a : A) → Decides b X → (X → ⊥) → cond b (Some a) None ≡ None
untested true a d h = absurd (h (d.0 refl))
untested false a d h = refl

pub lacked : (s : List ℕ) → Lacks s zero → behind_colons s ≡ None
lacked s h = untested (bytes_eq colons (take 2 s)) (drop 2 s) (bytes_eq-Decides colons (take 2 s)) (λ e. h (drop 2 s) (sym (take-append-drop 2 s) ∙ ap (λ l. l ++ drop 2 s) (sym e)))

pub stands : (s rest : List ℕ) → s ≡ colons ++ rest → behind_colons s ≡ Some rest
stands s rest e = ap behind_colons e

pub nothing_last : (s : List ℕ) → ((i : ℕ) → i ≤ length s → Lacks s i) → behind_last s ≡ None
nothing_last [] h = refl
nothing_last (x ∷ s) h = ap (λ o. first_of o (behind_colons (x ∷ s))) (nothing_last s (λ i l. h (suc i) (omega (arith, l)))) ∙ lacked (x ∷ s) (h zero (omega arith))

pub last_behind : (s : List ℕ) (i : ℕ) (rest : List ℕ) → ((k : ℕ) → i < k → k ≤ length s → Lacks s k) → drop i s ≡ colons ++ rest → behind_last s ≡ Some rest
last_behind [] zero rest h e = absurd (cc)
last_behind [] (suc i) rest h e = absurd (cc)
last_behind (x ∷ s) zero rest h e =
    ap (λ o. first_of o (behind_colons (x ∷ s))) (nothing_last s (λ k l. h (suc k) (omega arith) (omega (arith, l)))) ∙ stands (x ∷ s) rest e
last_behind (x ∷ s) (suc i) rest h e = ap (λ o. first_of o (behind_colons (x ∷ s))) (last_behind s i rest (λ k l m. h (suc k) (omega (arith, l)) (omega (arith, m))) e)

pub some_last : (name part : List ℕ) (i j : ℕ) → RFindsText colons name (Some (i, j)) → part ≡ drop j name → part ≡ last_name name
some_last name part i j f e = e ∙ sym (ap (last_or_whole name) (last_behind name i (drop j name) (λ k l m. f.0 k l m) f.1.split))

pub none_last : (name : List ℕ) → RFindsText colons name None → name ≡ last_name name
none_last name f = sym (ap (last_or_whole name) (nothing_last name f))
