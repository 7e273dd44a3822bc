-- What is written of a text between quotes, character by character.
use Rattle.std.proofs.Common.{◌≡◌, ℕ, ◌+◌, ◌<◌, ◌≤◌, List, [], ◌∷◌, ◌++◌, length, get_or, drop, sym, ap, ◌∙◌, append-nil, append_assoc, refl}
use Rattle.std.specs.Prelude.{codes}
use Rattle.std.proofs.lemmas.List.{at_drop_more, drop_all}

-- one turn of the loop over the characters, where they are written one behind the other
pub next_character : (written_of : List ℕ → List ℕ) (one : ℕ → List ℕ) → ((c : ℕ) (cs : List ℕ) → written_of (c ∷ cs) ≡ one c ++ written_of cs)
    → (old new whole cs : List ℕ) (n c : ℕ) → n < length cs → c ≡ get_or cs n c → new ≡ old ++ one c
    → old ++ written_of (drop n cs) ≡ whole → new ++ written_of (drop (n + 1) cs) ≡ whole
next_character written_of one more old new whole cs n c lt at added before =
    let e : drop n cs ≡ c ∷ drop (n + 1) cs = at_drop_more (λ x. x) cs n c lt ∙ ap (λ d. d ∷ drop (n + 1) cs) (sym at) in
    let f : old ++ (one c ++ written_of (drop (n + 1) cs)) ≡ whole = ap (λ x. old ++ x) (sym (ap written_of e ∙ more c (drop (n + 1) cs))) ∙ before in
    rw added (append_assoc old (one c) (written_of (drop (n + 1) cs)) ∙ f)

-- all characters are written, and then the quote
pub closed : (written_of : List ℕ → List ℕ) → written_of [] ≡ []
    → (written last cs : List ℕ) (n : ℕ) → length cs ≤ n → last ≡ written ++ codes "\""
    → written ++ written_of (drop n cs) ≡ codes "\"" ++ written_of cs → last ≡ codes "\"" ++ (written_of cs ++ codes "\"")
closed written_of none written last cs n past added before =
    let e : drop n cs ≡ [] = drop_all n cs past in
    let f : written ++ [] ≡ codes "\"" ++ written_of cs = ap (λ x. written ++ x) (sym (ap written_of e ∙ none)) ∙ before in
    rw (added, sym (append-nil written) ∙ f) refl
