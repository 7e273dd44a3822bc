-- The texts of the constructors of an entity type.
use Rattle.std.proofs.Common.{◌≡◌, ℕ, zero, suc, ◌+◌, ◌<◌, ◌≤◌, ◌^◌, List, [], ◌∷◌, ◌++◌, length, drop, add-one, refl, sym, ap, ◌∙◌, append_assoc, append-nil, arith}
use Rattle.std.specs.Prelude.{codes, decimal}
use Rattle.law_lines.specs.EntryNames.{id_name, member_name}
use Rattle.law_lines.specs.Line.{spelled_constructor, Bare, Fielded}
use Rattle.law_lines.specs.LineForms.{member_constructors}
use Rattle.law_scripts.specs.Sorts.{string_sort}
use Rattle.law_scripts.proofs.Numerals.{numerals_are_printed}

-- the name of a member's constructor, as it is printed
pub member_printed : (name : List ℕ) (place : ℕ) → place < 10 ^ 64 → name ++ (codes "_m" ++ decimal place) ≡ member_name name place
member_printed name place small = ap (λ d. name ++ (codes "_m" ++ d)) (sym (numerals_are_printed place small))

-- the constructor alone between brackets
pub member_bracketed : (name : List ℕ) (place : ℕ) → place < 10 ^ 64 → codes "(" ++ (name ++ (codes "_m" ++ (decimal place ++ codes ")"))) ≡ spelled_constructor (Bare (member_name name place))
member_bracketed name place small =
    ap (λ l. codes "(" ++ l) (sym (append_assoc name (codes "_m" ++ decimal place) (codes ")")) ∙ ap (λ l. l ++ codes ")") (member_printed name place small))

-- the constructor of entities, with the selector of the id
pub entity_bracketed : (name : List ℕ) → codes "(" ++ (name ++ (codes " (" ++ (name ++ codes "_eid String))"))) ≡ spelled_constructor (Fielded name ((id_name name, string_sort) ∷ []))
entity_bracketed name =
    let inner : List ℕ = (name ++ codes "_eid") ++ codes " String)" in
    let e : name ++ codes "_eid String))" ≡ inner ++ codes ")" = sym (append_assoc (name ++ codes "_eid") (codes " String)") (codes ")") ∙ append_assoc name (codes "_eid") (codes " String))")) in
    ap (λ l. codes "(" ++ (name ++ (codes " (" ++ l))) e ∙ ap (λ l. codes "(" ++ (name ++ (codes " (" ++ (l ++ codes ")")))) (sym (append-nil inner))

-- the constructors from a place on
left_from : (name : List ℕ) (n i : ℕ) (ms : List (List ℕ)) → i < length ms → member_constructors name n (drop i ms) ≡ Bare (member_name name n) ∷ member_constructors name (suc n) (drop (suc i) ms)
left_from name n i [] h = absurd (omega (arith, h))
left_from name n zero (m ∷ ms) h = refl
left_from name n (suc i) (m ∷ ms) h = left_from name n i ms (omega (arith, h))

pub constructors_from : (name : List ℕ) (i : ℕ) (ms : List (List ℕ)) → i < length ms → member_constructors name i (drop i ms) ≡ Bare (member_name name i) ∷ member_constructors name (i + 1) (drop (i + 1) ms)
constructors_from name i ms h = left_from name i i ms h ∙ ap (λ k. Bare (member_name name i) ∷ member_constructors name k (drop k ms)) (sym (add-one i))

nothing_from : (name : List ℕ) (n i : ℕ) (ms : List (List ℕ)) → length ms ≤ i → member_constructors name n (drop i ms) ≡ []
nothing_from name n zero [] h = refl
nothing_from name n (suc i) [] h = refl
nothing_from name n zero (m ∷ ms) h = absurd (omega (arith, h))
nothing_from name n (suc i) (m ∷ ms) h = nothing_from name n i ms (omega (arith, h))

pub none_from : (name : List ℕ) (i : ℕ) (ms : List (List ℕ)) → length ms ≤ i → member_constructors name i (drop i ms) ≡ []
none_from name i ms h = nothing_from name i i ms h
