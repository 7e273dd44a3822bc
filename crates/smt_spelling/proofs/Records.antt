-- The texts of the selectors of a record type, and of a record.
use Rattle.std.proofs.Common.{◌≡◌, ℕ, zero, suc, ◌+◌, ◌<◌, ◌≤◌, ◌^◌, List, [], ◌∷◌, ◌++◌, length, map, drop, get_or, add-one, refl, sym, ap, ◌∙◌, append_assoc, arith}
use Rattle.std.specs.Prelude.{codes, decimal}
use Rattle.std.specs.List.{join_by}
use Rattle.std.proofs.lemmas.List.Folds.{flat_map-map}
use Rattle.std.specs.Rc.{rc_str_bytes}
use Rattle.std.specs.declared.alloc.Global.{Global}
use Rattle.std.specs.declared.rc.RcStr.{RcStr}
use Rattle.law_texts.specs.LineTexts.{sorted_name}
use Rattle.law_texts.specs.SharedTexts.{texts}
use Rattle.law_texts.specs.Reading.{Expression}
use Rattle.law_lines.specs.EntryNames.{attribute_name}
use Rattle.law_lines.specs.Line.{spelled_constructor, spelled_selector, Fielded}
use Rattle.law_lines.specs.LineForms.{attribute_selectors, record_body}
use Rattle.law_lines.specs.Spelling.{spelled}
use Rattle.law_scripts.proofs.Numerals.{numerals_are_printed}
use Rattle.smt_spelling.specs.Spelled.{AreSpelled}
use Rattle.smt_spelling.proofs.Bracketed.{bracketed}

-- ---- selectors

-- the name of an attribute's selector, as it is printed
pub attribute_printed : (name : List ℕ) (place : ℕ) → place < 10 ^ 64 → name ++ (codes "_a" ++ decimal place) ≡ attribute_name name place
attribute_printed name place small = ap (λ d. name ++ (codes "_a" ++ d)) (sym (numerals_are_printed place small))

-- the selector with its sort between brackets
pub selector_bracketed : (name : List ℕ) (place : ℕ) (sort : List ℕ) → place < 10 ^ 64
    → codes "(" ++ (name ++ (codes "_a" ++ (decimal place ++ (codes " " ++ (sort ++ codes ")"))))) ≡ sorted_name (attribute_name name place, sort)
selector_bracketed name place sort small =
    let rest : List ℕ = codes " " ++ (sort ++ codes ")") in
    ap (λ l. codes "(" ++ l) (sym (append_assoc name (codes "_a" ++ decimal place) rest) ∙ ap (λ l. l ++ rest) (attribute_printed name place small))

-- the texts of selectors of these sorts, numbered from a place on
abbrev pub selectors : (name : List ℕ) → ℕ → List Expression → List (List ℕ)
selectors name place es = map sorted_name (map spelled_selector (attribute_selectors name place es))

left_from : (name : List ℕ) (n i : ℕ) (es : List Expression) (ts : List (RcStr Global)) (d : RcStr Global) → AreSpelled es ts → i < length ts
    → selectors name n (drop i es) ≡ sorted_name (attribute_name name n, rc_str_bytes (get_or ts i d)) ∷ selectors name (suc n) (drop (suc i) es)
left_from name n i es [] d shown h = absurd (omega (arith, h))
left_from name n i [] (t ∷ ts) d shown h = absurd (cc)
left_from name n zero (e ∷ es) (t ∷ ts) d shown h =
    let first : spelled e ≡ rc_str_bytes t = cc in
    ap (λ sort. sorted_name (attribute_name name n, sort) ∷ selectors name (suc n) es) first
left_from name n (suc i) (e ∷ es) (t ∷ ts) d shown h =
    let others : map rc_str_bytes ts ≡ map spelled es = cc in
    left_from name n i es ts d others (omega (arith, h))

-- the selector at a place, of the sort that stands there, and those behind it
pub selectors_from : (name : List ℕ) (n i : ℕ) (es : List Expression) (ts : List (RcStr Global)) (d : RcStr Global) (sort : List ℕ) → AreSpelled es ts → n ≡ i → i < length ts → sort ≡ rc_str_bytes d → d ≡ get_or ts i d
    → selectors name n (drop n es) ≡ sorted_name (attribute_name name n, sort) ∷ selectors name (n + 1) (drop (n + 1) es)
selectors_from name n i es ts d sort shown same h spells at =
    let there : rc_str_bytes (get_or ts n d) ≡ sort = ap (λ k. rc_str_bytes (get_or ts k d)) same ∙ ap (λ (t : RcStr Global). rc_str_bytes t) (sym at) ∙ sym spells in
    left_from name n n es ts d shown (omega (arith, same, h))
    ∙ ap (λ b. sorted_name (attribute_name name n, b) ∷ selectors name (suc n) (drop (suc n) es)) there
    ∙ ap (λ k. sorted_name (attribute_name name n, sort) ∷ selectors name k (drop k es)) (sym (add-one n))

nothing_from : (name : List ℕ) (n i : ℕ) (es : List Expression) (ts : List (RcStr Global)) → AreSpelled es ts → length ts ≤ i → selectors name n (drop i es) ≡ []
nothing_from name n zero [] ts shown h = refl
nothing_from name n (suc i) [] ts shown h = refl
nothing_from name n i (e ∷ es) [] shown h = absurd (cc)
nothing_from name n zero (e ∷ es) (t ∷ ts) shown h = absurd (omega (arith, h))
nothing_from name n (suc i) (e ∷ es) (t ∷ ts) shown h =
    let others : map rc_str_bytes ts ≡ map spelled es = cc in
    nothing_from name n i es ts others (omega (arith, h))

-- none behind the last place
pub none_from : (name : List ℕ) (i : ℕ) (es : List Expression) (ts : List (RcStr Global)) → AreSpelled es ts → length ts ≤ i → selectors name i (drop i es) ≡ []
none_from name i es ts shown h = nothing_from name i i es ts shown h

-- ---- the constructor of a record type

-- Texts that are made first, and then joined.
texts_joined : {X : Type 0} (f : X → List ℕ) (gap : List ℕ) (xs : List X) → join_by (λ y. y) gap (map f xs) ≡ join_by f gap xs
texts_joined f gap [] = refl
texts_joined f gap (x ∷ xs) = ap (λ l. f x ++ l) (flat_map-map (λ y. gap ++ y) f xs)

-- the selectors between brackets, behind the name
pub constructor_bracketed : (name : List ℕ) (es : List Expression) (ts : List (List ℕ)) → ts ≡ selectors name 0 es
    → codes "(" ++ (name ++ (codes " " ++ (join_by (λ x. x) (codes " ") ts ++ codes ")"))) ≡ spelled_constructor (Fielded name (attribute_selectors name 0 es))
constructor_bracketed name es ts same =
    ap (λ l. codes "(" ++ (name ++ (codes " " ++ (l ++ codes ")")))) (ap (join_by (λ x. x) (codes " ")) same ∙ texts_joined sorted_name (codes " ") (map spelled_selector (attribute_selectors name 0 es)))

-- ---- records

-- the constructor at its fields, one at least
pub record_spelled : (sort : List ℕ) (e : Expression) (es : List Expression) (ts : List (RcStr Global)) → sort ≡ spelled e → AreSpelled es ts → 1 ≤ length ts
    → codes "(" ++ (sort ++ (codes " " ++ (join_by (λ x. x) (codes " ") (texts ts) ++ codes ")"))) ≡ spelled (record_body e es)
record_spelled sort e (x ∷ es) ts same shown filled = bracketed sort e (texts ts) (x ∷ es) same shown
record_spelled sort e [] [] same shown filled = absurd (omega (arith, filled))
record_spelled sort e [] (t ∷ ts) same shown filled = absurd (cc)
