-- Texts one behind the other, and with a separator between each two, taken one at a time.
use Rattle.std.proofs.Common.{ℕ, suc, ◌≡◌, ◌+◌, ◌<◌, List, [], ◌∷◌, ◌++◌, ◌∙◌, ap, sym, add-one, append-nil, append_assoc, map, drop, length, get_or, refl}
use Rattle.std.specs.Rc.{rc_str_bytes}
use Rattle.std.specs.declared.rc.RcStr.{RcStr}
use Rattle.std.specs.declared.alloc.Global.{Global}
use Rattle.std.specs.List.{join_by, flat_map}
use Rattle.std.proofs.Math.Seq.{drop-cons}
use Rattle.law_texts.specs.SharedTexts.{texts, joined}

-- ---- texts one behind the other

-- the first, and the others
pub joined-cons : {X : Type 0} (bytes : X → List ℕ) (x : X) (xs : List X) → joined bytes (x ∷ xs) ≡ bytes x ++ joined bytes xs
joined-cons bytes x [] = sym (append-nil (bytes x))
joined-cons bytes x (y ∷ ys) = refl

-- one more of them
pub joined-drop : {X : Type 0} (bytes : X → List ℕ) (xs : List X) (i : ℕ) (d : X) (piece : List ℕ) → i < length xs → piece ≡ bytes (get_or xs i d) → joined bytes (drop i xs) ≡ piece ++ joined bytes (drop (i + 1) xs)
joined-drop bytes xs i d piece h e = rw (e, add-one, drop-cons xs i d h) (joined-cons bytes (get_or xs i d) (drop (suc i) xs))

-- ---- texts with a separator between each two

-- What a loop has still to put: each behind the separator, but the first behind this gap.
abbrev pub joined_from : {X : Type 0} → (X → List ℕ) → (gap separator : List ℕ) → List X → List ℕ
joined_from bytes gap separator [] = []
joined_from bytes gap separator (x ∷ xs) = gap ++ join_by bytes separator (x ∷ xs)

-- With no gap that is all.
pub joined_from-start : {X : Type 0} (bytes : X → List ℕ) (separator : List ℕ) (xs : List X) → joined_from bytes [] separator xs ≡ join_by bytes separator xs
joined_from-start bytes separator [] = refl
joined_from-start bytes separator (x ∷ xs) = refl

joined_from-others : {X : Type 0} (bytes : X → List ℕ) (separator : List ℕ) (xs : List X) → joined_from bytes separator separator xs ≡ flat_map (λ y. separator ++ bytes y) xs
joined_from-others bytes separator [] = refl
joined_from-others bytes separator (x ∷ xs) = sym (append_assoc separator (bytes x) (flat_map (λ y. separator ++ bytes y) xs))

joined_from-cons : {X : Type 0} (bytes : X → List ℕ) (gap separator : List ℕ) (x : X) (xs : List X) → joined_from bytes gap separator (x ∷ xs) ≡ (gap ++ bytes x) ++ joined_from bytes separator separator xs
joined_from-cons bytes gap separator x xs = rw (joined_from-others bytes separator xs, append_assoc) refl

-- one more of them, seen by f
pub joined_from-drop : {X Y : Type 0} (f : X → Y) (bytes : Y → List ℕ) (gap separator : List ℕ) (xs : List X) (i : ℕ) (d : X) (piece : List ℕ) → i < length xs → piece ≡ gap ++ bytes (f (get_or xs i d))
    → joined_from bytes gap separator (map f (drop i xs)) ≡ piece ++ joined_from bytes separator separator (map f (drop (i + 1) xs))
joined_from-drop f bytes gap separator xs i d piece h e =
    rw (e, add-one, drop-cons xs i d h) (joined_from-cons bytes gap separator (f (get_or xs i d)) (map f (drop (suc i) xs)))

-- one more text, behind its gap
pub texts-drop : (gap separator : List ℕ) (ts : List (RcStr Global)) (i : ℕ) (d : RcStr Global) (bytes : List ℕ) → i < length ts → bytes ≡ rc_str_bytes d → d ≡ get_or ts i d
    → joined_from (λ t. t) gap separator (texts (drop i ts)) ≡ (gap ++ bytes) ++ joined_from (λ t. t) separator separator (texts (drop (i + 1) ts))
texts-drop gap separator ts i d bytes h e at =
    joined_from-drop rc_str_bytes (λ t. t) gap separator ts i d (gap ++ bytes) h (ap (λ t. gap ++ t) (e ∙ ap (λ (t : RcStr Global). rc_str_bytes t) at))
