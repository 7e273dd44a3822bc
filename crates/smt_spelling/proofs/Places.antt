-- The place of a text in a list.
use Rattle.std.proofs.Common.{◌≡◌, ℕ, suc, ◌+◌, Bool, true, false, ◌||◌, List, ◌∷◌, refl, sym, ap, ◌∙◌, arith}
use Rattle.std.specs.Prelude.{bytes_eq, if◌then◌else◌}
use Rattle.std.specs.List.{list_any}
use Rattle.law_lines.specs.EntryNames.{place_of}

-- The places of a text in a list, and among what is left of the list behind so many that differ.
pub record Left (text : List ℕ) (i : ℕ) (all left : List (List ℕ)) : Type 0 where
  pub place : place_of text all ≡ i + place_of text left
  pub there : list_any (bytes_eq text) all ≡ list_any (bytes_eq text) left

pub place_next : (text : List ℕ) (i : ℕ) (all left : List (List ℕ)) (x : List ℕ) (others : List (List ℕ)) → left ≡ x ∷ others → bytes_eq text x ≡ false → Left text i all left → Left text (i + 1) all others
place_next text i all left x others is apart l =
    let p : place_of text left ≡ suc (place_of text others) = ap (place_of text) is ∙ ap (λ b. if b then 0 else suc (place_of text others)) apart in
    let t : list_any (bytes_eq text) left ≡ list_any (bytes_eq text) others = ap (list_any (bytes_eq text)) is ∙ rest (bytes_eq text x) apart in
    let e = l.place in
    record { place = omega (arith, e, p); there = l.there ∙ t }
  where
    rest : (b : Bool) → b ≡ false → (b || list_any (bytes_eq text) others) ≡ list_any (bytes_eq text) others
    rest false h = refl
    rest true h = cc

pub place_here : (text : List ℕ) (i : ℕ) (all left : List (List ℕ)) (x : List ℕ) (others : List (List ℕ)) → left ≡ x ∷ others → bytes_eq text x ≡ true → Left text i all left → (i ≡ place_of text all) × (true ≡ list_any (bytes_eq text) all)
place_here text i all left x others is same l =
    let p : place_of text left ≡ 0 = ap (place_of text) is ∙ ap (λ b. if b then 0 else suc (place_of text others)) same in
    let t : list_any (bytes_eq text) left ≡ true = ap (list_any (bytes_eq text)) is ∙ here (bytes_eq text x) same in
    let e = l.place in
    (omega (arith, e, p), sym (l.there ∙ t))
  where
    here : (b : Bool) → b ≡ true → (b || list_any (bytes_eq text) others) ≡ true
    here true h = refl
    here false h = cc
