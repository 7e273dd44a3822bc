-- White space and digits at the front of a text, and what lengths tell.
use Rattle.std.proofs.Common.{inl, inr, ◌≡◌, ℕ, ◌<◌, ◌≤◌, true, false, not, eqb, List, [], ◌∷◌, refl, sym, ap, ◌∙◌, drop, length, arith}
use Rattle.std.specs.List.{prefix_len, take_while}
use Rattle.std.proofs.Math.Numerals.{one-add}
use Rattle.std.proofs.lemmas.Bool.{cases_Bool, eqb-true, false≢true, true≢false}
use Rattle.std.proofs.lemmas.List.Folds.{length-prefix_len}
use Rattle.law_texts.specs.Front.{IsRun}
use Rattle.law_texts.proofs.Runs.{head_is}
use Rattle.law_texts.specs.Lexicon.{is_digit, is_space}
use Rattle.law_texts.specs.Reads.{begins_number, skip_space}

pub skip_space_is : (bytes : List ℕ) → skip_space bytes ≡ drop (length (take_while is_space bytes)) bytes
skip_space_is bytes = by_prefix bytes ∙ ap (λ n. drop n bytes) (sym (length-prefix_len is_space bytes))
  where
    by_prefix : (bs : List ℕ) → skip_space bs ≡ drop (prefix_len is_space bs) bs
    by_prefix [] = refl
    by_prefix (b ∷ bs) = elim (cases_Bool (is_space b)) [
      | inl h ↦ rw (h, one-add (prefix_len is_space bs)) (by_prefix bs)
      | inr h ↦ rw h refl
    ]

pub length-skip_space : (bytes : List ℕ) → length (skip_space bytes) ≤ length bytes
length-skip_space [] = omega arith
length-skip_space (b ∷ bs) = elim (cases_Bool (is_space b)) [
  | inl s ↦ rw s (let e = length-skip_space bs in omega arith)
  | inr s ↦ rw s (omega arith)
]

-- a numeral has a digit
pub digits_some : (src digits rest : List ℕ) → IsRun is_digit src digits rest → begins_number src ≡ true → 0 < length digits
digits_some [] digits rest r h = absurd (false≢true h)
digits_some (b ∷ bs) [] [] r h = absurd (let e = r.whole in cc)
digits_some (b ∷ bs) [] (c ∷ cs) r h = absurd (false≢true (sym (ap not (ap is_digit (sym (head_is b c bs cs r.whole).0) ∙ h)) ∙ r.longest))
digits_some (b ∷ bs) (d ∷ ds) rest r h = omega arith

-- ---- what `is_empty` tells

pub empty_from : (bytes : List ℕ) → eqb (length bytes) 0 ≡ true → bytes ≡ []
empty_from [] h = refl
empty_from (b ∷ bs) h = absurd (let e = eqb-true (length (b ∷ bs)) 0 h in omega arith)

pub some_from : (bytes : List ℕ) → eqb (length bytes) 0 ≡ false → 0 < length bytes
some_from [] h = absurd (true≢false h)
some_from (b ∷ bs) h = omega arith

pub empty_length : (bytes : List ℕ) → length bytes ≡ 0 → bytes ≡ []
empty_length [] h = refl
empty_length (b ∷ bs) h = absurd (omega arith)
