-- Texts that are not the same.
use Rattle.std.proofs.Common.{◌≡◌, ℕ, false, List, bytes_eq, inl, inr}
use Rattle.std.proofs.lemmas.Bool.{cases_Bool}
use Rattle.std.proofs.lemmas.Slice.Eq.{bytes_eq-Decides}

-- what is another text is not equal to it
pub other_text : (n m : List ℕ) → (n ≡ m → ⊥) → bytes_eq n m ≡ false
other_text n m h = elim (cases_Bool (bytes_eq n m)) [
  | inl same ↦ absurd (h ((bytes_eq-Decides n m).0 same))
  | inr other ↦ other
]
