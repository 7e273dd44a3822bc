-- What stands at the front of a text.
use Rattle.std.specs.Prelude.{◌≡◌, ℕ, Bool, true, false, not, IsTrue, reverse, ◌==◌, if◌then◌else◌, Option, Some, None, List, [], ◌∷◌, ◌++◌}
use Rattle.std.specs.List.{list_all}
use Rattle.law_texts.specs.Digits.{minus_if}

-- no byte that passes the test stands first
abbrev pub begins_without : (ℕ → Bool) → List ℕ → Bool
begins_without test [] = true
begins_without test (b ∷ bs) = not (test b)

-- The text is a run of bytes that pass the test, as long as it can be, and the rest.
pub record IsRun (test : ℕ → Bool) (text run rest : List ℕ) : Type 0 where
  pub whole : text ≡ run ++ rest
  pub each : IsTrue (list_all test run)
  pub longest : IsTrue (begins_without test rest)

-- The text is a minus, where it begins with one, and the rest.
pub record IsSigned (text : List ℕ) (negative : Bool) (rest : List ℕ) : Type 0 where
  pub whole : text ≡ minus_if negative ++ rest
  pub only : negative ≡ false → (other : List ℕ) → text ≡ 45 ∷ other → ⊥

-- The text is what stands before, and a run of bytes that pass the test, as long as it can be.
pub record IsRunAtEnd (test : ℕ → Bool) (text front run : List ℕ) : Type 0 where
  pub whole : text ≡ front ++ run
  pub each : IsTrue (list_all test run)
  pub longest : IsTrue (begins_without test (reverse front))

-- what a function returned, seen by the view, is what reading gives
abbrev pub ReadsTo : {X Y : Type 0} → (X → Y) → Option X → Option Y → Type 0
ReadsTo view (Some x) read = read ≡ Some (view x)
ReadsTo view None read = read ≡ None

-- what follows this byte
unfoldable pub byte_at : ℕ → List ℕ → Option (List ℕ)
byte_at c [] = None
byte_at c (b ∷ rest) = if b == c then Some rest else None
