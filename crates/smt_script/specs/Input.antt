-- What the reading of a whole input does to its source.
use Rattle.std.specs.Prelude.{ℕ, ◌≤◌, ◌≡◌, List, [], IfSome, Option}
use Rattle.std.specs.Io.KnownBytes.{prepend_known}
use Rattle.std.specs.Option.{option_map}

-- Where a source told what it had left, these bytes are all of it, and it tells now that nothing is
-- left.
pub record ReadsAll (remaining left' : Option (List ℕ)) (bytes : List ℕ) : Type 0 where
  pub whole : IfSome remaining (λ all. all ≡ bytes)
  pub nothing_left : left' ≡ option_map (λ _. []) remaining

-- Reads were made one after another, whatever came of them.
pub record ReadsOn {S : Type 0} (remaining : S → Option (List ℕ)) (faults : S → ℕ) (never_fails : S → Type 0) (place : S → List ℕ)
    (old new : S) : Type 0 where
  -- these bytes of what was left were given
  pub given : List ℕ
  pub from_left : remaining old ≡ prepend_known given (remaining new)
  -- the count of faults never falls
  pub later : faults old ≤ faults new
  -- a source that certainly fails at no read fails at no later one
  pub certain : never_fails old → never_fails new
  -- the same references lead to it
  pub same_place : place new ≡ place old
