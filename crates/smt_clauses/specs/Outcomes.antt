-- What a proof shows.
use Rattle.std.specs.Prelude.{◌≡◌, ℕ, ⊤, Bool, List, Some, false, slice_get}
use Rattle.smt_clauses.specs.declared.outcome.Outcome.{Outcome}
use Rattle.smt_clauses.specs.declared.outcome.Outcome.TheVariants.{Refuted, DoesNotFollow, Unfinished}

-- the formula is said to have no solution
abbrev pub IsRefuted : Outcome → Type 0
IsRefuted Refuted = ⊤
IsRefuted (DoesNotFollow place) = ⊥
IsRefuted Unfinished = ⊥

-- the step at a place adds a clause
abbrev pub AddsAt : List (Bool × List ℕ) → ℕ → Type 0
AddsAt steps place = (c : List ℕ) × (slice_get steps place ≡ Some (false, c))

-- a step that is said not to follow is one of these that adds a clause
abbrev pub TellsAddition : List (Bool × List ℕ) → Outcome → Type 0
TellsAddition steps Refuted = ⊤
TellsAddition steps (DoesNotFollow place) = AddsAt steps place
TellsAddition steps Unfinished = ⊤
