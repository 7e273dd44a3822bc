-- Texts that are kept at places of a list.
use Rattle.std.specs.Prelude.{ℕ, suc, ◌≡◌, ◌==◌, if◌then◌else◌, Bool, List, [], ◌∷◌, Option, Some, None, drop, length, option_and_then}
use Rattle.std.specs.Prelude.{option_map, slice_get}
use Rattle.std.specs.List.{list_any}
use Rattle.std.specs.Rc.{rc_str_bytes}
use Rattle.std.specs.declared.alloc.Global.{Global}
use Rattle.std.specs.declared.rc.RcStr.{RcStr}

-- the text at a place of a list of texts, None where none is kept
abbrev pub kept_at : List (Option (RcStr Global)) → ℕ → Option (List ℕ)
kept_at texts place = option_map rc_str_bytes (option_and_then (λ text. text) (slice_get texts place))

-- how many texts are kept
abbrev pub kept_count : List (Option (RcStr Global)) → ℕ
kept_count [] = 0
kept_count (None ∷ texts) = kept_count texts
kept_count (Some text ∷ texts) = suc (kept_count texts)

-- A text is kept at a place that had none, and nothing else changed.
pub record IsKept (old new : List (Option (RcStr Global))) (place : ℕ) (text : List ℕ) : Type 0 where
  pub here : kept_at new place ≡ Some text
  pub others : (other : ℕ) → ¬ (other ≡ place) → kept_at new other ≡ kept_at old other
  pub as_many : length new ≡ length old
  pub one_more : kept_count new ≡ suc (kept_count old)

-- whether a place is among these
abbrev pub is_among : ℕ → List ℕ → Bool
is_among place = list_any (λ other. place == other)

-- The texts that were kept then: the order has the places in the order in which they got texts, and then it had this length. What is
-- kept now was kept then, without what was kept since.
abbrev pub kept_then : (now : ℕ → Option (List ℕ)) → (order : List ℕ) → (kept : ℕ) → ℕ → Option (List ℕ)
kept_then now order kept place = if is_among place (drop kept order) then None else now place
