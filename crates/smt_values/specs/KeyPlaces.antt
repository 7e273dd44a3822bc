-- Where a key stands among pairs of a key and a value that ascend by their keys.
use Rattle.std.specs.Prelude.{◌≡◌, ℕ, ◌<◌, ◌≤◌, List, length, Result, Ok, Err}
use Rattle.std.specs.BTreeMap.{insert_entry}
use Rattle.std.specs.List.{insert}
use Rattle.std.specs.Prelude.{get_or, set}
use Rattle.std.specs.declared.cmp.Ordering.{Ordering}

-- Where a key stands among these pairs. `Ok p`: to put a value by the key in order is to set the value of the pair at p. `Err
-- p`: it is to insert a pair of the key and the value at p.
abbrev pub IsPlace : {K V : Type 0} → (K → K → Ordering) → K → List (K × V) → Result ℕ ℕ → Type 0
IsPlace {K} {V} cmp k es (Ok p) = (p < length es) × ((v : V) (x : K × V) → x ≡ get_or es p x → set es p (x.0, v) ≡ insert_entry cmp es k v)
IsPlace {K} {V} cmp k es (Err p) = (p ≤ length es) × ((v : V) → insert es p (k, v) ≡ insert_entry cmp es k v)
