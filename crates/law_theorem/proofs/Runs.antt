-- What holds of each entry that a script declares.
use Rattle.std.proofs.Common.{◌≡◌, ℕ, List, ◌∷◌, Some}
use Rattle.std.specs.List.{AllByRecursion}
use Rattle.law_scripts.specs.Script.{Command, Entry, State, names_of, step, run}
use Rattle.law_scripts.proofs.CommandInduction.{Change, AddsName, changed, IsAllowed, Adds, stepped, run_keeps}

-- a property of entries
module _ (P : List ℕ → Entry → Type 0) where
  abbrev pub Each : State → Type 0
  Each s = AllByRecursion (λ p. P p.0 p.1) (names_of s)

  abbrev pub AddsSuch : State → Change → Type 0
  AddsSuch s (AddsName n x) = P n x
  AddsSuch s x = Unit {0}

  -- a command that takes nothing away and declares what has the property
  abbrev pub Declares : Command → Type 0
  Declares c = (s : State) → Adds AddsSuch s c

  kept : (x : Change) (s : State) → AddsSuch s x → IsAllowed s x → Each s → Each (changed x s)
  kept (AddsName n x) s a allowed h = (a, h)
  kept x s a allowed h = h

  -- What a script of such commands declares has the property.
  pub run_each : (cs : List Command) → AllByRecursion Declares cs → (s t : State) → Each s → run cs s ≡ Some t → Each t
  run_each cs k s t h e = (run_keeps (λ ds u. AllByRecursion Declares ds × Each u) one cs s t e (k, h)).1
    where
      one : (c : Command) (ds : List Command) (u v : State) → step c u ≡ Some v → AllByRecursion Declares (c ∷ ds) × Each u → AllByRecursion Declares ds × Each v
      one c ds u v f p = (p.0.1, stepped AddsSuch Each kept c u v (p.0.0 u) f p.1)
