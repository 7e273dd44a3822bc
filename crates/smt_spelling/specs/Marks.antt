-- The marks of pushes that are open.
use Rattle.std.specs.Prelude.{ℕ, ◌≤◌, ◌+◌, ⊤, List, [], ◌∷◌}
use mathlib.Core.HLevel.{Unit-prop, ×₃_prop}
use native.Mathlib.Bridge.{le_prop}
use Rattle.smt_spelling.specs.declared.node_names.Mark.{Mark}

-- Marks of open pushes, the last first, where now as many nodes have texts: at each no more had one than later, and there were no more
-- names than texts.
abbrev pub AreMarks : (kept : ℕ) → List Mark → Type 0
AreMarks kept [] = ⊤
AreMarks kept (mark ∷ marks) = (mark.kept ≤ kept) × (mark.terms + mark.types + mark.functions ≤ mark.kept) × AreMarks mark.kept marks

-- That they are is one fact, as a field of a struct has to be.
pub AreMarks-prop : (kept : ℕ) (marks : List Mark) → IsProp (AreMarks kept marks)
AreMarks-prop kept [] = Unit-prop
AreMarks-prop kept (mark ∷ marks) = ×₃_prop le_prop le_prop (AreMarks-prop mark.kept marks)
