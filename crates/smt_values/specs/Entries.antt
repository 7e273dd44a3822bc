-- Where an entry stands among those of a schema.
use Rattle.std.specs.Prelude.{ℕ, Bool, true, false, List}
use Rattle.std.specs.declared.cmp.Ordering.{Ordering}
use Rattle.std.specs.declared.cmp.Ordering.TheVariants.{Less, Equal, Greater}
use Rattle.law_terms.specs.ValueOrder.{text_cmp}

-- whether the first of two keys that compare so is at most the second
abbrev pub is_at_most : Ordering → Bool
is_at_most Less = true
is_at_most Equal = true
is_at_most Greater = false

-- whether a key is at most that of an entry, by their bytes
abbrev pub is_not_above : {X : Type 0} → List ℕ → List ℕ × X → Bool
is_not_above key entry = is_at_most (text_cmp key entry.0)
