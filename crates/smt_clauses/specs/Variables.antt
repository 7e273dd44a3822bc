-- The variables of clauses.
use Rattle.std.specs.Prelude.{◌<◌, ◌+◌, ◌/◌, ℕ, List, [], ◌∷◌, max}
use Rattle.std.specs.List.{AllByRecursion}

-- one more than the greatest variable of a clause, or 0 where it is empty
abbrev pub count_in : List ℕ → ℕ
count_in [] = 0
count_in (l ∷ c) = max (l / 2 + 1) (count_in c)

-- one more than the greatest variable of clauses, or 0 where they have none
abbrev pub count_of : List (List ℕ) → ℕ
count_of [] = 0
count_of (c ∷ cs) = max (count_in c) (count_of cs)

-- each literal of each clause is of a variable below this one
abbrev pub AreBelow : ℕ → List (List ℕ) → Type 0
AreBelow n cs = AllByRecursion (λ c. AllByRecursion (λ l. l / 2 < n) c) cs
