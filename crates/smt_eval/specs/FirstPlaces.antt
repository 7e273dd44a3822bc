-- Places in a list.
use Rattle.std.specs.Prelude.{ℕ, suc, List, [], ◌∷◌, Bool, cond, Option, None, Some, option_map}

-- the place of the first item that passes a test
abbrev pub first_place : {X : Type 0} → (test : X → Bool) → List X → Option ℕ
first_place test [] = None
first_place test (x ∷ xs) = cond (test x) (Some 0) (option_map suc (first_place test xs))
