use Rattle.std.proofs.Common.{ℕ, ◌≡◌, ◌+◌, ◌-◌, ◌++◌, List, [], ◌∷◌, refl, arith, length, length-append, map}
use Rattle.std.proofs.lemmas.Grind.{common_steps}
use Rattle.std.specs.Prelude.{codes}
use Rattle.std.specs.List.{flat_map, join_by}
use Rattle.smt_spelling.proofs.pieces.spaced_len.Goals as goal

-- each behind a space
others_length : {X : Type 0} (bytes : X → List ℕ) (xs : List X) → length (flat_map (λ y. codes " " ++ y) (map bytes xs)) ≡ length xs + length (flat_map bytes xs)
others_length bytes [] = refl
others_length bytes (x ∷ xs) =
    omega (arith, length-append (codes " " ++ bytes x) (flat_map (λ y. codes " " ++ y) (map bytes xs)), length-append (bytes x) (flat_map bytes xs), others_length bytes xs)

-- a space between each two
spaced_length : {X : Type 0} (bytes : X → List ℕ) (xs : List X) → length (join_by (λ x. x) (codes " ") (map bytes xs)) ≡ length xs - 1 + length (flat_map bytes xs)
spaced_length bytes [] = refl
spaced_length bytes (x ∷ xs) =
    omega (arith, length-append (bytes x) (flat_map (λ y. codes " " ++ y) (map bytes xs)), length-append (bytes x) (flat_map bytes xs), others_length bytes xs)

pub returns : goal.returns
returns c = rw spaced_length (grind (arith, common_steps))
