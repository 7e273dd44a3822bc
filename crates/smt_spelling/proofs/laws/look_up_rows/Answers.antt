use Rattle.std.proofs.Common.{ℕ, List, [], ◌∷◌, true, IsTrue, refl}
use Rattle.std.specs.List.{AllByRecursion}
use Rattle.smt_spelling.proofs.laws.look_up_rows.Goals as goal

everywhere : (places : List ℕ) → AllByRecursion (λ (place : ℕ). IsTrue true) places
everywhere [] = tt
everywhere (place ∷ places) = (refl, everywhere places)

pub returns : goal.returns
returns c = record { all_are_closed = λ nodes place node at here. everywhere node.parts; of_negation = refl; of_sums = refl; of_attribute = refl }
