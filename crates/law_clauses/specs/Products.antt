-- Clauses of products: a circuit that adds the first operand once for each bit of the second that is set, moved up to its place.
use Rattle.std.specs.Prelude.{◌≡◌, ℕ, Bool, List, [], ◌∷◌, length}
use Rattle.law_blasting.specs.Circuits.{Gates, number, sum, truth_gates, zeros}
use Rattle.law_numbers.specs.BitOperators.{BvmulOp}
use Rattle.law_numbers.specs.BitVectors.{bvmul}
use Rattle.law_terms.specs.Plain.{PlainTerm}
use Rattle.law_terms.specs.TypeValues.{Enums}
use Rattle.law_clauses.specs.Applications.{bits_term}
use Rattle.law_clauses.specs.Bits.{AreOfWidth, bits_from, both_ways}
use Rattle.law_clauses.specs.GateClauses.{atom_gates}
use Rattle.law_clauses.specs.Sequents.{AreValid, Sequent}

module _ {X : Type 0} (g : Gates X) where
  -- moved up by one place, with a bit in the lowest; the highest is lost
  abbrev pub moved : X → List X → List X
  moved c [] = []
  moved c (x ∷ xs) = c ∷ moved x xs

  -- each bit where another is set, and else no bit
  abbrev pub where_set : X → List X → List X
  where_set b [] = []
  where_set b (x ∷ xs) = g.and b x ∷ where_set b xs

  -- the product, in the width of the first list
  abbrev pub product : List X → List X → List X
  product xs [] = zeros g xs
  product xs (y ∷ ys) = sum g (where_set y xs) (moved g.no (product xs ys)) g.no

-- the circuit gives the product modulo 2 to the width (`bvmul`)
abbrev pub ProductsAreMade : Type 0
ProductsAreMade = (xs ys : List Bool) → number (product truth_gates xs ys) ≡ bvmul (length xs) (number xs) (number ys)

-- the bits of a product are those of the circuit
abbrev pub product_clauses : ℕ → PlainTerm → PlainTerm → List Sequent
product_clauses n a b = both_ways (bits_from (bits_term n BvmulOp a b) 0 n) (product atom_gates (bits_from a 0 n) (bits_from b 0 n))

-- they are valid of bitvectors of n bits
abbrev pub ProductsAreValid : Type 0
ProductsAreValid =
    (enums : Enums) (roots : List PlainTerm) (n : ℕ) (a b : PlainTerm)
    → AreOfWidth enums roots n a b → AreValid enums roots (product_clauses n a b)
