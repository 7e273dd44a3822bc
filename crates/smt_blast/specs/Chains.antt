-- Sums and differences, which differ in what goes from bit to bit.
use Rattle.std.specs.Prelude.{ℕ, List}
use Rattle.law_blasting.specs.Circuits.{Gates, borrow, borrows_differ, carries_differ, carry, difference, down, sum, up}
use Rattle.smt_blast.specs.declared.circuit.Chain.{Chain}
use Rattle.smt_blast.specs.declared.circuit.Chain.TheVariants.{Carry, Borrow}
use Rattle.smt_blast.specs.declared.circuit.Direction.{Direction}
use Rattle.smt_blast.specs.declared.circuit.Direction.TheVariants.{Up, Down}

module _ {X : Type 0} (g : Gates X) where
  -- what goes into the next place: the carry of a sum, or the borrow of a difference
  abbrev pub passed_on : Chain → X → X → X → X
  passed_on Carry a b c = carry g a b c
  passed_on Borrow a b c = borrow g a b c

  -- the bits of a sum or of a difference
  abbrev pub added : Chain → List X → List X → X → List X
  added Carry xs ys c = sum g xs ys c
  added Borrow xs ys c = difference g xs ys c

  -- whether a sum or a difference leaves the signed range
  abbrev pub leaves_range : Chain → List X → List X → X → X
  leaves_range Carry xs ys c = carries_differ g xs ys c
  leaves_range Borrow xs ys c = borrows_differ g xs ys c

  -- moved by so many places
  abbrev pub moved : Direction → ℕ → List X → List X
  moved Up k xs = up g k xs
  moved Down k xs = down g k xs
