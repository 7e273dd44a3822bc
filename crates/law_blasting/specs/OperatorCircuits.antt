-- Terms as gates, and a circuit for each operator: from the bits of its arguments, the lowest first, to the bits of what it gives.
use Rattle.std.specs.Prelude.{true, false, List, [], ◌∷◌, length}
use Rattle.law_numbers.specs.BitOperators.{BitsOperator, BvaddOp, BvlshrOp, BvshlOp, BvsubOp, TestOperator, BvsleOp, BvsltOp, BvuleOp}
use Rattle.law_numbers.specs.BitOperators.{BvultOp, OverflowOperator, BvsaddoOp, BvssuboOp}
use Rattle.law_blasting.specs.Circuits.{Gates, sum, difference, borrow_out, carries_differ, borrows_differ, equal, zeros, extended, choose}
use Rattle.law_blasting.specs.Circuits.{up, down, shift, with_top}
use Rattle.law_terms.specs.Plain.{BoolType, PlainOp, AndOp, BitsOp, BvnegOp, BvnegoOp, EqOp, IteOp, NotOp, OrOp, OverflowOp, TestOp}
use Rattle.law_terms.specs.Plain.{ZeroExtendOp, BoolLiteral, PlainTerm, Application, LiteralTerm, terms}

-- gates that are Boolean terms
abbrev pub term_gates : Gates PlainTerm
term_gates = record {
  no = LiteralTerm (BoolLiteral false);
  yes = LiteralTerm (BoolLiteral true);
  not = λ a. Application NotOp (terms (a ∷ [])) BoolType;
  and = λ a b. Application AndOp (terms (a ∷ b ∷ [])) BoolType;
  or = λ a b. Application OrOp (terms (a ∷ b ∷ [])) BoolType;
  eq = λ a b. Application EqOp (terms (a ∷ b ∷ [])) BoolType;
  ite = λ a b c. Application IteOp (terms (a ∷ b ∷ c ∷ [])) BoolType;
}

module _ {X : Type 0} (g : Gates X) where
  -- the one bit of a Boolean
  abbrev pub the_bit : List X → X
  the_bit [] = g.no
  the_bit (b ∷ bs) = b

  -- the circuit of an operator from two bitvectors to one; of an operator that is not blasted nothing
  abbrev pub bits_circuit : BitsOperator → List X → List X → List X
  bits_circuit BvaddOp xs ys = sum g xs ys g.no
  bits_circuit BvsubOp xs ys = difference g xs ys g.no
  bits_circuit BvshlOp xs ys = shift g (up g) (length xs) 1 ys xs
  bits_circuit BvlshrOp xs ys = shift g (down g) (length xs) 1 ys xs
  bits_circuit o xs ys = []

  -- A comparison: less is a borrow out of the highest place, and in two's complement the same with the two highest bits exchanged; at
  -- most is that the other is not less.
  abbrev pub test_circuit : TestOperator → List X → List X → X
  test_circuit BvultOp xs ys = borrow_out g xs ys g.no
  test_circuit BvuleOp xs ys = g.not (borrow_out g ys xs g.no)
  test_circuit BvsltOp xs ys = borrow_out g (with_top xs ys) (with_top ys xs) g.no
  test_circuit BvsleOp xs ys = g.not (borrow_out g (with_top ys xs) (with_top xs ys) g.no)

  -- whether a result leaves the signed range; of a test that is not blasted nothing
  abbrev pub overflow_circuit : OverflowOperator → List X → List X → List X
  overflow_circuit BvsaddoOp xs ys = carries_differ g xs ys g.no ∷ []
  overflow_circuit BvssuboOp xs ys = borrows_differ g xs ys g.no ∷ []
  overflow_circuit o xs ys = []

  -- The circuit of an operator at the bits of its arguments. A Boolean is one bit; equality and choice go bit by bit, and a negation is
  -- a difference from zero. An operator that is not blasted gives nothing.
  abbrev pub operator_circuit : PlainOp → List (List X) → List X
  operator_circuit NotOp (a ∷ []) = g.not (the_bit a) ∷ []
  operator_circuit AndOp (a ∷ b ∷ []) = g.and (the_bit a) (the_bit b) ∷ []
  operator_circuit OrOp (a ∷ b ∷ []) = g.or (the_bit a) (the_bit b) ∷ []
  operator_circuit EqOp (a ∷ b ∷ []) = equal g a b ∷ []
  operator_circuit IteOp (c ∷ a ∷ b ∷ []) = choose g (the_bit c) a b
  operator_circuit BvnegOp (a ∷ []) = difference g (zeros g a) a g.no
  operator_circuit BvnegoOp (a ∷ []) = borrows_differ g (zeros g a) a g.no ∷ []
  operator_circuit (BitsOp o) (a ∷ b ∷ []) = bits_circuit o a b
  operator_circuit (TestOp o) (a ∷ b ∷ []) = test_circuit o a b ∷ []
  operator_circuit (OverflowOp o) (a ∷ b ∷ []) = overflow_circuit o a b
  operator_circuit (ZeroExtendOp k) (a ∷ []) = extended g k a
  operator_circuit o xss = []
