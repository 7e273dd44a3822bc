-- Worked examples of nodes.
use Rattle.std.specs.Prelude.{◌≡◌, ℕ, true, false, ◌++◌, List, [], ◌∷◌, Some, codes}
use Rattle.law_terms.specs.Plain.{BitVecType, BoolType, BitVecLiteral, NotOp, PlainFunction, PlainOp, PlainTerm, Application, BitsOp}
use Rattle.law_terms.specs.Plain.{SetTerm, UufOp, VariableTerm, terms}
use Rattle.law_numbers.specs.BitOperators.{BvaddOp}
use Rattle.law_terms.specs.Fits.{fits}
use Rattle.law_terms.specs.Meanings.{meaning_of, meanings}
use Rattle.law_terms.specs.Nodes.{PlainLabel, BitVecLabel, BoolLabel, RecordLabel, SetLabel, ApplicationLabel, LiteralLabel, SetOfLabel}
use Rattle.law_terms.specs.Nodes.{SomeLabel, VariableLabel, PlainNode, TypeMeaning, TermMeaning}

-- a node of this label, with its parts at these places
abbrev pub node : PlainLabel → List ℕ → PlainNode
node l parts = record { label = l; parts = parts }

-- the operator `bvadd`
abbrev pub sum : PlainOp
sum = BitsOp BvaddOp

-- a Boolean variable and its negation
abbrev pub negation : List PlainNode
negation = node BoolLabel [] ∷ node (VariableLabel (codes "b")) (0 ∷ []) ∷ node (ApplicationLabel NotOp) (0 ∷ 1 ∷ []) ∷ []

-- a variable of 8 bits, its sum with itself, and the sum of that with itself
abbrev pub sums : List PlainNode
sums =
    node (BitVecLabel 8) [] ∷ node (VariableLabel (codes "x")) (0 ∷ []) ∷ node (ApplicationLabel sum) (0 ∷ 1 ∷ 1 ∷ [])
    ∷ node (ApplicationLabel sum) (0 ∷ 2 ∷ 2 ∷ []) ∷ []

-- a Boolean variable
abbrev pub b : PlainTerm
b = VariableTerm (codes "b") BoolType

-- a variable of 8 bits
abbrev pub x : PlainTerm
x = VariableTerm (codes "x") (BitVecType 8)

-- the sum of this variable with itself
abbrev pub x_and_x : PlainTerm
x_and_x = Application sum (terms (x ∷ x ∷ [])) (BitVecType 8)

-- a function from Bool to Bool
abbrev pub a_function : PlainFunction
a_function = record { id = codes "f"; argument = BoolType; output = BoolType }

-- the nodes of `sums`, and the type of sets of 8 bits
abbrev pub sets : List PlainNode
sets = sums ++ node SetLabel (0 ∷ []) ∷ []

-- what chosen nodes stand for, and nodes that do not fit, one for each reason
pub record NodeRows : Type 0 where
  pub of_negation :
      meanings negation
      ≡ Some (TypeMeaning BoolType) ∷ Some (TermMeaning b) ∷ Some (TermMeaning (Application NotOp (terms (b ∷ [])) BoolType)) ∷ []
  pub of_sums :
      meanings sums
      ≡ Some (TypeMeaning (BitVecType 8)) ∷ Some (TermMeaning x) ∷ Some (TermMeaning x_and_x)
      ∷ Some (TermMeaning (Application sum (terms (x_and_x ∷ x_and_x ∷ [])) (BitVecType 8))) ∷ []
  pub of_set :
      meaning_of (meanings sets) (node SetOfLabel (4 ∷ 2 ∷ 1 ∷ [])) ≡ Some (TermMeaning (SetTerm (BitVecType 8) (terms (x_and_x ∷ x ∷ []))))
  pub fitting : fits sets (node SetOfLabel (4 ∷ 2 ∷ 1 ∷ [])) ≡ true
  -- no part stands at this place or behind it
  pub later_part : fits negation (node (ApplicationLabel NotOp) (0 ∷ 3 ∷ [])) ≡ false
  pub part_missing : fits negation (node (VariableLabel (codes "c")) []) ≡ false
  pub part_too_many : fits negation (node (VariableLabel (codes "c")) (0 ∷ 1 ∷ [])) ≡ false
  pub other_kind : fits negation (node (ApplicationLabel NotOp) (0 ∷ 0 ∷ [])) ≡ false
  -- a literal of 8 bits has not the type Bool
  pub other_type : fits negation (node (LiteralLabel (BitVecLiteral 8 1)) (0 ∷ [])) ≡ false
  -- some of a Boolean has not the type Bool
  pub no_option : fits negation (node SomeLabel (0 ∷ 1 ∷ [])) ≡ false
  pub attributes_turned : fits negation (node (RecordLabel (codes "b" ∷ codes "a" ∷ [])) (0 ∷ 0 ∷ [])) ≡ false
  pub elements_turned : fits sets (node SetOfLabel (4 ∷ 1 ∷ 2 ∷ [])) ≡ false
  pub element_twice : fits sets (node SetOfLabel (4 ∷ 1 ∷ 1 ∷ [])) ≡ false
  -- a function is applied by a call alone
  pub function_applied : fits negation (node (ApplicationLabel (UufOp a_function)) (0 ∷ 1 ∷ [])) ≡ false
