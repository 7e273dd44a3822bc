-- Which terms have values in an assignment, and what answers for an operator.
use Rattle.std.specs.Prelude.{◌≡◌, ⊤, Bool, true, false, IsTrue, List, [], ◌∷◌, map, Option, Some, None}
use Rattle.std.specs.List.{AllByRecursion}
use Rattle.law_numbers.specs.BitOperators.{BitsOperator, BvlshrOp, BvshlOp}
use Rattle.law_assignments.specs.Assignments.{PlainAssignment}
use Rattle.law_assignments.specs.Covered.{Covers}
use Rattle.law_assignments.specs.Evaluated.{evaluated_application}
use Rattle.law_assignments.specs.Sound.{IsSound}
use Rattle.law_folding.specs.Built.{folded}
use Rattle.law_terms.specs.Plain.{PlainOp, PlainTerm, PlainType, Ipv4Of, Ipv6Of, BitVecLiteral, ExtensionLiteral, LiteralTerm, NoneTerm}
use Rattle.law_terms.specs.Types.{result_type, type_of}
use Rattle.law_terms.specs.Typing.{typed}
use Rattle.law_terms.specs.TypeValues.{Enums}

-- The assignment is sound for some enum types and gives all that the term reaches, and the term is typed.
pub record HasValueIn (a : PlainAssignment) (t : PlainTerm) : Type 0 where
  pub enums : Enums
  pub sound : IsSound enums a
  pub covered : Covers a (t ∷ [])
  pub is_typed : IsTrue (typed t)

-- each of the terms has a value
abbrev pub AllHaveValuesIn : PlainAssignment → List PlainTerm → Type 0
AllHaveValuesIn a ts = AllByRecursion (HasValueIn a) ts

-- What was found is to what the operator evaluates at these arguments; where nothing was found, the operator, where it takes the
-- arguments, evaluates to what it folds to.
abbrev pub Answers : PlainAssignment → PlainOp → List PlainTerm → Option PlainTerm → Type 0
Answers a o ts (Some r) = (ty : PlainType) → evaluated_application a o ts ty ≡ r
Answers a o ts None = (ty : PlainType) → result_type o (map type_of ts) ≡ Some ty → evaluated_application a o ts ty ≡ folded o ts ty

-- a term of another form than a literal's
abbrev pub IsNoLiteral : PlainTerm → Type 0
IsNoLiteral (LiteralTerm l) = ⊥
IsNoLiteral t = ⊤

-- a term of another form than a none's
abbrev pub IsNoNone : PlainTerm → Type 0
IsNoNone (NoneTerm ty) = ⊥
IsNoNone t = ⊤

-- a literal of an IP range
abbrev pub is_range : PlainTerm → Bool
is_range (LiteralTerm (ExtensionLiteral (Ipv4Of x p))) = true
is_range (LiteralTerm (ExtensionLiteral (Ipv6Of x p))) = true
is_range t = false

-- a literal of bits
abbrev pub are_bits_literal : PlainTerm → Bool
are_bits_literal (LiteralTerm (BitVecLiteral n x)) = true
are_bits_literal t = false

-- the two shifts that fold only at some numbers of places
abbrev pub IsShift : BitsOperator → Type 0
IsShift BvshlOp = ⊤
IsShift BvlshrOp = ⊤
IsShift o = ⊥
