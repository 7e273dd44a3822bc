-- Clauses of bits: the circuit of each operator on bitvectors, over statements about the bits of its arguments.
use Rattle.std.specs.Prelude.{◌≡◌, ◌≤◌, ℕ, zero, suc, List, [], ◌∷◌, Some, IsTrue, ⊤}
use Rattle.std.specs.List.{AllByRecursion}
use Rattle.law_blasting.specs.OperatorCircuits.{operator_circuit}
use Rattle.law_blasting.specs.Refusals.{is_supported}
use Rattle.law_terms.specs.Plain.{PlainType, BitVecType, BoolType, PlainOp, PlainTerm, Application, PlainTerms, no_terms, one_term}
use Rattle.law_terms.specs.Plain.{list_of_terms}
use Rattle.law_terms.specs.Types.{result_type, type_of, types_of}
use Rattle.law_terms.specs.TypeValues.{Enums}
use Rattle.law_clauses.specs.GateClauses.{atom_gates}
use Rattle.law_clauses.specs.Sequents.{AreValid, Sequent, implies}
use Rattle.law_clauses.specs.Shapes.{HasShape}
use Rattle.law_clauses.specs.Statements.{Atom, BitOf, TruthOf}

-- the statements of n bits of a term from a place on, the lowest first
abbrev pub bits_from : PlainTerm → (place n : ℕ) → List Atom
bits_from t k zero = []
bits_from t k (suc n) = BitOf t k ∷ bits_from t (suc k) n

-- the statements of the bits of a term of a type: one of a Boolean, and as many as the width of a bitvector
abbrev pub type_bits : PlainType → PlainTerm → List Atom
type_bits BoolType t = TruthOf t ∷ []
type_bits (BitVecType n) t = bits_from t 0 n
type_bits ty t = []

-- those of each term of a list
abbrev pub all_bits : PlainTerms → List (List Atom)
all_bits no_terms = []
all_bits (one_term t ts) = type_bits (type_of t) t ∷ all_bits ts

-- the statements of two lists are true together, place by place
abbrev pub both_ways : List Atom → List Atom → List Sequent
both_ways (x ∷ xs) (y ∷ ys) = implies x y ∷ implies y x ∷ both_ways xs ys
both_ways xs ys = []

-- the bits of an application are those that the circuit of its operator gives
abbrev pub circuit_clauses : PlainOp → PlainTerms → PlainType → List Sequent
circuit_clauses o ts ty = both_ways (type_bits ty (Application o ts ty)) (operator_circuit atom_gates o (all_bits ts))

-- Bool, or bitvectors of one bit at least
abbrev pub IsOfBits : PlainType → Type 0
IsOfBits BoolType = ⊤
IsOfBits (BitVecType n) = 1 ≤ n
IsOfBits t = ⊥

-- in every interpretation of the roots the terms have values of their types, which are of bits
abbrev pub HaveBitShapes : Enums → List PlainTerm → List PlainTerm → Type 0
HaveBitShapes enums roots ts = AllByRecursion (λ t. IsOfBits (type_of t) × HasShape enums roots t (type_of t)) ts

-- in every interpretation of the roots two terms have values of n bits
abbrev pub AreOfWidth : Enums → List PlainTerm → ℕ → PlainTerm → PlainTerm → Type 0
AreOfWidth enums roots n a b = HasShape enums roots a (BitVecType n) × HasShape enums roots b (BitVecType n)

-- all of them are valid, of the operators that have a circuit
abbrev pub CircuitsAreValid : Type 0
CircuitsAreValid =
    (enums : Enums) (roots : List PlainTerm) (o : PlainOp) (ts : PlainTerms) (ty : PlainType)
    → IsTrue (is_supported o) → result_type o (types_of ts) ≡ Some ty → HaveBitShapes enums roots (list_of_terms ts)
    → AreValid enums roots (circuit_clauses o ts ty)
