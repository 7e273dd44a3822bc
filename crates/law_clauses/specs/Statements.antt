-- Statements about the values of terms: what the variables of clauses stand for.
use Rattle.std.specs.Prelude.{ℕ, zero, suc, ◌&&◌, ◌||◌, ◌/◌, ◌%◌, ◌==◌, Bool, true, false, List, [], ◌∷◌, cond, not}
use Rattle.std.specs.Bool.{beq}
use Rattle.law_terms.specs.Meaning.{meaning}
use Rattle.law_terms.specs.Operators.{truth, number, elements, is_member}
use Rattle.law_terms.specs.Plain.{PlainTerm}
use Rattle.law_terms.specs.Tables.{Interpretation}
use Rattle.law_terms.specs.ValueOrder.{value_eq}
use Rattle.law_terms.specs.Values.{Value, BoolValue}

-- something that has a value: a term, or the first element of one set that is not in another
pub data Element : Type 0 where
  Value_of : PlainTerm → Element
  Apart : (set other : PlainTerm) → Element

-- A statement about values: a Boolean term is true; the bit at a place of a bitvector is set, the lowest being 0; two elements are
-- the same; an element is in a set. Or it is made of other statements, as circuits are.
pub data Atom : Type 0 where
  TruthOf : PlainTerm → Atom
  BitOf : PlainTerm → (place : ℕ) → Atom
  Same : Element → Element → Atom
  Within : Element → (set : PlainTerm) → Atom
  Constant : Bool → Atom
  Negation : Atom → Atom
  Conjunction Disjunction Equality : Atom → Atom → Atom
  Choice : (test yes no : Atom) → Atom

-- two terms have the same value
abbrev pub same_terms : PlainTerm → PlainTerm → Atom
same_terms t u = Same (Value_of t) (Value_of u)

-- the first of some values that is not among others, and false where there is none
abbrev pub first_apart : List Value → List Value → Value
first_apart [] ws = BoolValue false
first_apart (v ∷ vs) ws = elim (is_member v ws) [ true ↦ first_apart vs ws | false ↦ v ]

-- the bit of a number at a place
abbrev pub bit_at : ℕ → ℕ → Bool
bit_at zero a = a % 2 == 1
bit_at (suc k) a = bit_at k (a / 2)

module _ (I : Interpretation) where
  -- the value of an element; that of a term is taken whether the term is typed or not
  abbrev pub element_value : Element → Value
  element_value (Value_of t) = meaning I t
  element_value (Apart s t) = first_apart (elements (meaning I s)) (elements (meaning I t))

  -- the truth of a statement
  abbrev pub atom_truth : Atom → Bool
  atom_truth (TruthOf t) = truth (meaning I t)
  atom_truth (BitOf t k) = bit_at k (number (meaning I t))
  atom_truth (Same a b) = value_eq (element_value a) (element_value b)
  atom_truth (Within a s) = is_member (element_value a) (elements (meaning I s))
  atom_truth (Constant b) = b
  atom_truth (Negation a) = not (atom_truth a)
  atom_truth (Conjunction a b) = atom_truth a && atom_truth b
  atom_truth (Disjunction a b) = atom_truth a || atom_truth b
  atom_truth (Equality a b) = beq (atom_truth a) (atom_truth b)
  atom_truth (Choice c a b) = cond (atom_truth c) (atom_truth a) (atom_truth b)
