-- Clauses of bits are valid.
use Rattle.std.proofs.Common.{◌≡◌, ◌/◌, ◌%◌, ℕ, zero, suc, Bool, ◌&&◌, ◌||◌, List, [], ◌∷◌, ap, refl, sym, ◌∙◌, subst, length, mod-eq_of_lt}
use Rattle.std.specs.Prelude.{◌==◌, cond, not, ⊤}
use Rattle.std.specs.Bool.{beq}
use Rattle.std.specs.List.{AllByRecursion}
use Rattle.law_blasting.proofs.Bits.{numbers_have_bits}
use Rattle.law_blasting.proofs.Gates.{operators_pass}
use Rattle.law_blasting.proofs.HasBits.{HasBits, OfTruth, HaveBits, none, one, of_bits, operators_have_bits}
use Rattle.law_blasting.proofs.Keeping.{bits_are}
use Rattle.law_blasting.specs.Blasted.{value_bits}
use Rattle.law_blasting.specs.Circuits.{number_bits, truth_gates}
use Rattle.law_blasting.specs.OperatorCircuits.{operator_circuit}
use Rattle.law_blasting.specs.Passing.{Related, Passes}
use Rattle.law_blasting.specs.Passing as pass
use Rattle.law_terms.specs.Interpretations.{IsInterpretation}
use Rattle.law_terms.specs.Meaning.{meaning, meanings}
use Rattle.law_terms.specs.Operators.{apply, number}
use Rattle.law_terms.specs.Plain.{PlainType, BitVecType, BoolType, PlainTerm, Application, PlainTerms, no_terms, one_term, list_of_terms}
use Rattle.law_terms.specs.Shapes.{IsShaped}
use Rattle.law_terms.specs.Tables.{Interpretation}
use Rattle.law_terms.specs.Types.{type_of}
use Rattle.law_terms.specs.TypeValues.{Enums}
use Rattle.law_terms.specs.Values.{Value, BoolValue, BitVecValue}
use Rattle.law_clauses.specs.Bits.{CircuitsAreValid, HaveBitShapes, IsOfBits, all_bits, bits_from, both_ways, type_bits}
use Rattle.law_clauses.specs.GateClauses.{atom_gates}
use Rattle.law_clauses.specs.Sequents.{IsValid}
use Rattle.law_clauses.specs.Statements.{Atom, atom_truth, bit_at}
use Rattle.law_clauses.proofs.Sequents.{or_one}

-- a number halved so many times
abbrev halved : ℕ → ℕ → ℕ
halved zero a = a
halved (suc k) a = halved k (a / 2)

halved_next : (k a : ℕ) → halved k (a / 2) ≡ halved k a / 2
halved_next zero a = refl
halved_next (suc k) a = halved_next k (a / 2)

bit_halved : (k a : ℕ) → bit_at k a ≡ (halved k a % 2 == 1)
bit_halved zero a = refl
bit_halved (suc k) a = bit_halved k (a / 2)

module _ (I : Interpretation) where
  -- a statement has this truth
  abbrev pub Gives : Atom → Bool → Type 0
  Gives a b = atom_truth I a ≡ b

  pub atoms_pass : Passes atom_gates truth_gates Gives
  atoms_pass = record {
    no = refl;
    yes = refl;
    not = λ a p r. ap not r;
    and = λ a b p q r s. ap (λ x. x && atom_truth I b) r ∙ ap (λ x. p && x) s;
    or = λ a b p q r s. ap (λ x. x || atom_truth I b) r ∙ ap (λ x. p || x) s;
    eq = λ a b p q r s. ap (λ x. beq x (atom_truth I b)) r ∙ ap (λ x. beq p x) s;
    ite = λ a b c p q u r s t. ap (λ x. cond x (atom_truth I b) (atom_truth I c)) r ∙ (ap (λ x. cond p x (atom_truth I c)) s ∙ ap (λ x. cond p q x) t);
  }

  -- the statements of bits have the truths of the bits
  pub bits_given : (t : PlainTerm) (n k : ℕ) → Related Gives (bits_from t k n) (number_bits n (halved k (number (meaning I t))))
  bits_given t zero k = pass.none
  bits_given t (suc n) k = pass.one (bit_halved k (number (meaning I t))) (subst (λ x. Related Gives (bits_from t (suc k) n) (number_bits n x)) (halved_next k (number (meaning I t))) (bits_given t n (suc k)))

  type_given : (ty : PlainType) (t : PlainTerm) → Related Gives (type_bits ty t) (value_bits ty (meaning I t))
  type_given BoolType t = pass.one refl pass.none
  type_given (BitVecType n) t = bits_given t n 0
  type_given ty t = pass.none

  abbrev values_bits : PlainTerms → List (List Bool)
  values_bits no_terms = []
  values_bits (one_term t ts) = value_bits (type_of t) (meaning I t) ∷ values_bits ts

  all_given : (ts : PlainTerms) → Related (Related Gives) (all_bits ts) (values_bits ts)
  all_given no_terms = pass.none
  all_given (one_term t ts) = pass.one (type_given (type_of t) t) (all_given ts)

  -- two statements have one truth, place by place
  abbrev pub Together : List Atom → List Atom → Type 0
  Together (x ∷ xs) (y ∷ ys) = (atom_truth I x ≡ atom_truth I y) × Together xs ys
  Together xs ys = ⊤

  pub together : {xs ys : List Atom} {bs : List Bool} → Related Gives xs bs → Related Gives ys bs → Together xs ys
  together pass.none pass.none = tt
  together (pass.one p r) (pass.one q s) = (p ∙ sym q, together r s)

pub bits_length : (n a : ℕ) → length (number_bits n a) ≡ n
bits_length zero a = refl
bits_length (suc n) a = ap suc (bits_length n (a / 2))

has_bits : (ty : PlainType) (v : Value) → IsOfBits ty → IsShaped ty v → HasBits ty (value_bits ty v) v
has_bits BoolType (BoolValue b) l h = OfTruth b
has_bits (BitVecType n) (BitVecValue m a) l h = subst (λ k. HasBits (BitVecType n) (number_bits n a) (BitVecValue k a)) (sym h.0) (of_bits n a (number_bits n a) l (bits_length n a) (numbers_have_bits n a ∙ mod-eq_of_lt h.1))
has_bits BoolType v l h = elim h [ ]
has_bits (BitVecType n) v l h = elim h [ ]
has_bits ty v l h = elim l [ ]

module _ (enums : Enums) (roots : List PlainTerm) where
  have_bits : (I : Interpretation) → IsInterpretation enums roots I → (ts : PlainTerms) → HaveBitShapes enums roots (list_of_terms ts) → HaveBits I ts (values_bits I ts)
  have_bits I g no_terms h = none
  have_bits I g (one_term t ts) h = one (has_bits (type_of t) (meaning I t) h.0.0 (h.0.1 I g)) (have_bits I g ts h.1)

  pub both_valid : (xs ys : List Atom) → ((I : Interpretation) → IsInterpretation enums roots I → Together I xs ys) → AllByRecursion (IsValid enums roots) (both_ways xs ys)
  both_valid [] ys f = tt
  both_valid (x ∷ xs) [] f = tt
  both_valid (x ∷ xs) (y ∷ ys) f = (λ I g h. or_one (atom_truth I y) (sym (f I g).0 ∙ h.0), (λ I g h. or_one (atom_truth I x) ((f I g).0 ∙ h.0), both_valid xs ys (λ I g. (f I g).1)))

pub circuits_are_valid : CircuitsAreValid
circuits_are_valid enums roots o ts ty s e h = both_valid enums roots (type_bits ty (Application o ts ty)) (operator_circuit atom_gates o (all_bits ts))
    (λ I g.
    let made = operators_pass atom_gates truth_gates (Gives I) (atoms_pass I) o (all_given I ts) in
    let same = bits_are ty (operator_circuit truth_gates o (values_bits I ts)) (apply I o ty (meanings I ts)) (operators_have_bits I o ts (values_bits I ts) ty e s (have_bits enums roots I g ts h)) in
    together I (type_given I ty (Application o ts ty)) (subst (λ bs. Related (Gives I) (operator_circuit atom_gates o (all_bits ts)) bs) same made))
