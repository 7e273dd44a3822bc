-- Chosen terms, blasted.
use Rattle.std.specs.Prelude.{◌≡◌, ℕ, Bool, true, false, bytes_eq, codes, cond, List, [], ◌∷◌, map, Some}
use Rattle.law_numbers.specs.BitOperators.{BvaddOp, BvmulOp}
use Rattle.law_terms.specs.Interpretations.{empty_table, unused_value}
use Rattle.law_terms.specs.Meaning.{term_value}
use Rattle.law_terms.specs.Tables.{Interpretation}
use Rattle.law_terms.specs.Values.{Value, BoolValue}
use Rattle.law_terms.specs.Plain.{BitVecType, BoolType, StringType, PlainFunction, AndOp, BitsOp, EqOp, NotOp, UufOp, BitVecLiteral}
use Rattle.law_terms.specs.Plain.{StringLiteral, PlainTerm, Application, LiteralTerm, VariableTerm, terms}
use Rattle.law_blasting.specs.Numbering.{variables_of}
use Rattle.law_blasting.specs.Refusals.{UnsupportedOperator, UnsupportedType, term_refusal}
use Rattle.law_blasting.specs.Theorem.{new_roots, names_of}

-- a Boolean variable
abbrev pub a_truth : List ℕ → PlainTerm
a_truth id = VariableTerm id BoolType

-- its negation
abbrev pub opposite : PlainTerm
opposite = Application NotOp (terms (a_truth (codes "b") ∷ [])) BoolType

-- a variable of two bits
abbrev pub x : PlainTerm
x = VariableTerm (codes "x") (BitVecType 2)

-- x + 1 is 0, in two bits
abbrev pub next_is_zero : PlainTerm
next_is_zero =
    Application EqOp
    (terms
    (Application (BitsOp BvaddOp) (terms (x ∷ LiteralTerm (BitVecLiteral 2 1) ∷ [])) (BitVecType 2) ∷ LiteralTerm (BitVecLiteral 2 0) ∷ []))
    BoolType

-- the interpretation that gives the two new variables of x these truths
abbrev pub two_bits : Bool → Bool → Interpretation
two_bits low high =
    record {
      variable =
          λ name t.
          BoolValue (cond (bytes_eq name (codes "v0_0")) low high);
      function = λ f. empty_table;
      inside_none = λ t. unused_value;
      other_family = λ o. empty_table;
    }

-- what the new term of x + 1 = 0 is worth there
abbrev pub next_at : Bool → Bool → List Value
next_at low high = map (term_value (two_bits low high)) (new_roots (next_is_zero ∷ []))

-- an equality with a product of bits, which is refused
abbrev pub product : PlainTerm
product = Application EqOp (terms (Application (BitsOp BvmulOp) (terms (x ∷ x ∷ [])) (BitVecType 2) ∷ x ∷ [])) BoolType

-- a text
abbrev pub a_text : PlainTerm
a_text = LiteralTerm (StringLiteral (codes "a"))

-- an equality of texts, which is refused
abbrev pub same_text : PlainTerm
same_text = Application EqOp (terms (a_text ∷ a_text ∷ [])) BoolType

-- a function of two bits
abbrev pub a_function : PlainFunction
a_function = record { id = codes "f"; argument = BitVecType 2; output = BoolType }

-- a call of that function, which is refused
abbrev pub call : PlainTerm
call = Application (UufOp a_function) (terms (x ∷ [])) BoolType

-- a conjunction in which the variable q is met before p
abbrev pub q_and_p : PlainTerm
q_and_p = Application AndOp (terms (a_truth (codes "q") ∷ a_truth (codes "p") ∷ [])) BoolType

-- Boolean forms stay, the sum is 0 for 3 alone, the first refusal of a term is told, and variables are numbered as they are met
pub record BlastedRows : Type 0 where
  pub forms_stay : new_roots (opposite ∷ []) ≡ Application NotOp (terms (a_truth (codes "v0") ∷ [])) BoolType ∷ []
  pub names : names_of (next_is_zero ∷ []) ≡ codes "v0_0" ∷ codes "v0_1" ∷ []
  pub at_three : next_at true true ≡ BoolValue true ∷ []
  pub at_two : next_at false true ≡ BoolValue false ∷ []
  pub at_one : next_at true false ≡ BoolValue false ∷ []
  pub at_zero : next_at false false ≡ BoolValue false ∷ []
  pub products : term_refusal product ≡ Some (UnsupportedOperator (BitsOp BvmulOp))
  pub texts : term_refusal same_text ≡ Some (UnsupportedType StringType)
  pub calls : term_refusal call ≡ Some (UnsupportedOperator (UufOp a_function))
  pub order :
      variables_of (q_and_p ∷ next_is_zero ∷ a_truth (codes "p") ∷ [])
      ≡ (codes "q", BoolType) ∷ (codes "p", BoolType) ∷ (codes "x", BitVecType 2) ∷ []
  pub kinds : names_of (q_and_p ∷ next_is_zero ∷ []) ≡ codes "v0" ∷ codes "v1" ∷ codes "v2_0" ∷ codes "v2_1" ∷ []
