-- Terms over bitvectors as lists of Boolean terms, one for each bit, the lowest first; and interpretations of one as those of the other.
use Rattle.std.specs.Prelude.{bytes_eq, ℕ, zero, suc, Bool, true, false, codes, List, [], ◌∷◌, ◌++◌, map, IsTrue}
use Rattle.std.specs.Option.{unwrap_or}
use Rattle.std.specs.List.{AllByRecursion, list_any, zip}
use Rattle.std.specs.Map.{lookup}
use Rattle.law_blasting.specs.Circuits.{number_bits}
use Rattle.law_blasting.specs.Circuits as circuits
use Rattle.law_terms.specs.Interpretations.{empty_table, unused_value, variable_eq}
use Rattle.law_terms.specs.Meaning.{literal_value}
use Rattle.law_terms.specs.Operators.{truth, number}
use Rattle.law_terms.specs.Reached.{reached_variables}
use Rattle.law_terms.specs.Tables.{Interpretation}
use Rattle.law_terms.specs.Types.{literal_type}
use Rattle.law_terms.specs.Values.{Value, BoolValue, BitVecValue}
use Rattle.law_terms.specs.Plain.{PlainType, BitVecType, BoolType, BoolLiteral, PlainTerm, Application, LiteralTerm, VariableTerm}
use Rattle.law_terms.specs.Plain.{PlainTerms, no_terms, one_term}
use Rattle.law_scripts.specs.Numerals.{numbered, numeral}
use Rattle.law_blasting.specs.OperatorCircuits.{term_gates, operator_circuit}

-- variables with their types, numbered from 0 in their order
abbrev pub Variables : Type 0
Variables = List (List ℕ × PlainType)

-- a variable is one of these
abbrev pub is_among : Variables → (List ℕ × PlainType) → Bool
is_among vs v = list_any (variable_eq v) vs

-- the variables that a term reaches are among these
abbrev pub AreNumbered : Variables → PlainTerm → Type 0
AreNumbered vs t = AllByRecursion (λ v. IsTrue (is_among vs v)) (reached_variables (t ∷ []))

-- the number of a variable, where those of the list are numbered from k: of the first of its id and type
abbrev pub number_from : ℕ → Variables → (List ℕ × PlainType) → ℕ
number_from k [] v = k
number_from k (w ∷ ws) v = elim (variable_eq v w) [ true ↦ k | false ↦ number_from (suc k) ws v ]

-- ---- new variables

-- the name of the new variable that stands for the Boolean variable of number k: `v3`
abbrev pub variable_name : ℕ → List ℕ
variable_name k = numbered (codes "v") k

-- the name of the new variable that stands for the bit at the place i of the variable of number k, the lowest being 0: `v3_0`
abbrev pub bit_name : ℕ → ℕ → List ℕ
bit_name k i = variable_name k ++ (codes "_" ++ numeral i)

-- the names of n bits from the place i on
abbrev pub bit_names : ℕ → ℕ → ℕ → List (List ℕ)
bit_names k i zero = []
bit_names k i (suc n) = bit_name k i ∷ bit_names k (suc i) n

-- the names of the new variables that stand for a variable of number k
abbrev pub new_names : ℕ → PlainType → List (List ℕ)
new_names k BoolType = variable_name k ∷ []
new_names k (BitVecType n) = bit_names k 0 n
new_names k t = []

-- the new variable of a name, which is a Boolean
abbrev pub new_variable : List ℕ → PlainTerm
new_variable name = VariableTerm name BoolType

-- the names of all new variables, where the old ones are numbered from k
abbrev pub all_names : ℕ → Variables → List (List ℕ)
all_names k [] = []
all_names k (v ∷ vs) = new_names k v.1 ++ all_names (suc k) vs

-- ---- terms

-- the bits of a value of a type, the lowest first: one of a Boolean, and as many as the width of a bitvector
abbrev pub value_bits : PlainType → Value → List Bool
value_bits BoolType v = truth v ∷ []
value_bits (BitVecType n) v = number_bits n (number v)
value_bits t v = []

-- how many bits a type has
abbrev pub bits_in : PlainType → ℕ
bits_in BoolType = 1
bits_in (BitVecType n) = n
bits_in t = 0

abbrev mutual
  -- A term as Boolean terms, one for each bit of its type, the lowest first, where the variables are numbered by this list: the circuit
  -- of each operator at the bits of its arguments, the bits of literals, and new variables in place of old ones. Nothing of other terms.
  pub blasted : Variables → PlainTerm → List PlainTerm
  blasted vs (Application o ts t) = operator_circuit term_gates o (blasted_all vs ts)
  blasted vs (LiteralTerm l) = map (λ b. LiteralTerm (BoolLiteral b)) (value_bits (literal_type l) (literal_value l))
  blasted vs (VariableTerm id t) = map new_variable (new_names (number_from 0 vs (id, t)) t)
  blasted vs t = []

  -- the Boolean terms of each term of a list
  pub blasted_all : Variables → PlainTerms → List (List PlainTerm)
  blasted_all vs no_terms = []
  blasted_all vs (one_term t ts) = blasted vs t ∷ blasted_all vs ts

-- ---- interpretations

-- the truths that an interpretation's values give the new variables, where the old ones are numbered from k
abbrev pub bits_from : ℕ → Variables → Interpretation → List (List ℕ × Bool)
bits_from k [] I = []
bits_from k (v ∷ vs) I = zip (new_names k v.1) (value_bits v.1 (I.variable v.0 v.1)) ++ bits_from (suc k) vs I

-- the interpretation of the new variables that an interpretation of the old ones gives: each is the Boolean or the bit for which it stands
abbrev pub bits : Variables → Interpretation → Interpretation
bits vs I =
    record {
      variable =
          λ name t.
          BoolValue (unwrap_or (lookup (bytes_eq name) (bits_from 0 vs I)) false);
      function = λ f. empty_table;
      inside_none = λ t. unused_value;
      other_family = λ o. empty_table;
    }

-- the value of a type that has these bits
abbrev pub value_of_bits : PlainType → List Bool → Value
value_of_bits BoolType (b ∷ bs) = BoolValue b
value_of_bits (BitVecType n) bs = BitVecValue n (circuits.number bs)
value_of_bits t bs = unused_value

-- and back: the interpretation of the old variables that an interpretation of the new ones gives
abbrev pub unbits : Variables → Interpretation → Interpretation
unbits vs J =
    record {
      variable =
          λ id t.
          value_of_bits t (map (λ name. truth (J.variable name BoolType)) (new_names (number_from 0 vs (id, t)) t));
      function = λ f. empty_table;
      inside_none = λ t. unused_value;
      other_family = λ o. empty_table;
    }
