-- Blasted terms have the bits of what they stand for.
use Rattle.std.specs.Prelude.{◌≡◌, bytes_eq, ℕ, Bool, None, List, [], ◌∷◌, length, map, IsFalse, IsTrue, ⊤}
use Rattle.std.specs.List.{AllByRecursion, list_any}
use Rattle.law_blasting.specs.Circuits.{truth_gates}
use Rattle.law_blasting.specs.Passing.{Related, Passes, CircuitsPass}
use Rattle.law_terms.specs.Formed.{IsFormed}
use Rattle.law_terms.specs.Interpretations.{IsInterpretation}
use Rattle.law_terms.specs.Meaning.{meaning, term_value}
use Rattle.law_terms.specs.Tables.{Interpretation}
use Rattle.law_terms.specs.Types.{type_of}
use Rattle.law_terms.specs.Typing.{AreBoolean, Typed, typed}
use Rattle.law_terms.specs.TypeValues.{Enums, IsValue}
use Rattle.law_terms.specs.Values.{BoolValue}
use Rattle.law_terms.specs.Plain.{BoolType, PlainOp, PlainTerm, Application, terms}
use Rattle.law_blasting.specs.Blasted.{Variables, AreNumbered, all_names, bits, bits_in, blasted, is_among, unbits, value_bits}
use Rattle.law_blasting.specs.OperatorCircuits.{term_gates, operator_circuit, the_bit}
use Rattle.law_blasting.specs.Refusals.{first_refusal, is_connective, term_refusal, type_refusal}

-- a Boolean term that has this truth
pub record IsBit (J : Interpretation) (u : PlainTerm) (b : Bool) : Type 0 where
  pub typed : Typed u BoolType
  pub value : meaning J u ≡ BoolValue b

-- gates that are terms have in every interpretation the truth that gates give which compute at once
abbrev pub TermGatesPass : Type 0
TermGatesPass = (J : Interpretation) → Passes term_gates truth_gates (IsBit J)

-- so have circuits of such gates
abbrev pub TermCircuitsPass : Type 0
TermCircuitsPass = (J : Interpretation) → CircuitsPass term_gates truth_gates (IsBit J)

-- and so has the circuit of each operator
abbrev pub OperatorCircuitsPass : Type 0
OperatorCircuitsPass =
    (J : Interpretation) (o : PlainOp) (uss : List (List PlainTerm)) (bss : List (List Bool)) → Related (Related (IsBit J)) uss bss →
    Related (IsBit J) (operator_circuit term_gates o uss) (operator_circuit truth_gates o bss)

-- blasted terms are typed as Booleans, as many as the old term's type has bits
abbrev pub BlastedTermsAreTyped : Type 0
BlastedTermsAreTyped =
    (vs : Variables) (t : PlainTerm) → IsTrue (typed t) → IsFormed t → term_refusal t ≡ None → AreNumbered vs t →
    AreBoolean (blasted vs t) × (length (blasted vs t) ≡ bits_in (type_of t))

-- the values of blasted terms are the bits of the old term's value
abbrev pub AreItsBits : Variables → Interpretation → PlainTerm → Type 0
AreItsBits vs I t = map (term_value (bits vs I)) (blasted vs t) ≡ map BoolValue (value_bits (type_of t) (term_value I t))

-- blasted terms have in each interpretation of the old term the bits of its value
abbrev pub BlastKeepsValues : Type 0
BlastKeepsValues =
    (enums : Enums) (vs : Variables) (I : Interpretation) (t : PlainTerm) → IsTrue (typed t) → IsFormed t → term_refusal t ≡ None →
    AreNumbered vs t → IsInterpretation enums (t ∷ []) I → AreItsBits vs I t

-- the one new term of an old term that is a Boolean
abbrev pub root : Variables → PlainTerm → PlainTerm
root vs t = the_bit term_gates (blasted vs t)

-- alone, a Boolean, and of the old term's value
pub record IsItsRoot (vs : Variables) (I : Interpretation) (t : PlainTerm) : Type 0 where
  pub alone : blasted vs t ≡ root vs t ∷ []
  pub typed : Typed (root vs t) BoolType
  pub value : term_value (bits vs I) (root vs t) ≡ term_value I t

-- the new term of a Boolean old one stands alone, is a Boolean, and has the old one's value in each interpretation of it
abbrev pub RootsKeepValues : Type 0
RootsKeepValues =
    (enums : Enums) (vs : Variables) (I : Interpretation) (t : PlainTerm) → Typed t BoolType → IsFormed t → term_refusal t ≡ None →
    AreNumbered vs t → IsInterpretation enums (t ∷ []) I → IsItsRoot vs I t

-- connectives of Booleans keep their form
abbrev pub FormsStay : Type 0
FormsStay =
    (vs : Variables) (o : PlainOp) (ts : List PlainTerm) → IsTrue (is_connective o) → IsTrue (typed (Application o (terms ts) BoolType)) →
    AreBoolean ts → AllByRecursion IsFormed ts → first_refusal ts ≡ None → AllByRecursion (AreNumbered vs) ts →
    blasted vs (Application o (terms ts) BoolType) ≡ Application o (terms (map (root vs) ts)) BoolType ∷ []

-- ---- one to one, and onto

-- variables of types that are blasted
abbrev pub AreSupported : Variables → Type 0
AreSupported vs = AllByRecursion (λ v. type_refusal v.1 ≡ None) vs

-- each variable of the list stands once
abbrev pub AreDistinct : Variables → Type 0
AreDistinct [] = ⊤
AreDistinct (v ∷ vs) = IsFalse (is_among vs v) × AreDistinct vs

-- each text of the list stands once
abbrev pub AreDistinctNames : List (List ℕ) → Type 0
AreDistinctNames [] = ⊤
AreDistinctNames (n ∷ names) = IsFalse (list_any (bytes_eq n) names) × AreDistinctNames names

-- the names of the new variables differ
abbrev pub NewNamesDiffer : Type 0
NewNamesDiffer = (vs : Variables) → AreDistinctNames (all_names 0 vs)

-- the interpretation gives each old variable a value of its type
abbrev pub GivesValues : Enums → Variables → Interpretation → Type 0
GivesValues enums vs I = AllByRecursion (λ v. IsValue enums v.1 (I.variable v.0 v.1)) vs

-- the interpretation gives each new variable a Boolean
abbrev pub GivesBooleans : Enums → Variables → Interpretation → Type 0
GivesBooleans enums vs J = AllByRecursion (λ name. IsValue enums BoolType (J.variable name BoolType)) (all_names 0 vs)

-- two interpretations give the old variables the same
abbrev pub AgreeOnOld : Variables → Interpretation → Interpretation → Type 0
AgreeOnOld vs I K = AllByRecursion (λ v. I.variable v.0 v.1 ≡ K.variable v.0 v.1) vs

-- two interpretations give the new variables the same
abbrev pub AgreeOnNew : Variables → Interpretation → Interpretation → Type 0
AgreeOnNew vs J K = AllByRecursion (λ name. J.variable name BoolType ≡ K.variable name BoolType) (all_names 0 vs)

-- the bits of an interpretation are an interpretation of the new variables
abbrev pub BitsAreBooleans : Type 0
BitsAreBooleans = (enums : Enums) (vs : Variables) (I : Interpretation) → GivesBooleans enums vs (bits vs I)

-- two interpretations of the old variables that have the same bits give the old variables the same
abbrev pub BitsAreOneToOne : Type 0
BitsAreOneToOne =
    (enums : Enums) (vs : Variables) (I K : Interpretation) → AreSupported vs → GivesValues enums vs I → GivesValues enums vs K →
    AgreeOnNew vs (bits vs I) (bits vs K) → AgreeOnOld vs I K

-- every interpretation of the new variables is the bits of one of the old, which gives values of their types
abbrev pub BitsAreOnto : Type 0
BitsAreOnto =
    (enums : Enums) (vs : Variables) (J : Interpretation) → AreSupported vs → AreDistinct vs → GivesBooleans enums vs J →
    GivesValues enums vs (unbits vs J) × AgreeOnNew vs (bits vs (unbits vs J)) J
