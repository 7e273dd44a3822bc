-- Boolean terms over given variables alone, and that blasted terms are such terms over the new variables.
use Rattle.std.specs.Prelude.{◌≡◌, bytes_eq, ℕ, List, [], ◌∷◌, None, IsTrue, ⊤}
use Rattle.std.specs.List.{AllByRecursion, list_any}
use Rattle.law_terms.specs.Faults.{first_fault}
use Rattle.law_terms.specs.Formed.{IsFormed}
use Rattle.law_terms.specs.Interpretations.{IsInterpretation}
use Rattle.law_terms.specs.Reached.{subterms}
use Rattle.law_terms.specs.Tables.{Interpretation}
use Rattle.law_terms.specs.TypeValues.{Enums}
use Rattle.law_terms.specs.Plain.{BoolType, BoolLiteral, PlainTerm, Application, LiteralTerm, VariableTerm}
use Rattle.law_blasting.specs.Blasted.{Variables, AreNumbered, all_names, blasted}
use Rattle.law_blasting.specs.Laws.{GivesBooleans}
use Rattle.law_blasting.specs.Refusals.{is_connective, term_refusal}

-- one term by itself: a connective, a Boolean literal, or a variable of one of these names
abbrev pub IsBooleanNode : List (List ℕ) → PlainTerm → Type 0
IsBooleanNode names (Application o ts t) = IsTrue (is_connective o) × (t ≡ BoolType)
IsBooleanNode names (LiteralTerm (BoolLiteral b)) = ⊤
IsBooleanNode names (VariableTerm name t) = IsTrue (list_any (bytes_eq name) names) × (t ≡ BoolType)
IsBooleanNode names u = ⊥

-- a term all of whose subterms are such: a Boolean term over these variables alone
abbrev pub IsBooleanOver : List (List ℕ) → PlainTerm → Type 0
IsBooleanOver names u = AllByRecursion (IsBooleanNode names) (subterms u)

-- blasted terms are Boolean terms over the new variables alone
abbrev pub NewTermsAreBoolean : Type 0
NewTermsAreBoolean =
    (vs : Variables) (t : PlainTerm) → term_refusal t ≡ None → AreNumbered vs t →
    AllByRecursion (IsBooleanOver (all_names 0 vs)) (blasted vs t)

-- Boolean terms over variables are formed
abbrev pub BooleanTermsAreFormed : Type 0
BooleanTermsAreFormed = (names : List (List ℕ)) (u : PlainTerm) → IsBooleanOver names u → IsFormed u

-- they have no fault, whatever enum types there are
abbrev pub BooleanTermsHaveNoFault : Type 0
BooleanTermsHaveNoFault =
    (enums : Enums) (names : List (List ℕ)) (u : PlainTerm) → IsBooleanOver names u → first_fault enums (u ∷ []) ≡ None

-- they ask of an interpretation only that it gives the variables Booleans
abbrev pub BooleansInterpret : Type 0
BooleansInterpret =
    (enums : Enums) (vs : Variables) (J : Interpretation) (u : PlainTerm) → IsBooleanOver (all_names 0 vs) u → GivesBooleans enums vs J →
    IsInterpretation enums (u ∷ []) J
