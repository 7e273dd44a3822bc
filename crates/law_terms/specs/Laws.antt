-- Laws of the definitions.
use Rattle.std.specs.Cmp.{IsTotalOrder}
use Rattle.std.specs.Prelude.{◌≡◌, ℕ, None, List, [], ◌∷◌, IsTrue, IsUtf8, IfSome, false, Decides}
use Rattle.std.specs.Ordering.{is_eq}
use Rattle.std.specs.Str.{chars}
use Rattle.law_terms.specs.ValueOrder.{text_cmp}
use Rattle.std.specs.List.{AllByRecursion}
use Rattle.law_terms.specs.Defaults.{default_interpretation}
use Rattle.law_terms.specs.Faults.{first_fault, term_fault, is_about_records}
use Rattle.law_terms.specs.Formed.{IsFormed}
use Rattle.law_terms.specs.Interpretations.{IsInterpretation, Agree, restrict, function_eq}
use Rattle.law_terms.specs.Meaning.{term_value}
use Rattle.law_terms.specs.Tables.{Interpretation}
use Rattle.law_terms.specs.TermOrder.{part_cmp, pattern_cmp, op_cmp, term_cmp, term_eq}
use Rattle.law_terms.specs.Types.{type_cmp, type_eq}
use Rattle.law_terms.specs.Typing.{typed, Typed, AreTyped}
use Rattle.law_terms.specs.TypeValues.{Enums, IsValue}
use Rattle.law_terms.specs.Plain.{PatternPart, PlainType, PlainFunction, PlainOp, PlainTerm}

-- a typed term without fault has in every interpretation a value of its type
abbrev pub TypedTermsHaveValues : Type 0
TypedTermsHaveValues =
    (enums : Enums) (I : Interpretation) (t : PlainTerm) (ty : PlainType) → Typed t ty → IsFormed t → first_fault enums (t ∷ []) ≡ None →
    IsInterpretation enums (t ∷ []) I → IsValue enums ty (term_value I t)

-- typed terms without fault have an interpretation: the one of default values
abbrev pub DefaultsAreInterpretations : Type 0
DefaultsAreInterpretations =
    (enums : Enums) (ts : List PlainTerm) → AreTyped ts → first_fault enums ts ≡ None →
    IsInterpretation enums ts (default_interpretation enums)

-- a value depends on nothing but what the term reaches
abbrev pub ReachedDecides : Type 0
ReachedDecides = (ts : List PlainTerm) (I J : Interpretation) → Agree ts I J → AllByRecursion (λ t. term_value I t ≡ term_value J t) ts

-- what is kept of an interpretation gives the same
abbrev pub RestrictionAgrees : Type 0
RestrictionAgrees = (ts : List PlainTerm) (I : Interpretation) → Agree ts I (restrict I ts)

-- texts in UTF-8 stand in the order of their code points
abbrev pub Utf8KeepsOrder : Type 0
Utf8KeepsOrder = (s t : List ℕ) → IsUtf8 s → IsUtf8 t → text_cmp s t ≡ text_cmp (chars s) (chars t)

-- a typed term has none of the four faults about records
abbrev pub TypedTermsGetAttributes : Type 0
TypedTermsGetAttributes = (enums : Enums) (t : PlainTerm) → IsTrue (typed t) → IfSome (term_fault enums t) (λ f. is_about_records f ≡ false)

-- the order of types is total
abbrev pub TypeOrderIsTotal : Type 0
TypeOrderIsTotal = IsTotalOrder type_cmp

-- the order of the parts of patterns is total
abbrev pub PartOrderIsTotal : Type 0
PartOrderIsTotal = IsTotalOrder part_cmp

-- the order of patterns is total
abbrev pub PatternOrderIsTotal : Type 0
PatternOrderIsTotal = IsTotalOrder pattern_cmp

-- the order of operators is total
abbrev pub OpOrderIsTotal : Type 0
OpOrderIsTotal = IsTotalOrder op_cmp

-- the order of terms is total
abbrev pub TermOrderIsTotal : Type 0
TermOrderIsTotal = IsTotalOrder term_cmp

-- the test of equality of types decides it
abbrev pub TypeEqualityIsDecided : Type 0
TypeEqualityIsDecided = (t u : PlainType) → Decides (type_eq t u) (t ≡ u)

-- the test of equality of functions decides it
abbrev pub FunctionEqualityIsDecided : Type 0
FunctionEqualityIsDecided = (f g : PlainFunction) → Decides (function_eq f g) (f ≡ g)

-- two parts of patterns are the same exactly where their order says so
abbrev pub PartEqualityIsDecided : Type 0
PartEqualityIsDecided = (x y : PatternPart) → Decides (is_eq (part_cmp x y)) (x ≡ y)

-- two patterns are the same exactly where their order says so
abbrev pub PatternEqualityIsDecided : Type 0
PatternEqualityIsDecided = (p q : List PatternPart) → Decides (is_eq (pattern_cmp p q)) (p ≡ q)

-- two operators are the same exactly where their order says so
abbrev pub OpEqualityIsDecided : Type 0
OpEqualityIsDecided = (o p : PlainOp) → Decides (is_eq (op_cmp o p)) (o ≡ p)

-- the test of equality of terms decides it
abbrev pub TermEqualityIsDecided : Type 0
TermEqualityIsDecided = (t u : PlainTerm) → Decides (term_eq t u) (t ≡ u)
