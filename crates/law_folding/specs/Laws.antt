-- Laws of standing for an application, and that each folding stands for the application that it was asked for.
use Rattle.std.specs.Prelude.{◌≡◌, ◌↔◌, ℕ, ◌^◌, ◌<◌, Bool, List, [], ◌∷◌, map, IsTrue, Some}
use Rattle.std.specs.List.{AllByRecursion, AllZip, list_any}
use Rattle.law_numbers.specs.BitOperators.{BitsOperator, TestOperator, OverflowOperator}
use Rattle.law_folding.specs.AppOf.{IsAppOf}
use Rattle.law_folding.specs.Applications.{truth_literal, bits_literal, not_of, and_of, or_of, eq_of, ite_of, bvneg_of, bits_of_two}
use Rattle.law_folding.specs.Applications.{test_of_two, bvnego_of, zero_extend_of, string_like_of, set_member_of, set_subset_of}
use Rattle.law_folding.specs.Applications.{set_inter_of, option_get_of, record_get_of, extension_of}
use Rattle.law_folding.specs.Builder.{applied, folding}
use Rattle.law_folding.specs.Composites.{any_none, any_of, if_all_some, if_false, if_some, if_true, implies, is_none, is_some}
use Rattle.law_folding.specs.Composites.{set_intersects, set_is_empty}
use Rattle.law_folding.specs.FoldBits.{folded_bits, folded_bvneg, folded_bvnego, folded_overflow, folded_test, folded_zero_extend}
use Rattle.law_folding.specs.FoldConnectives.{folded_not, folded_and, folded_or}
use Rattle.law_folding.specs.FoldEquality.{folded_eq, folded_ite}
use Rattle.law_folding.specs.FoldExtensions.{folded_extension}
use Rattle.law_folding.specs.FoldFunctions.{app_of, folded_app}
use Rattle.law_folding.specs.FoldOptions.{folded_option_get}
use Rattle.law_folding.specs.FoldRecords.{folded_record_get}
use Rattle.law_folding.specs.FoldSets.{folded_set_member, folded_set_subset, folded_set_inter}
use Rattle.law_folding.specs.FoldStrings.{folded_string_like}
use Rattle.law_folding.specs.Refinement.{Refines, FieldsRefine}
use Rattle.law_terms.specs.Formed.{IsFormed}
use Rattle.law_terms.specs.Functions.{PlainUnary, HasLiteralKeys, IsTypedFunction, argument_type, defining_terms}
use Rattle.law_terms.specs.Interpretations.{IsInterpretation}
use Rattle.law_terms.specs.Literals.{is_literal}
use Rattle.law_terms.specs.Meaning.{term_value}
use Rattle.law_terms.specs.Operators.{attribute_value, truth, apply}
use Rattle.law_terms.specs.Tables.{Interpretation}
use Rattle.law_terms.specs.TermSets.{set_term}
use Rattle.law_terms.specs.Types.{attribute_type, type_of}
use Rattle.law_terms.specs.Typing.{typed, Typed, AreBoolean}
use Rattle.law_terms.specs.TypeValues.{Enums}
use Rattle.law_terms.specs.Plain.{PlainType, BitVecType, BoolType, ExtensionOp, PatternPart, PlainOp, PlainTerm, Application, RecordTerm}
use Rattle.law_terms.specs.Plain.{SomeTerm, PlainFields, terms, BitsOp, TestOp, OverflowOp}
use Rattle.law_terms.specs.Values.{BoolValue, BitVecValue}

-- standing for is an order that applications, `some`, records and sets keep, and the tests for none and for the empty set
pub record RefinementIsKept : Type 0 where
  pub itself : (t : PlainTerm) → Refines t t
  pub onward : (t u w : PlainTerm) → Refines t u → Refines u w → Refines t w
  pub application : (o : PlainOp) (ts us : List PlainTerm) (ty : PlainType) → AllZip Refines ts us →
      Refines (Application o (terms ts) ty) (Application o (terms us) ty)
  pub some : (t u : PlainTerm) → Refines t u → Refines (SomeTerm t) (SomeTerm u)
  pub fields : (fs gs : PlainFields) → FieldsRefine fs gs → Refines (RecordTerm fs) (RecordTerm gs)
  pub set : (ty : PlainType) (ts us : List PlainTerm) → AllZip Refines ts us → Refines (set_term ty ts) (set_term ty us)
  pub is_none : (t u : PlainTerm) → Refines t u → Refines (is_none applied t) (is_none applied u)
  pub is_empty : (t u : PlainTerm) → Refines t u → Refines (set_is_empty applied t) (set_is_empty applied u)

-- an interpretation of terms is one of the terms that stand for them
abbrev pub InterpretationsPass : Type 0
InterpretationsPass =
    (enums : Enums) (I : Interpretation) (ts us : List PlainTerm) → AllZip Refines ts us → IsInterpretation enums us I →
    IsInterpretation enums ts I

-- formed and typed terms have in every interpretation the values of the terms that stand for them
abbrev pub ValuesPass : Type 0
ValuesPass =
    (enums : Enums) (I : Interpretation) (ts us : List PlainTerm) → AllZip Refines ts us → AllByRecursion IsFormed us →
    AllByRecursion (λ u. IsTrue (typed u)) us → IsInterpretation enums us I → map (term_value I) ts ≡ map (term_value I) us

-- two literals of one type are equal exactly where their values are
abbrev pub LiteralsAreEqualByValue : Type 0
LiteralsAreEqualByValue =
    (I : Interpretation) (t u : PlainTerm) (ty : PlainType) → IsTrue (is_literal t) → IsTrue (is_literal u) → Typed t ty → Typed u ty →
    IsFormed t → IsFormed u → (t ≡ u) ↔ (term_value I t ≡ term_value I u)

-- what the folding of each connective gives stands for the application that is asked for
pub record ConnectivesAreFolded : Type 0 where
  pub not : (t : PlainTerm) → Refines (folded_not t) (not_of t)
  pub and : (t u : PlainTerm) → Refines (folded_and t u) (and_of t u)
  pub or : (t u : PlainTerm) → Refines (folded_or t u) (or_of t u)
  pub implies : (t u : PlainTerm) → Refines (implies folding t u) (implies applied t u)
  pub any : (ts us : List PlainTerm) → AllZip Refines ts us → Refines (any_of folding ts) (any_of applied us)

-- the disjunction of Boolean terms is true in an interpretation exactly where one of them is; of none it is false
abbrev pub AnyIsTrue : Type 0
AnyIsTrue =
    (I : Interpretation) (ts : List PlainTerm) → AreBoolean ts →
    term_value I (any_of applied ts) ≡ BoolValue (list_any (λ t. truth (term_value I t)) ts)

-- what the foldings of equality and choice give stands for the application that is asked for
pub record EqualityAndChoiceAreFolded : Type 0 where
  pub eq : (t u : PlainTerm) → Refines (folded_eq t u) (eq_of t u)
  pub ite : (g t u : PlainTerm) → Refines (folded_ite g t u) (ite_of g t u)

-- what the foldings of operators from bits to bits give stands for the application that is asked for
pub record BitsAreFolded : Type 0 where
  pub bvneg : (t : PlainTerm) → Refines (folded_bvneg t) (bvneg_of t)
  pub bits : (o : BitsOperator) (t u : PlainTerm) → Refines (folded_bits o t u) (bits_of_two (BitsOp o) t u)
  pub zero_extend : (k : ℕ) (t : PlainTerm) → Refines (folded_zero_extend k t) (zero_extend_of k t)

-- what the foldings of comparisons and overflow tests give stands for the application that is asked for
pub record TestsAreFolded : Type 0 where
  pub test : (o : TestOperator) (t u : PlainTerm) → Refines (folded_test o t u) (test_of_two (TestOp o) t u)
  pub overflow : (o : OverflowOperator) (t u : PlainTerm) → Refines (folded_overflow o t u) (test_of_two (OverflowOp o) t u)
  pub bvnego : (t : PlainTerm) → Refines (folded_bvnego t) (bvnego_of t)

-- what the folding of a match of a string with a pattern gives stands for the application that is asked for
abbrev pub StringLikeIsFolded : Type 0
StringLikeIsFolded = (t : PlainTerm) (p : List PatternPart) → Refines (folded_string_like t p) (string_like_of t p)

-- what each call on sets gives stands for the term that is asked for
pub record SetsAreFolded : Type 0 where
  pub set_member : (t u : PlainTerm) → Refines (folded_set_member t u) (set_member_of t u)
  pub set_subset : (t u : PlainTerm) → Refines (folded_set_subset t u) (set_subset_of t u)
  pub set_inter : (t u : PlainTerm) → Refines (folded_set_inter t u) (set_inter_of t u)
  pub set_is_empty : (t : PlainTerm) → Refines (set_is_empty folding t) (set_is_empty applied t)
  pub set_intersects : (t u : PlainTerm) → Refines (set_intersects folding t u) (set_intersects applied t u)

-- what each call on options gives stands for the term that is asked for
pub record OptionsAreFolded : Type 0 where
  pub option_get : (t : PlainTerm) → Refines (folded_option_get t) (option_get_of t)
  pub is_none : (t : PlainTerm) → Refines (is_none folding t) (is_none applied t)
  pub is_some : (t : PlainTerm) → Refines (is_some folding t) (is_some applied t)
  pub if_false : (g t : PlainTerm) → Refines (if_false folding g t) (if_false applied g t)
  pub if_true : (g t : PlainTerm) → Refines (if_true folding g t) (if_true applied g t)
  pub if_some : (g t : PlainTerm) → Refines (if_some folding g t) (if_some applied g t)
  pub any_none : (gs : List PlainTerm) → Refines (any_none folding gs) (any_none applied gs)
  pub if_all_some : (gs : List PlainTerm) (t : PlainTerm) → Refines (if_all_some folding gs t) (if_all_some applied gs t)

-- An attribute of a record. Where a typed term has the attribute, what is given is typed with the attribute's type and has its
-- value, which is that of the record's attribute in every interpretation.
pub record RecordsAreFolded : Type 0 where
  pub record_get : (t : PlainTerm) (x : List ℕ) → Refines (folded_record_get t x) (record_get_of t x)
  pub type : (t : PlainTerm) (x : List ℕ) (ty : PlainType) → IsTrue (typed t) → attribute_type x (type_of t) ≡ Some ty →
      Typed (folded_record_get t x) ty
  pub value : (I : Interpretation) (t : PlainTerm) (x : List ℕ) (ty : PlainType) → IsTrue (typed t) →
      attribute_type x (type_of t) ≡ Some ty → term_value I (folded_record_get t x) ≡ attribute_value x (term_value I t)

-- what the foldings of the operators of extension types give stands for the application that is asked for
abbrev pub ExtensionsAreFolded : Type 0
ExtensionsAreFolded = (o : ExtensionOp) (t : PlainTerm) → Refines (folded_extension o t) (extension_of o t)

-- A function at a term, where the keys of its table are literals. Where the table and the argument are typed, the folding has the
-- function's value.
pub record FunctionsAreFolded : Type 0 where
  pub app : (f : PlainUnary) (t : PlainTerm) → HasLiteralKeys f → Refines (folded_app f t) (app_of f t)
  pub value : (f : PlainUnary) (t : PlainTerm) → HasLiteralKeys f → IsTypedFunction f → Typed t (argument_type f) →
      AllByRecursion IsFormed (t ∷ defining_terms f) → IsAppOf f t (folded_app f t)

-- what has the operator's value at two literals stands for the application, whoever computed it
pub record AnswersRefine : Type 0 where
  pub bits : (o : PlainOp) (n a b c : ℕ) → c < 2 ^ n →
      ((I : Interpretation) → apply I o (BitVecType n) (BitVecValue n a ∷ BitVecValue n b ∷ []) ≡ BitVecValue n c) →
      Refines (bits_literal n c) (bits_of_two o (bits_literal n a) (bits_literal n b))
  pub test : (o : PlainOp) (n a m b : ℕ) (c : Bool) →
      ((I : Interpretation) → apply I o BoolType (BitVecValue n a ∷ BitVecValue m b ∷ []) ≡ BoolValue c) →
      Refines (truth_literal c) (test_of_two o (bits_literal n a) (bits_literal m b))
