-- What the factory builds for a whole term: each application is folded, its arguments first, and the elements of each set
-- are put in order anew.
use Rattle.std.specs.Prelude.{◌≡◌, IsTrue, List, [], ◌∷◌, None}
use Rattle.law_folding.specs.FoldBits.{folded_bits, folded_bvneg, folded_bvnego, folded_overflow, folded_test, folded_zero_extend}
use Rattle.law_folding.specs.FoldConnectives.{folded_not, folded_and, folded_or}
use Rattle.law_folding.specs.FoldEquality.{folded_eq, folded_ite}
use Rattle.law_folding.specs.FoldExtensions.{folded_extension}
use Rattle.law_folding.specs.FoldOptions.{folded_option_get}
use Rattle.law_folding.specs.FoldRecords.{folded_record_get}
use Rattle.law_folding.specs.FoldSets.{folded_set_member, folded_set_subset, folded_set_inter}
use Rattle.law_folding.specs.FoldStrings.{folded_string_like}
use Rattle.law_folding.specs.Refinement.{Refines}
use Rattle.law_terms.specs.Faults.{term_fault}
use Rattle.law_terms.specs.Plain.{PlainType, PlainOp, AndOp, BvnegOp, BvnegoOp, EqOp, ExtOp, IteOp, NotOp, OptionGetOp, OrOp, RecordGetOp}
use Rattle.law_terms.specs.Plain.{SetInterOp, SetMemberOp, SetSubsetOp, StringLikeOp, ZeroExtendOp, PlainTerm, Application, NoneTerm}
use Rattle.law_terms.specs.Plain.{LiteralTerm, RecordTerm, SetTerm, SomeTerm, VariableTerm, PlainTerms, no_terms, one_term, PlainFields}
use Rattle.law_terms.specs.Plain.{no_fields, one_field, terms, BitsOp, TestOp, OverflowOp}
use Rattle.law_terms.specs.TermSets.{set_term}
use Rattle.law_terms.specs.Typing.{typed}
use Rattle.law_terms.specs.TypeValues.{Enums}

-- An operator at arguments that are built already, with the type that was claimed: what the call of the operator gives. An
-- operator that no call folds (an uninterpreted function), and one at a wrong number of arguments, stays an application.
abbrev pub folded : PlainOp → List PlainTerm → PlainType → PlainTerm
folded NotOp (t ∷ []) ty = folded_not t
folded AndOp (t ∷ u ∷ []) ty = folded_and t u
folded OrOp (t ∷ u ∷ []) ty = folded_or t u
folded EqOp (t ∷ u ∷ []) ty = folded_eq t u
folded IteOp (g ∷ t ∷ u ∷ []) ty = folded_ite g t u
folded BvnegOp (t ∷ []) ty = folded_bvneg t
folded (BitsOp o) (t ∷ u ∷ []) ty = folded_bits o t u
folded (TestOp o) (t ∷ u ∷ []) ty = folded_test o t u
folded (OverflowOp o) (t ∷ u ∷ []) ty = folded_overflow o t u
folded BvnegoOp (t ∷ []) ty = folded_bvnego t
folded (ZeroExtendOp k) (t ∷ []) ty = folded_zero_extend k t
folded SetMemberOp (t ∷ u ∷ []) ty = folded_set_member t u
folded SetSubsetOp (t ∷ u ∷ []) ty = folded_set_subset t u
folded SetInterOp (t ∷ u ∷ []) ty = folded_set_inter t u
folded OptionGetOp (t ∷ []) ty = folded_option_get t
folded (RecordGetOp x) (t ∷ []) ty = folded_record_get t x
folded (ExtOp o) (t ∷ []) ty = folded_extension o t
folded (StringLikeOp p) (t ∷ []) ty = folded_string_like t p
folded o ts ty = Application o (terms ts) ty

abbrev mutual
  -- What is built for a whole term: parts first, and then the call of the operator. `(and b (not (not b)))` is `b`. A set's elements
  -- are put in order anew, since what is built of two of them may be one term.
  pub built : PlainTerm → PlainTerm
  built (Application o ts ty) = folded o (built_all ts) ty
  built (NoneTerm ty) = NoneTerm ty
  built (LiteralTerm l) = LiteralTerm l
  built (RecordTerm fs) = RecordTerm (built_fields fs)
  built (SetTerm ty ts) = set_term ty (built_all ts)
  built (SomeTerm t) = SomeTerm (built t)
  built (VariableTerm id ty) = VariableTerm id ty

  -- what is built for each term of a list
  pub built_all : PlainTerms → List PlainTerm
  built_all no_terms = []
  built_all (one_term t ts) = built t ∷ built_all ts

  -- what is built for the term of each field, under the same attribute
  pub built_fields : PlainFields → PlainFields
  built_fields no_fields = no_fields
  built_fields (one_field a t fs) = one_field a (built t) (built_fields fs)

-- what is built for a typed term stands for it
abbrev pub BuiltTermsRefine : Type 0
BuiltTermsRefine = (t : PlainTerm) → IsTrue (typed t) → Refines (built t) t

-- what is built for a typed term without fault has no fault
abbrev pub FoldingAddsNoFault : Type 0
FoldingAddsNoFault = (enums : Enums) (t : PlainTerm) → IsTrue (typed t) → term_fault enums t ≡ None → term_fault enums (built t) ≡ None
