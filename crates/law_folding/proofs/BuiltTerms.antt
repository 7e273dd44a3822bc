-- What is built for a typed term stands for it.
use Rattle.std.proofs.Common.{◌≡◌, ℕ, ◌+◌, Bool, true, ◌&&◌, List, [], ◌∷◌, refl, ap, subst}
use Rattle.std.specs.Prelude.{nat_le}
use Rattle.std.specs.Bool.{then_some}
use Rattle.std.specs.Option.{unwrap_or}
use Rattle.std.specs.Cmp.{first_so, second_so}
use Rattle.std.specs.List.{AllZip}
use Rattle.law_terms.specs.Plain.{PlainType, OptionType, BitVecType, BoolType, PlainOp, AndOp, BvnegOp, BvnegoOp, EqOp, ExtOp, IteOp, NotOp, OptionGetOp, OrOp, RecordGetOp, SetInterOp, SetMemberOp, SetSubsetOp, StringLikeOp, ZeroExtendOp, PlainTerm, Application, NoneTerm, LiteralTerm, RecordTerm, SetTerm, SomeTerm, VariableTerm, PlainTerms, no_terms, one_term, PlainFields, no_fields, one_field, list_of_terms, terms, BitsOp, TestOp, OverflowOp}
use Rattle.law_terms.specs.TermSets.{set_term}
use Rattle.law_terms.specs.Types.{attribute_type, extended_type, extension_signature, inner_type, is_type, result_type, type_of, types_of}
use Rattle.law_terms.specs.Typing.{are_elements, typed, typed_all, typed_fields}
use Rattle.law_terms.proofs.Soundness.{is_type-some}
use Rattle.law_terms.proofs.TypeOrder.{eq_same}
use Rattle.law_folding.specs.Applications.{type_at, type_inside, wider_type}
use Rattle.law_folding.specs.Built.{built, built_all, built_fields, folded}
use Rattle.law_folding.specs.FoldBits.{folded_zero_extend}
use Rattle.law_folding.specs.FoldOptions.{folded_option_get}
use Rattle.law_folding.specs.FoldRecords.{folded_record_get}
use Rattle.law_folding.specs.Refinement.{Refines, FieldsRefine}
use Rattle.law_folding.proofs.BitsStand.{stands_bits, stands_bvneg, stands_bvnego, stands_overflow, stands_test, stands_zero_extend}
use Rattle.law_folding.proofs.ConnectivesStand.{chosen_type, stands_and, stands_not, stands_or}
use Rattle.law_folding.proofs.EqualityStands.{stands_eq, stands_ite}
use Rattle.law_folding.proofs.ExtensionsStand.{stands_extension}
use Rattle.law_folding.proofs.OptionsStand.{stands_option_get}
use Rattle.law_folding.proofs.Records.{fields}
use Rattle.law_folding.proofs.RecordsStand.{stands_record_get}
use Rattle.law_folding.proofs.SetLists.{set_again}
use Rattle.law_terms.proofs.Listed.{listed_again}
use Rattle.law_folding.proofs.SetsKept.{set_kept}
use Rattle.law_folding.proofs.SetsStand.{stands_set_inter, stands_set_member, stands_set_subset}
use Rattle.law_folding.proofs.Standing.{application, itself, onward, same_type, some}
use Rattle.law_folding.proofs.StringsStand.{stands_string_like}

-- ---- one application

-- a typed application has the type that its operator gives
with_type : (o : PlainOp) (ts : List PlainTerm) (b : Bool) (r ty : PlainType) (x : PlainTerm) → (typed_all (terms ts) && is_type (then_some b r) ty) ≡ true → Refines x (Application o (terms ts) r) → Refines x (Application o (terms ts) ty)
with_type o ts b r ty x h s = subst (λ (u : PlainType). Refines x (Application o (terms ts) u)) (chosen_type b r ty (second_so (typed_all (terms ts)) (is_type (then_some b r) ty) h)).1 s

wider : (k : ℕ) (u ty : PlainType) → is_type (extended_type k u) ty ≡ true → wider_type k u ≡ ty
wider k (BitVecType n) ty h = (chosen_type (nat_le (n + k) 128) (BitVecType (n + k)) ty h).1
wider k u ty h = cc

held : (u ty : PlainType) → is_type (inner_type u) ty ≡ true → type_inside u ≡ ty
held (OptionType t) ty h = eq_same t ty h
held u ty h = cc

attribute_at : (x : List ℕ) (u ty : PlainType) → is_type (attribute_type x u) ty ≡ true → type_at x u ≡ ty
attribute_at x u ty h = ap (λ o. unwrap_or o u) (is_type-some (attribute_type x u) ty h)

pub folded_stands : (o : PlainOp) (ts : List PlainTerm) (ty : PlainType) → typed (Application o (terms ts) ty) ≡ true → Refines (folded o ts ty) (Application o (terms ts) ty)
folded_stands NotOp (t ∷ []) ty h = with_type NotOp (t ∷ []) _ BoolType ty _ h (stands_not t)
folded_stands AndOp (t ∷ u ∷ []) ty h = with_type AndOp (t ∷ u ∷ []) _ BoolType ty _ h (stands_and t u)
folded_stands OrOp (t ∷ u ∷ []) ty h = with_type OrOp (t ∷ u ∷ []) _ BoolType ty _ h (stands_or t u)
folded_stands EqOp (t ∷ u ∷ []) ty h = with_type EqOp (t ∷ u ∷ []) _ BoolType ty _ h (stands_eq t u)
folded_stands IteOp (g ∷ t ∷ u ∷ []) ty h = with_type IteOp (g ∷ t ∷ u ∷ []) _ (type_of t) ty _ h (stands_ite g t u)
folded_stands BvnegOp (t ∷ []) ty h = with_type BvnegOp (t ∷ []) _ (type_of t) ty _ h (stands_bvneg t)
folded_stands (BitsOp o) (t ∷ u ∷ []) ty h = with_type (BitsOp o) (t ∷ u ∷ []) _ (type_of t) ty _ h (stands_bits o t u)
folded_stands (TestOp o) (t ∷ u ∷ []) ty h = with_type (TestOp o) (t ∷ u ∷ []) _ BoolType ty _ h (stands_test o t u)
folded_stands (OverflowOp o) (t ∷ u ∷ []) ty h = with_type (OverflowOp o) (t ∷ u ∷ []) _ BoolType ty _ h (stands_overflow o t u)
folded_stands BvnegoOp (t ∷ []) ty h = with_type BvnegoOp (t ∷ []) _ BoolType ty _ h (stands_bvnego t)
folded_stands (ZeroExtendOp k) (t ∷ []) ty h =
    subst (λ (r : PlainType). Refines (folded_zero_extend k t) (Application (ZeroExtendOp k) (terms (t ∷ [])) r)) (wider k (type_of t) ty (second_so (typed_all (terms (t ∷ []))) (is_type (extended_type k (type_of t)) ty) h)) (stands_zero_extend k t)
folded_stands SetMemberOp (t ∷ u ∷ []) ty h = with_type SetMemberOp (t ∷ u ∷ []) _ BoolType ty _ h (stands_set_member t u)
folded_stands SetSubsetOp (t ∷ u ∷ []) ty h = with_type SetSubsetOp (t ∷ u ∷ []) _ BoolType ty _ h (stands_set_subset t u)
folded_stands SetInterOp (t ∷ u ∷ []) ty h = with_type SetInterOp (t ∷ u ∷ []) _ (type_of t) ty _ h (stands_set_inter t u)
folded_stands OptionGetOp (t ∷ []) ty h =
    subst (λ (r : PlainType). Refines (folded_option_get t) (Application OptionGetOp (terms (t ∷ [])) r)) (held (type_of t) ty (second_so (typed_all (terms (t ∷ []))) (is_type (inner_type (type_of t)) ty) h)) (stands_option_get t)
folded_stands (RecordGetOp x) (t ∷ []) ty h =
    subst (λ (r : PlainType). Refines (folded_record_get t x) (Application (RecordGetOp x) (terms (t ∷ [])) r)) (attribute_at x (type_of t) ty (second_so (typed_all (terms (t ∷ []))) (is_type (attribute_type x (type_of t)) ty) h)) (stands_record_get t x)
folded_stands (ExtOp o) (t ∷ []) ty h = with_type (ExtOp o) (t ∷ []) _ (extension_signature o).1 ty _ h (stands_extension o t)
folded_stands (StringLikeOp p) (t ∷ []) ty h = with_type (StringLikeOp p) (t ∷ []) _ BoolType ty _ h (stands_string_like t p)
folded_stands o ts ty h = itself (Application o (terms ts) ty)

-- ---- whole terms

-- folding an application whose arguments stand for others
onto : (o : PlainOp) (bs : List PlainTerm) (ts : PlainTerms) (ty : PlainType) → typed (Application o ts ty) ≡ true → AllZip Refines bs (list_of_terms ts) → Refines (folded o bs ty) (Application o ts ty)
onto o bs ts ty h zip =
    let same = subst (λ (us : PlainTerms). Refines (Application o (terms bs) ty) (Application o us ty)) (listed_again ts) (application o bs (list_of_terms ts) ty zip) in
    onward (folded o bs ty) (Application o (terms bs) ty) (Application o ts ty) (folded_stands o bs ty (same_type (Application o (terms bs) ty) (Application o ts ty) same h).0) same

mutual
  pub built_stands : (t : PlainTerm) → typed t ≡ true → Refines (built t) t
  built_stands (Application o ts ty) h = onto o (built_all ts) ts ty h (all_built_stand ts (first_so (typed_all ts) (is_type (result_type o (types_of ts)) ty) h))
  built_stands (NoneTerm ty) h = itself (NoneTerm ty)
  built_stands (LiteralTerm l) h = itself (LiteralTerm l)
  built_stands (RecordTerm fs) h = fields (built_fields fs) fs (fields_built_stand fs h)
  built_stands (SetTerm ty ts) h =
      subst (λ (u : PlainTerm). Refines (set_term ty (built_all ts)) u) (set_again ty ts h) (set_kept ty (built_all ts) (list_of_terms ts) (all_built_stand ts (first_so (typed_all ts) (are_elements ty ts) h)))
  built_stands (SomeTerm t) h = some (built t) t (built_stands t h)
  built_stands (VariableTerm id ty) h = itself (VariableTerm id ty)

  all_built_stand : (ts : PlainTerms) → typed_all ts ≡ true → AllZip Refines (built_all ts) (list_of_terms ts)
  all_built_stand no_terms h = tt
  all_built_stand (one_term t ts) h = (built_stands t (first_so (typed t) (typed_all ts) h), all_built_stand ts (second_so (typed t) (typed_all ts) h))

  fields_built_stand : (fs : PlainFields) → typed_fields fs ≡ true → FieldsRefine (built_fields fs) fs
  fields_built_stand no_fields h = tt
  fields_built_stand (one_field a t fs) h = (refl, built_stands t (first_so (typed t) (typed_fields fs) h), fields_built_stand fs (second_so (typed t) (typed_fields fs) h))
