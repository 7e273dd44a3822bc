-- The foldings, at terms that stand for others, stand for the applications to those.
use Rattle.std.proofs.Common.{◌≡◌, ℕ, ◌==◌, Bool, true, false, List, [], ◌∷◌, refl, ap, ◌∙◌, sym, subst}
use Rattle.std.specs.Prelude.{cond, option_map, Option, Some, None}
use Rattle.std.specs.Cmp.{first_so, second_so}
use Rattle.std.specs.List.{AllByRecursion}
use Rattle.std.specs.Option.{unwrap_or}
use Rattle.law_numbers.specs.BitVectors.{signed}
use Rattle.law_folding.specs.Applications.{bits_literal, bits_of_two, bvneg_of, extension_of, ite_of, option_get_of, record_get_of, test_of_two, type_at, type_inside, wider_type, zero_extend_of}
use Rattle.law_folding.specs.Builder.{applied, folding}
use Rattle.law_folding.specs.Composites.{is_none, set_is_empty}
use Rattle.law_folding.specs.Congruence.{Congruence, RefinesWithType}
use Rattle.law_folding.specs.FoldBits.{folded_bits, folded_bvneg, folded_bvnego, folded_overflow, folded_test, folded_zero_extend}
use Rattle.law_folding.specs.FoldConnectives.{folded_and, folded_not, folded_or}
use Rattle.law_folding.specs.FoldEquality.{folded_eq, folded_ite}
use Rattle.law_folding.specs.FoldExtensions.{extension_literal, folded_extension, prefix_literal}
use Rattle.law_folding.specs.FoldOptions.{folded_option_get}
use Rattle.law_folding.specs.FoldRecords.{field_in, folded_record_get}
use Rattle.law_folding.specs.FoldSets.{folded_set_inter, folded_set_member, folded_set_subset}
use Rattle.law_folding.specs.FoldStrings.{folded_string_like}
use Rattle.law_folding.specs.Refinement.{Refines}
use Rattle.law_folding.proofs.BitsStand.{stands_bits, stands_bvneg, stands_bvnego, stands_overflow, stands_test, stands_zero_extend}
use Rattle.law_folding.proofs.ConnectivesStand.{stands_and, stands_not, stands_or}
use Rattle.law_folding.proofs.EqualityStands.{stands_eq, stands_ite}
use Rattle.law_folding.proofs.ExtensionsStand.{stands_extension}
use Rattle.law_folding.proofs.OptionsStand.{none_kept, stands_is_none, stands_option_get}
use Rattle.law_folding.proofs.Records.{HasFormedType}
use Rattle.law_folding.proofs.RecordsStand.{stands_record_get, type_found}
use Rattle.law_folding.proofs.SetsStand.{empty_kept, stands_set_inter, stands_set_is_empty, stands_set_member, stands_set_subset}
use Rattle.law_folding.proofs.Standing.{application, application_by_arguments, last_of, onward, same_type}
use Rattle.law_folding.proofs.StringsStand.{stands_string_like}
use Rattle.law_folding.proofs.TypeTests.{stands_never}
use Rattle.law_terms.specs.Formed.{IsFormedType}
use Rattle.law_terms.specs.Plain.{PlainType, OptionType, BitVecType, BoolType, RecordType, ExtensionOp, DatetimeOfBitVecOp, DatetimeValOp, DecimalValOp, DurationOfBitVecOp, DurationValOp, IpAddrV4Op, IpAddrV6Op, IpIsV4Op, IpPrefixV4Op, IpPrefixV6Op, DecimalOf, Ipv4Of, Ipv6Of, DatetimeOf, DurationOf, BitVecLiteral, ExtensionLiteral, PlainOp, AndOp, BvnegOp, BvnegoOp, EqOp, ExtOp, IteOp, NotOp, OptionGetOp, OrOp, RecordGetOp, SetInterOp, SetMemberOp, SetSubsetOp, StringLikeOp, ZeroExtendOp, PlainTerm, Application, LiteralTerm, RecordTerm, SomeTerm, terms, BitsOp, TestOp, OverflowOp}
use Rattle.law_terms.specs.Reached.{opened_of_op, subterms, subterms_of_all}
use Rattle.law_terms.specs.Types.{attribute_type, extension_signature, field_types, inner_type, is_bits, type_of}
use Rattle.law_terms.specs.Typing.{typed, typed_all}
use Rattle.law_terms.proofs.Soundness.{all-back, all-front}

-- ---- operators that give a truth value

module _ (o : PlainOp) where
  truth_of_one : (f : PlainTerm → PlainTerm) → ((t : PlainTerm) → Refines (f t) (Application o (terms (t ∷ [])) BoolType)) → (t u : PlainTerm) → Refines t u → Refines (f t) (Application o (terms (u ∷ [])) BoolType)
  truth_of_one f stands t u s = onward (f t) (Application o (terms (t ∷ [])) BoolType) (Application o (terms (u ∷ [])) BoolType) (stands t) (application o (t ∷ []) (u ∷ []) BoolType (s, tt))

  truth_of_two : (f : PlainTerm → PlainTerm → PlainTerm) → ((t v : PlainTerm) → Refines (f t v) (test_of_two o t v)) → (t u v w : PlainTerm) → Refines t u → Refines v w → Refines (f t v) (test_of_two o u w)
  truth_of_two f stands t u v w s z = onward (f t v) (test_of_two o t v) (test_of_two o u w) (stands t v) (application o (t ∷ v ∷ []) (u ∷ w ∷ []) BoolType (s, (z, tt)))

-- ---- operators whose type is that of an argument

-- the type of a term is formed where those of its subterms are
type_formed : (t : PlainTerm) → AllByRecursion HasFormedType (subterms t) → IsFormedType (type_of t)
type_formed t h = last_of HasFormedType t h

first_of_two : (o : PlainOp) → ((x y : PlainType) → opened_of_op o x ≡ opened_of_op o y) → (f : PlainTerm → PlainTerm → PlainTerm) → ((t v : PlainTerm) → Refines (f t v) (bits_of_two o t v)) → (t u v w : PlainTerm) → Refines t u → Refines v w → Refines (f t v) (bits_of_two o u w)
first_of_two o quiet f stands t u v w s z =
    onward (f t v) (bits_of_two o t v) (bits_of_two o u w) (stands t v)
    (application_by_arguments o (t ∷ v ∷ []) (u ∷ w ∷ []) (type_of t) (type_of u) (s, (z, tt)) (quiet (type_of t) (type_of u))
    (λ h. type_formed t (all-front HasFormedType (subterms t) (subterms_of_all (terms (v ∷ []))) h)) (λ h. (same_type t u s (first_so (typed u) (typed_all (terms (w ∷ []))) h)).1))

keeps_bvneg : (t u : PlainTerm) → Refines t u → Refines (folded_bvneg t) (bvneg_of u)
keeps_bvneg t u s =
    onward (folded_bvneg t) (bvneg_of t) (bvneg_of u) (stands_bvneg t)
    (application_by_arguments BvnegOp (t ∷ []) (u ∷ []) (type_of t) (type_of u) (s, tt) refl (λ h. type_formed t (all-front HasFormedType (subterms t) [] h)) (λ h. (same_type t u s (first_so (typed u) true h)).1))

keeps_ite : (t u v w x y : PlainTerm) → Refines t u → Refines v w → Refines x y → Refines (folded_ite t v x) (ite_of u w y)
keeps_ite t u v w x y s z a =
    onward (folded_ite t v x) (ite_of t v x) (ite_of u w y) (stands_ite t v x)
    (application_by_arguments IteOp (t ∷ v ∷ x ∷ []) (u ∷ w ∷ y ∷ []) (type_of v) (type_of w) (s, (z, (a, tt))) refl
    (λ h. type_formed v (all-front HasFormedType (subterms v) (subterms_of_all (terms (x ∷ []))) (all-back HasFormedType (subterms t) (subterms_of_all (terms (v ∷ x ∷ []))) h)))
    (λ h. (same_type v w z (first_so (typed w) (typed_all (terms (y ∷ []))) (second_so (typed u) (typed_all (terms (w ∷ y ∷ []))) h))).1))

-- ---- operators whose type goes by that of their argument

extended_by : (k : ℕ) (t : PlainTerm) (ty : PlainType) → type_of t ≡ ty → type_of (cond (is_bits ty) (zero_extend_of k t) t) ≡ wider_type k ty
extended_by k t (BitVecType n) e = ap (wider_type k) e
extended_by k t ty e = e

extended_type : (k : ℕ) (t : PlainTerm) → type_of (folded_zero_extend k t) ≡ wider_type k (type_of t)
extended_type k (LiteralTerm (BitVecLiteral n a)) = refl
extended_type k t = extended_by k t (type_of t) refl

keeps_zero_extend : (k : ℕ) (t u : PlainTerm) → RefinesWithType t u → RefinesWithType (folded_zero_extend k t) (zero_extend_of k u)
keeps_zero_extend k t u s = record {
  refines = onward (folded_zero_extend k t) (zero_extend_of k t) (zero_extend_of k u) (stands_zero_extend k t) (same s.type);
  type = extended_type k t ∙ ap (wider_type k) s.type;
}
  where
    same : type_of t ≡ type_of u → Refines (zero_extend_of k t) (zero_extend_of k u)
    same e = subst (λ (x : PlainType). Refines (Application (ZeroExtendOp k) (terms (t ∷ [])) x) (zero_extend_of k u)) (sym (ap (wider_type k) e)) (application (ZeroExtendOp k) (t ∷ []) (u ∷ []) (wider_type k (type_of u)) (s.refines, tt))

opened_by : (t : PlainTerm) (ty : PlainType) → type_of t ≡ ty → type_of (elim (inner_type ty) [ Some x ↦ option_get_of t | None ↦ t ]) ≡ type_inside ty
opened_by t (OptionType x) e = ap type_inside e
opened_by t ty e = e

opened_type : (t : PlainTerm) → type_of (folded_option_get t) ≡ type_inside (type_of t)
opened_type (SomeTerm t) = refl
opened_type t = opened_by t (type_of t) refl

keeps_option_get : (t u : PlainTerm) → RefinesWithType t u → RefinesWithType (folded_option_get t) (option_get_of u)
keeps_option_get t u s = record {
  refines = onward (folded_option_get t) (option_get_of t) (option_get_of u) (stands_option_get t) (same s.type);
  type = opened_type t ∙ ap type_inside s.type;
}
  where
    same : type_of t ≡ type_of u → Refines (option_get_of t) (option_get_of u)
    same e = subst (λ (x : PlainType). Refines (Application OptionGetOp (terms (t ∷ [])) x) (option_get_of u)) (sym (ap type_inside e)) (application OptionGetOp (t ∷ []) (u ∷ []) (type_inside (type_of u)) (s.refines, tt))

-- the type of the attribute's term, or of the record
fallen_back : (o : Option PlainTerm) (t : PlainTerm) → type_of (unwrap_or o t) ≡ unwrap_or (option_map type_of o) (type_of t)
fallen_back (Some u) t = refl
fallen_back None t = refl

got_by : (t : PlainTerm) (x : List ℕ) (o : Option PlainType) → attribute_type x (type_of t) ≡ o → type_of (elim o [ Some ty ↦ record_get_of t x | None ↦ t ]) ≡ type_at x (type_of t)
got_by t x (Some ty) e = refl
got_by t x None e = sym (ap (λ o. unwrap_or o (type_of t)) e)

got_type : (t : PlainTerm) (x : List ℕ) → type_of (folded_record_get t x) ≡ type_at x (type_of t)
got_type (RecordTerm fs) x = fallen_back (field_in x fs) (RecordTerm fs) ∙ sym (ap (λ o. unwrap_or o (RecordType (field_types fs))) (type_found x fs))
got_type t x = got_by t x (attribute_type x (type_of t)) refl

keeps_record_get : (x : List ℕ) (t u : PlainTerm) → RefinesWithType t u → RefinesWithType (folded_record_get t x) (record_get_of u x)
keeps_record_get x t u s = record {
  refines = onward (folded_record_get t x) (record_get_of t x) (record_get_of u x) (stands_record_get t x) (same s.type);
  type = got_type t x ∙ ap (type_at x) s.type;
}
  where
    same : type_of t ≡ type_of u → Refines (record_get_of t x) (record_get_of u x)
    same e = subst (λ (y : PlainType). Refines (Application (RecordGetOp x) (terms (t ∷ [])) y) (record_get_of u x)) (sym (ap (type_at x) e)) (application (RecordGetOp x) (t ∷ []) (u ∷ []) (type_at x (type_of u)) (s.refines, tt))

-- ---- operators of the extension types, whose types are fixed

prefix_type : (n : ℕ) (p : Option ℕ) → type_of (prefix_literal n p) ≡ OptionType (BitVecType n)
prefix_type n None = refl
prefix_type n (Some p) = refl

made_type : (b : Bool) (t u : PlainTerm) → type_of t ≡ type_of u → type_of (cond b t u) ≡ type_of u
made_type true t u e = e
made_type false t u e = refl

extension_type : (o : ExtensionOp) (t : PlainTerm) → type_of (folded_extension o t) ≡ (extension_signature o).1
extension_type DecimalValOp (LiteralTerm (ExtensionLiteral (DecimalOf z))) = refl
extension_type DatetimeValOp (LiteralTerm (ExtensionLiteral (DatetimeOf z))) = refl
extension_type DurationValOp (LiteralTerm (ExtensionLiteral (DurationOf z))) = refl
extension_type IpIsV4Op (LiteralTerm (ExtensionLiteral (Ipv4Of a p))) = refl
extension_type IpIsV4Op (LiteralTerm (ExtensionLiteral (Ipv6Of a p))) = refl
extension_type IpAddrV4Op (LiteralTerm (ExtensionLiteral (Ipv4Of a p))) = refl
extension_type IpAddrV6Op (LiteralTerm (ExtensionLiteral (Ipv6Of a p))) = refl
extension_type IpPrefixV4Op (LiteralTerm (ExtensionLiteral (Ipv4Of a p))) = prefix_type 5 p
extension_type IpPrefixV6Op (LiteralTerm (ExtensionLiteral (Ipv6Of a p))) = prefix_type 7 p
extension_type DatetimeOfBitVecOp (LiteralTerm (BitVecLiteral n a)) = made_type (n == 64) (extension_literal (DatetimeOf (signed 64 a))) (extension_of DatetimeOfBitVecOp (bits_literal n a)) refl
extension_type DurationOfBitVecOp (LiteralTerm (BitVecLiteral n a)) = made_type (n == 64) (extension_literal (DurationOf (signed 64 a))) (extension_of DurationOfBitVecOp (bits_literal n a)) refl
extension_type o t = refl

keeps_extension : (o : ExtensionOp) (t u : PlainTerm) → Refines t u → RefinesWithType (folded_extension o t) (extension_of o u)
keeps_extension o t u s = record {
  refines = onward (folded_extension o t) (extension_of o t) (extension_of o u) (stands_extension o t) (application (ExtOp o) (t ∷ []) (u ∷ []) (extension_signature o).1 (s, tt));
  type = extension_type o t;
}

-- ---- tests by form and by type

keeps_set_is_empty : (t u : PlainTerm) → Refines t u → Refines (set_is_empty folding t) (set_is_empty applied u)
keeps_set_is_empty t u s = onward (set_is_empty folding t) (set_is_empty applied t) (set_is_empty applied u) (stands_set_is_empty t) (empty_kept t u s)

keeps_is_none : (t u : PlainTerm) → Refines t u → Refines (is_none folding t) (is_none applied u)
keeps_is_none t u s = onward (is_none folding t) (is_none applied t) (is_none applied u) (stands_is_none t) (none_kept t u s)

-- ---- all of them

pub related : Congruence
related = record {
  not = truth_of_one NotOp folded_not stands_not _ _;
  and = truth_of_two AndOp folded_and stands_and _ _ _ _;
  or = truth_of_two OrOp folded_or stands_or _ _ _ _;
  eq = truth_of_two EqOp folded_eq stands_eq _ _ _ _;
  ite = keeps_ite _ _ _ _ _ _;
  never = λ s. stands_never _;
  bvneg = keeps_bvneg _ _;
  bvnego = truth_of_one BvnegoOp folded_bvnego stands_bvnego _ _;
  bits = λ o. first_of_two (BitsOp o) (λ x y. refl) (folded_bits o) (stands_bits o) _ _ _ _;
  test = λ o. truth_of_two (TestOp o) (folded_test o) (stands_test o) _ _ _ _;
  overflow = λ o. truth_of_two (OverflowOp o) (folded_overflow o) (stands_overflow o) _ _ _ _;
  zero_extend = λ k. keeps_zero_extend k _ _;
  string_like = λ p. truth_of_one (StringLikeOp p) (λ t. folded_string_like t p) (λ t. stands_string_like t p) _ _;
  set_member = truth_of_two SetMemberOp folded_set_member stands_set_member _ _ _ _;
  set_subset = truth_of_two SetSubsetOp folded_set_subset stands_set_subset _ _ _ _;
  set_inter = first_of_two SetInterOp (λ x y. refl) folded_set_inter stands_set_inter _ _ _ _;
  set_is_empty = keeps_set_is_empty _ _;
  option_get = keeps_option_get _ _;
  record_get = λ x. keeps_record_get x _ _;
  extension = λ o. keeps_extension o _ _;
  is_none = keeps_is_none _ _;
}
