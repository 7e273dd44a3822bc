-- What a call folds to has no fault where the arguments of the call have none.
use Rattle.std.proofs.Common.{◌≡◌, ℕ, ◌==◌, Bool, true, false, ◌&&◌, ◌||◌, List, [], ◌∷◌, refl}
use Rattle.std.specs.Prelude.{bytes_eq, cond, filter, Option, Some, None}
use Rattle.std.specs.List.{AllByRecursion, list_all}
use Rattle.std.specs.Option.{option_or, unwrap_or}
use Rattle.law_numbers.specs.BitOperators.{BitsOperator, bits_entry, test_entry, overflow_entry}
use Rattle.law_numbers.specs.BitVectors.{signed}
use Rattle.law_terms.specs.Faults.{Fault, unless, is_passed_over, type_fault, attribute_types_fault, operator_fault, term_fault, terms_fault, fields_fault, literal_fault}
use Rattle.law_terms.specs.Literals.{is_literal}
use Rattle.law_terms.specs.Plain.{PlainType, OptionType, BitVecType, BoolType, RecordType, AttributeTypes, no_attributes, attribute, ExtensionOp, DatetimeOfBitVecOp, DatetimeValOp, DecimalValOp, DurationOfBitVecOp, DurationValOp, IpAddrV4Op, IpAddrV6Op, IpIsV4Op, IpPrefixV4Op, IpPrefixV6Op, DecimalOf, Ipv4Of, Ipv6Of, DatetimeOf, DurationOf, PatternPart, PlainOp, AndOp, BvnegOp, BvnegoOp, EqOp, ExtOp, IteOp, NotOp, OptionGetOp, OrOp, RecordGetOp, SetInterOp, SetMemberOp, SetSubsetOp, StringLikeOp, ZeroExtendOp, BitVecLiteral, BoolLiteral, ExtensionLiteral, StringLiteral, PlainTerm, Application, NoneTerm, LiteralTerm, RecordTerm, SetTerm, SomeTerm, VariableTerm, PlainTerms, no_terms, one_term, PlainFields, no_fields, one_field, list_of_terms, terms, BitsOp, TestOp, OverflowOp}
use Rattle.law_terms.specs.TermOrder.{term_eq}
use Rattle.law_terms.specs.TermSets.{set_term, sorted_terms}
use Rattle.law_terms.specs.Types.{attribute_in, attribute_type, extension_signature, inner_type, is_bits, type_of, types_of}
use Rattle.law_terms.specs.TypeValues.{Enums}
use Rattle.law_terms.proofs.Soundness.{none-first, none-second, none_both}
use Rattle.law_terms.proofs.SortedSets.{all-terms}
use Rattle.law_folding.specs.Applications.{true_term, false_term, truth_literal, bits_literal, not_of, and_of, or_of, eq_of, ite_of, bits_of_two, test_of_two, bvneg_of, zero_extend_of, set_member_of, set_subset_of, set_inter_of, option_get_of, record_get_of, extension_of, type_at, type_inside, wider_type}
use Rattle.law_folding.specs.Built.{folded}
use Rattle.law_folding.specs.FoldBits.{folded_bits, folded_bvneg, folded_bvnego, folded_test_by, folded_zero_extend, takes_right}
use Rattle.law_folding.specs.FoldConnectives.{are_opposites, folded_and, folded_not, folded_or}
use Rattle.law_folding.specs.FoldEquality.{folded_eq, folded_eq_inside, folded_ite, folded_ite_inside, is_boolean}
use Rattle.law_folding.specs.FoldExtensions.{extension_literal, folded_extension, prefix_literal}
use Rattle.law_folding.specs.FoldOptions.{folded_option_get}
use Rattle.law_folding.specs.FoldRecords.{field_in, folded_record_get}
use Rattle.law_folding.specs.FoldSets.{common_set, folded_set_inter, folded_set_member, folded_set_subset, is_among}
use Rattle.law_folding.specs.FoldStrings.{folded_string_like}
use Rattle.law_folding.specs.Parts.{elements_in, is_empty_set, is_set_literal, negated, negated_bits}
use Rattle.law_folding.proofs.SetLists.{filtered}

-- ---- faults

none_unless : (b : Bool) (f : Option Fault) → f ≡ None → unless b f ≡ None
none_unless true f h = refl
none_unless false f h = h

-- what is found in an application of one argument: of its type, and of the argument
none_inside : (f g : Option Fault) → option_or f (option_or (option_or g None) None) ≡ None → g ≡ None
none_inside f g h = none-first g None (none-first (option_or g None) None (none-second f (option_or (option_or g None) None) h))

module _ (enums : Enums) where
  -- a term without fault
  abbrev pub IsFaultless : PlainTerm → Type 0
  IsFaultless t = term_fault enums t ≡ None

  -- ---- types

  -- a test that is passed over is a Boolean, whose type has no fault
  passed_type : (o : PlainOp) (ts : List PlainType) (ty : PlainType) (f : Option Fault) → unless (is_passed_over o ts ty) (option_or (type_fault enums ty) f) ≡ None → type_fault enums ty ≡ None
  passed_type BvnegoOp (t ∷ []) BoolType f h = refl
  passed_type o ts ty f h = none-first (type_fault enums ty) f h

  pub faultless_type : (t : PlainTerm) → IsFaultless t → type_fault enums (type_of t) ≡ None
  faultless_type (Application o ts ty) h = passed_type o (types_of ts) ty (option_or (terms_fault enums ts) (operator_fault enums o (types_of ts))) h
  faultless_type (NoneTerm ty) h = h
  faultless_type (LiteralTerm l) h = none-first (type_fault enums (type_of (LiteralTerm l))) (literal_fault enums l) h
  faultless_type (RecordTerm fs) h = none-first (type_fault enums (type_of (RecordTerm fs))) (fields_fault enums fs) h
  faultless_type (SetTerm ty ts) h = none-first (type_fault enums ty) (terms_fault enums ts) h
  faultless_type (SomeTerm t) h = none-first (type_fault enums (type_of t)) (term_fault enums t) h
  faultless_type (VariableTerm id ty) h = h

  faultless_wider : (k : ℕ) (ty : PlainType) → type_fault enums ty ≡ None → type_fault enums (wider_type k ty) ≡ None
  faultless_wider k (BitVecType n) h = refl
  faultless_wider k ty h = h

  faultless_inside : (ty : PlainType) → type_fault enums ty ≡ None → type_fault enums (type_inside ty) ≡ None
  faultless_inside (OptionType ty) h = h
  faultless_inside ty h = h

  -- of an attribute of a type without fault, and of that type where it has no such attribute
  faultless_attribute : (x : List ℕ) (fs : AttributeTypes) (u : PlainType) → attribute_types_fault enums fs ≡ None → type_fault enums u ≡ None → type_fault enums (unwrap_or (attribute_in x fs) u) ≡ None
  faultless_attribute x no_attributes u h k = k
  faultless_attribute x (attribute a t fs) u h k = by (bytes_eq x a) (faultless_attribute x fs u (none-second (type_fault enums t) (attribute_types_fault enums fs) h) k)
    where
      by : (b : Bool) → type_fault enums (unwrap_or (attribute_in x fs) u) ≡ None → type_fault enums (unwrap_or (elim b [ true ↦ Some t | false ↦ attribute_in x fs ]) u) ≡ None
      by true rest = none-first (type_fault enums t) (attribute_types_fault enums fs) h
      by false rest = rest

  faultless_at : (x : List ℕ) (ty : PlainType) → type_fault enums ty ≡ None → type_fault enums (type_at x ty) ≡ None
  faultless_at x (RecordType fs) h = faultless_attribute x fs (RecordType fs) h h
  faultless_at x ty h = h

  -- ---- terms made of terms without fault

  faultless_terms : (ts : List PlainTerm) → AllByRecursion IsFaultless ts → terms_fault enums (terms ts) ≡ None
  faultless_terms [] h = refl
  faultless_terms (t ∷ ts) h = none_both (term_fault enums t) (terms_fault enums (terms ts)) h.0 (faultless_terms ts h.1)

  faultless_each : (ts : PlainTerms) → terms_fault enums ts ≡ None → AllByRecursion IsFaultless (list_of_terms ts)
  faultless_each no_terms h = tt
  faultless_each (one_term t ts) h = (none-first (term_fault enums t) (terms_fault enums ts) h, faultless_each ts (none-second (term_fault enums t) (terms_fault enums ts) h))

  faultless_application : (o : PlainOp) (ts : List PlainTerm) (ty : PlainType) → AllByRecursion IsFaultless ts → type_fault enums ty ≡ None → operator_fault enums o (types_of (terms ts)) ≡ None → IsFaultless (Application o (terms ts) ty)
  faultless_application o ts ty h y f =
      let rest : Option Fault = option_or (terms_fault enums (terms ts)) (operator_fault enums o (types_of (terms ts))) in
      none_unless (is_passed_over o (types_of (terms ts)) ty) (option_or (type_fault enums ty) rest) (none_both (type_fault enums ty) rest y
      (none_both (terms_fault enums (terms ts)) (operator_fault enums o (types_of (terms ts))) (faultless_terms ts h) f))

  pub faultless_some : (t : PlainTerm) → IsFaultless t → IsFaultless (SomeTerm t)
  faultless_some t h = none_both (type_fault enums (type_of t)) (term_fault enums t) (faultless_type t h) h

  pub faultless_set : (ty : PlainType) (ts : List PlainTerm) → type_fault enums ty ≡ None → AllByRecursion IsFaultless ts → IsFaultless (set_term ty ts)
  faultless_set ty ts y h = none_both (type_fault enums ty) (terms_fault enums (terms (sorted_terms ts))) y (faultless_terms (sorted_terms ts) (all-terms IsFaultless ts h))

  -- ---- choices

  one_of : (b : Bool) (t u : PlainTerm) → IsFaultless t → IsFaultless u → IsFaultless (cond b t u)
  one_of true t u h k = h
  one_of false t u h k = k

  -- of the term that an option holds, where it holds one
  abbrev IsFaultlessInside : Option PlainTerm → Type 0
  IsFaultlessInside (Some t) = IsFaultless t
  IsFaultlessInside None = Unit {0}

  inside_or : (o : Option PlainTerm) (t : PlainTerm) → IsFaultlessInside o → IsFaultless t → IsFaultless (unwrap_or o t)
  inside_or (Some t) u h k = h
  inside_or None u h k = k

  -- ---- connectives

  faultless_not_of : (t : PlainTerm) → IsFaultless t → IsFaultless (not_of t)
  faultless_not_of t h = faultless_application NotOp (t ∷ []) BoolType (h, tt) refl refl

  faultless_negated : (t : PlainTerm) → IsFaultless t → IsFaultlessInside (negated t)
  faultless_negated (Application NotOp (one_term t no_terms) ty) h = none_inside (type_fault enums ty) (term_fault enums t) h
  faultless_negated t h = tt

  faultless_not : (t : PlainTerm) → IsFaultless t → IsFaultless (folded_not t)
  faultless_not (LiteralTerm (BoolLiteral b)) h = refl
  faultless_not t h = inside_or (negated t) (not_of t) (faultless_negated t h) (faultless_not_of t h)

  -- the cases of `and`, where `yes` is true and `no` is false; with these changed, the cases of `or`
  module _ (t u yes no both : PlainTerm) (h : IsFaultless t) (k : IsFaultless u) (n : IsFaultless no) (w : IsFaultless both) where
    faultless_both : IsFaultless (cond (term_eq t u || term_eq u yes) t (cond (term_eq t yes) u (cond (term_eq t no || (term_eq u no || are_opposites t u)) no both)))
    faultless_both =
        one_of (term_eq t u || term_eq u yes) t (cond (term_eq t yes) u last) h (one_of (term_eq t yes) u last k (one_of (term_eq t no || (term_eq u no || are_opposites t u)) no both n w))
      where
        last : PlainTerm
        last = cond (term_eq t no || (term_eq u no || are_opposites t u)) no both

  faultless_and : (t u : PlainTerm) → IsFaultless t → IsFaultless u → IsFaultless (folded_and t u)
  faultless_and t u h k = faultless_both t u true_term false_term (and_of t u) h k refl (faultless_application AndOp (t ∷ u ∷ []) BoolType (h, (k, tt)) refl refl)

  faultless_or : (t u : PlainTerm) → IsFaultless t → IsFaultless u → IsFaultless (folded_or t u)
  faultless_or t u h k = faultless_both t u false_term true_term (or_of t u) h k refl (faultless_application OrOp (t ∷ u ∷ []) BoolType (h, (k, tt)) refl refl)

  -- ---- equality and choice

  faultless_eq_inside : (t u : PlainTerm) → IsFaultless t → IsFaultless u → IsFaultless (folded_eq_inside t u)
  faultless_eq_inside t u h k =
      one_of (term_eq t u) true_term literals refl
      (one_of (is_literal t && is_literal u) false_term first_true refl
      (one_of (term_eq t true_term && is_boolean u) u second_true k
      (one_of (term_eq u true_term && is_boolean t) t first_false h
      (one_of (term_eq t false_term && is_boolean u) (folded_not u) second_false (faultless_not u k)
      (one_of (term_eq u false_term && is_boolean t) (folded_not t) (eq_of t u) (faultless_not t h) (faultless_application EqOp (t ∷ u ∷ []) BoolType (h, (k, tt)) refl refl))))))
    where
      second_false : PlainTerm
      second_false = cond (term_eq u false_term && is_boolean t) (folded_not t) (eq_of t u)

      first_false : PlainTerm
      first_false = cond (term_eq t false_term && is_boolean u) (folded_not u) second_false

      second_true : PlainTerm
      second_true = cond (term_eq u true_term && is_boolean t) t first_false

      first_true : PlainTerm
      first_true = cond (term_eq t true_term && is_boolean u) u second_true

      literals : PlainTerm
      literals = cond (is_literal t && is_literal u) false_term first_true

  -- what `some` holds
  faultless_held : (t : PlainTerm) → IsFaultless (SomeTerm t) → IsFaultless t
  faultless_held t h = none-second (type_fault enums (type_of t)) (term_fault enums t) h

  faultless_eq : (t u : PlainTerm) → IsFaultless t → IsFaultless u → IsFaultless (folded_eq t u)
  faultless_eq (SomeTerm t) (SomeTerm u) h k = faultless_eq_inside t u (faultless_held t h) (faultless_held u k)
  faultless_eq (SomeTerm t) (NoneTerm ty) h k = refl
  faultless_eq (NoneTerm ty) (SomeTerm u) h k = refl
  faultless_eq t u h k = faultless_eq_inside t u h k

  faultless_ite_of : (g t u : PlainTerm) → IsFaultless g → IsFaultless t → IsFaultless u → IsFaultless (ite_of g t u)
  faultless_ite_of g t u p h k = faultless_application IteOp (g ∷ t ∷ u ∷ []) (type_of t) (p, (h, (k, tt))) (faultless_type t h) refl

  faultless_ite_inside : (g t u : PlainTerm) → IsFaultless g → IsFaultless t → IsFaultless u → IsFaultless (folded_ite_inside g t u)
  faultless_ite_inside g t u p h k =
      one_of (term_eq g true_term || term_eq t u) t guard_false h
      (one_of (term_eq g false_term) u guard k
      (one_of (term_eq t true_term && term_eq u false_term) g negation p
      (one_of (term_eq t false_term && term_eq u true_term) (folded_not g) conjunction (faultless_not g p)
      (one_of (term_eq u false_term) (folded_and g t) disjunction (faultless_and g t p h)
      (one_of (term_eq t true_term) (folded_or g u) (ite_of g t u) (faultless_or g u p k) (faultless_ite_of g t u p h k))))))
    where
      disjunction : PlainTerm
      disjunction = cond (term_eq t true_term) (folded_or g u) (ite_of g t u)

      conjunction : PlainTerm
      conjunction = cond (term_eq u false_term) (folded_and g t) disjunction

      negation : PlainTerm
      negation = cond (term_eq t false_term && term_eq u true_term) (folded_not g) conjunction

      guard : PlainTerm
      guard = cond (term_eq t true_term && term_eq u false_term) g negation

      guard_false : PlainTerm
      guard_false = cond (term_eq g false_term) u guard

  faultless_ite : (g t u : PlainTerm) → IsFaultless g → IsFaultless t → IsFaultless u → IsFaultless (folded_ite g t u)
  faultless_ite g (SomeTerm t) (SomeTerm u) p h k = faultless_some (folded_ite_inside g t u) (faultless_ite_inside g t u p (faultless_held t h) (faultless_held u k))
  faultless_ite g t u p h k = faultless_ite_inside g t u p h k

  -- ---- bits

  faultless_bvneg_of : (t : PlainTerm) → IsFaultless t → IsFaultless (bvneg_of t)
  faultless_bvneg_of t h = faultless_application BvnegOp (t ∷ []) (type_of t) (h, tt) (faultless_type t h) refl

  faultless_negated_bits : (t : PlainTerm) → IsFaultless t → IsFaultlessInside (negated_bits t)
  faultless_negated_bits (Application BvnegOp (one_term t no_terms) ty) h = none_inside (type_fault enums ty) (term_fault enums t) h
  faultless_negated_bits t h = tt

  faultless_bvneg : (t : PlainTerm) → IsFaultless t → IsFaultless (folded_bvneg t)
  faultless_bvneg (LiteralTerm (BitVecLiteral n a)) h = refl
  faultless_bvneg t h = inside_or (negated_bits t) (bvneg_of t) (faultless_negated_bits t h) (faultless_bvneg_of t h)

  -- of an operator that has no fault of its own
  module _ (o : PlainOp) (own : (ts : List PlainType) → operator_fault enums o ts ≡ None) where
    faultless_bits_of_two : (t u : PlainTerm) → IsFaultless t → IsFaultless u → IsFaultless (bits_of_two o t u)
    faultless_bits_of_two t u h k = faultless_application o (t ∷ u ∷ []) (type_of t) (h, (k, tt)) (faultless_type t h) (own (type_of t ∷ type_of u ∷ []))

    faultless_test_of_two : (t u : PlainTerm) → IsFaultless t → IsFaultless u → IsFaultless (test_of_two o t u)
    faultless_test_of_two t u h k = faultless_application o (t ∷ u ∷ []) BoolType (h, (k, tt)) refl (own (type_of t ∷ type_of u ∷ []))

    faultless_test : (f : ℕ → ℕ → ℕ → Bool) (t u : PlainTerm) → IsFaultless t → IsFaultless u → IsFaultless (folded_test_by o f t u)
    faultless_test f (LiteralTerm (BitVecLiteral n a)) (LiteralTerm (BitVecLiteral m b)) h k =
        one_of (n == m) (truth_literal (f n a b)) (test_of_two o (bits_literal n a) (bits_literal m b)) refl (faultless_test_of_two (bits_literal n a) (bits_literal m b) h k)
    faultless_test f t u h k = faultless_test_of_two t u h k

  faultless_bits : (o : BitsOperator) (t u : PlainTerm) → IsFaultless t → IsFaultless u → IsFaultless (folded_bits o t u)
  faultless_bits o (LiteralTerm (BitVecLiteral n a)) (LiteralTerm (BitVecLiteral m b)) h k =
      one_of (n == m && takes_right o b) (bits_literal n ((bits_entry o).function n a b)) (bits_of_two (BitsOp o) (bits_literal n a) (bits_literal m b)) refl (faultless_bits_of_two (BitsOp o) (λ ts. refl) (bits_literal n a) (bits_literal m b) h k)
  faultless_bits o t u h k = faultless_bits_of_two (BitsOp o) (λ ts. refl) t u h k

  faultless_bvnego : (t : PlainTerm) → IsFaultless t → IsFaultless (folded_bvnego t)
  faultless_bvnego (LiteralTerm (BitVecLiteral n a)) h = refl
  faultless_bvnego t h = faultless_application BvnegoOp (t ∷ []) BoolType (h, tt) refl refl

  faultless_zero_extend : (k : ℕ) (t : PlainTerm) → IsFaultless t → IsFaultless (folded_zero_extend k t)
  faultless_zero_extend k (LiteralTerm (BitVecLiteral n a)) h = refl
  faultless_zero_extend k t h =
      one_of (is_bits (type_of t)) (zero_extend_of k t) t (faultless_application (ZeroExtendOp k) (t ∷ []) (wider_type k (type_of t)) (h, tt) (faultless_wider k (type_of t) (faultless_type t h)) refl) h

  -- ---- strings, sets, options and records

  faultless_string_like : (t : PlainTerm) (p : List PatternPart) → IsFaultless t → operator_fault enums (StringLikeOp p) (type_of t ∷ []) ≡ None → IsFaultless (folded_string_like t p)
  faultless_string_like (LiteralTerm (StringLiteral s)) p h f = refl
  faultless_string_like t p h f = faultless_application (StringLikeOp p) (t ∷ []) BoolType (h, tt) refl f

  faultless_set_member : (t u : PlainTerm) → IsFaultless t → IsFaultless u → IsFaultless (folded_set_member t u)
  faultless_set_member t u h k =
      one_of (is_empty_set u) false_term (cond (is_literal t && is_set_literal u) known (set_member_of t u)) refl
      (one_of (is_literal t && is_set_literal u) known (set_member_of t u) refl (faultless_application SetMemberOp (t ∷ u ∷ []) BoolType (h, (k, tt)) refl refl))
    where
      known : PlainTerm
      known = truth_literal (is_among (elements_in u) t)

  faultless_set_subset : (t u : PlainTerm) → IsFaultless t → IsFaultless u → IsFaultless (folded_set_subset t u)
  faultless_set_subset t u h k =
      one_of (term_eq t u || is_empty_set t) true_term (cond (is_set_literal t && is_set_literal u) known (set_subset_of t u)) refl
      (one_of (is_set_literal t && is_set_literal u) known (set_subset_of t u) refl (faultless_application SetSubsetOp (t ∷ u ∷ []) BoolType (h, (k, tt)) refl refl))
    where
      known : PlainTerm
      known = truth_literal (list_all (is_among (elements_in u)) (elements_in t))

  faultless_common : (t u : PlainTerm) → IsFaultless t → IsFaultless (common_set t u)
  faultless_common (SetTerm ty ts) u h =
      faultless_set ty (filter (is_among (elements_in u)) (list_of_terms ts)) (none-first (type_fault enums ty) (terms_fault enums ts) h) (filtered (is_among (elements_in u)) IsFaultless (list_of_terms ts) (faultless_each ts (none-second (type_fault enums ty) (terms_fault enums ts) h)))
  faultless_common t u h = h

  faultless_set_inter : (t u : PlainTerm) → IsFaultless t → IsFaultless u → IsFaultless (folded_set_inter t u)
  faultless_set_inter t u h k =
      one_of (term_eq t u || is_empty_set t) t (cond (is_empty_set u) u known) h
      (one_of (is_empty_set u) u known k
      (one_of (is_set_literal t && is_set_literal u) (common_set t u) (set_inter_of t u) (faultless_common t u h) (faultless_application SetInterOp (t ∷ u ∷ []) (type_of t) (h, (k, tt)) (faultless_type t h) refl)))
    where
      known : PlainTerm
      known = cond (is_set_literal t && is_set_literal u) (common_set t u) (set_inter_of t u)

  -- one term for an option type, and another for what is none
  by_type : (o : Option PlainType) (t u : PlainTerm) → IsFaultless t → IsFaultless u → IsFaultless (elim o [ Some ty ↦ t | None ↦ u ])
  by_type (Some ty) t u h k = h
  by_type None t u h k = k

  faultless_option_get : (t : PlainTerm) → IsFaultless t → IsFaultless (folded_option_get t)
  faultless_option_get (SomeTerm t) h = faultless_held t h
  faultless_option_get t h =
      by_type (inner_type (type_of t)) (option_get_of t) t (faultless_application OptionGetOp (t ∷ []) (type_inside (type_of t)) (h, tt) (faultless_inside (type_of t) (faultless_type t h)) refl) h

  faultless_field : (x : List ℕ) (fs : PlainFields) → fields_fault enums fs ≡ None → IsFaultlessInside (field_in x fs)
  faultless_field x no_fields h = tt
  faultless_field x (one_field a t fs) h = by (bytes_eq x a) (faultless_field x fs (none-second (term_fault enums t) (fields_fault enums fs) h))
    where
      by : (b : Bool) → IsFaultlessInside (field_in x fs) → IsFaultlessInside (elim b [ true ↦ Some t | false ↦ field_in x fs ])
      by true rest = none-first (term_fault enums t) (fields_fault enums fs) h
      by false rest = rest

  faultless_record_get : (t : PlainTerm) (x : List ℕ) → IsFaultless t → operator_fault enums (RecordGetOp x) (type_of t ∷ []) ≡ None → IsFaultless (folded_record_get t x)
  faultless_record_get (RecordTerm fs) x h f = inside_or (field_in x fs) (RecordTerm fs) (faultless_field x fs (none-second (type_fault enums (type_of (RecordTerm fs))) (fields_fault enums fs) h)) h
  faultless_record_get t x h f =
      by_type (attribute_type x (type_of t)) (record_get_of t x) t (faultless_application (RecordGetOp x) (t ∷ []) (type_at x (type_of t)) (h, tt) (faultless_at x (type_of t) (faultless_type t h)) f) h

  -- ---- operators of the extension types

  faultless_signature : (o : ExtensionOp) → type_fault enums (extension_signature o).1 ≡ None
  faultless_signature DatetimeOfBitVecOp = refl
  faultless_signature DatetimeValOp = refl
  faultless_signature DecimalValOp = refl
  faultless_signature DurationOfBitVecOp = refl
  faultless_signature DurationValOp = refl
  faultless_signature IpAddrV4Op = refl
  faultless_signature IpAddrV6Op = refl
  faultless_signature IpIsV4Op = refl
  faultless_signature IpPrefixV4Op = refl
  faultless_signature IpPrefixV6Op = refl

  faultless_extension_of : (o : ExtensionOp) (t : PlainTerm) → IsFaultless t → IsFaultless (extension_of o t)
  faultless_extension_of o t h = faultless_application (ExtOp o) (t ∷ []) (extension_signature o).1 (h, tt) (faultless_signature o) refl

  faultless_prefix : (n : ℕ) (p : Option ℕ) → IsFaultless (prefix_literal n p)
  faultless_prefix n None = refl
  faultless_prefix n (Some p) = refl

  faultless_extension : (o : ExtensionOp) (t : PlainTerm) → IsFaultless t → IsFaultless (folded_extension o t)
  faultless_extension DecimalValOp (LiteralTerm (ExtensionLiteral (DecimalOf z))) h = refl
  faultless_extension DatetimeValOp (LiteralTerm (ExtensionLiteral (DatetimeOf z))) h = refl
  faultless_extension DurationValOp (LiteralTerm (ExtensionLiteral (DurationOf z))) h = refl
  faultless_extension IpIsV4Op (LiteralTerm (ExtensionLiteral (Ipv4Of a p))) h = refl
  faultless_extension IpIsV4Op (LiteralTerm (ExtensionLiteral (Ipv6Of a p))) h = refl
  faultless_extension IpAddrV4Op (LiteralTerm (ExtensionLiteral (Ipv4Of a p))) h = refl
  faultless_extension IpAddrV6Op (LiteralTerm (ExtensionLiteral (Ipv6Of a p))) h = refl
  faultless_extension IpPrefixV4Op (LiteralTerm (ExtensionLiteral (Ipv4Of a p))) h = faultless_prefix 5 p
  faultless_extension IpPrefixV6Op (LiteralTerm (ExtensionLiteral (Ipv6Of a p))) h = faultless_prefix 7 p
  faultless_extension DatetimeOfBitVecOp (LiteralTerm (BitVecLiteral n a)) h =
      one_of (n == 64) (extension_literal (DatetimeOf (signed 64 a))) (extension_of DatetimeOfBitVecOp (bits_literal n a)) refl (faultless_extension_of DatetimeOfBitVecOp (bits_literal n a) h)
  faultless_extension DurationOfBitVecOp (LiteralTerm (BitVecLiteral n a)) h =
      one_of (n == 64) (extension_literal (DurationOf (signed 64 a))) (extension_of DurationOfBitVecOp (bits_literal n a)) refl (faultless_extension_of DurationOfBitVecOp (bits_literal n a) h)
  faultless_extension o t h = faultless_extension_of o t h

  -- ---- each operator

  pub faultless_folded : (o : PlainOp) (ts : List PlainTerm) (ty : PlainType) → AllByRecursion IsFaultless ts → type_fault enums ty ≡ None → operator_fault enums o (types_of (terms ts)) ≡ None → IsFaultless (folded o ts ty)
  faultless_folded NotOp (t ∷ []) ty h y f = faultless_not t h.0
  faultless_folded AndOp (t ∷ u ∷ []) ty h y f = faultless_and t u h.0 h.1.0
  faultless_folded OrOp (t ∷ u ∷ []) ty h y f = faultless_or t u h.0 h.1.0
  faultless_folded EqOp (t ∷ u ∷ []) ty h y f = faultless_eq t u h.0 h.1.0
  faultless_folded IteOp (g ∷ t ∷ u ∷ []) ty h y f = faultless_ite g t u h.0 h.1.0 h.1.1.0
  faultless_folded BvnegOp (t ∷ []) ty h y f = faultless_bvneg t h.0
  faultless_folded (BitsOp o) (t ∷ u ∷ []) ty h y f = faultless_bits o t u h.0 h.1.0
  faultless_folded (TestOp o) (t ∷ u ∷ []) ty h y f = faultless_test (TestOp o) (λ ts. refl) (test_entry o).function t u h.0 h.1.0
  faultless_folded (OverflowOp o) (t ∷ u ∷ []) ty h y f = faultless_test (OverflowOp o) (λ ts. refl) (overflow_entry o).function t u h.0 h.1.0
  faultless_folded BvnegoOp (t ∷ []) ty h y f = faultless_bvnego t h.0
  faultless_folded (ZeroExtendOp k) (t ∷ []) ty h y f = faultless_zero_extend k t h.0
  faultless_folded SetMemberOp (t ∷ u ∷ []) ty h y f = faultless_set_member t u h.0 h.1.0
  faultless_folded SetSubsetOp (t ∷ u ∷ []) ty h y f = faultless_set_subset t u h.0 h.1.0
  faultless_folded SetInterOp (t ∷ u ∷ []) ty h y f = faultless_set_inter t u h.0 h.1.0
  faultless_folded OptionGetOp (t ∷ []) ty h y f = faultless_option_get t h.0
  faultless_folded (RecordGetOp x) (t ∷ []) ty h y f = faultless_record_get t x h.0 f
  faultless_folded (ExtOp o) (t ∷ []) ty h y f = faultless_extension o t h.0
  faultless_folded (StringLikeOp p) (t ∷ []) ty h y f = faultless_string_like t p h.0 f
  faultless_folded o ts ty h y f = faultless_application o ts ty h y f
