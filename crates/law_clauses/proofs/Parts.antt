-- Where the shapes of values come from.
use Rattle.std.proofs.Common.{◌≡◌, true, List, [], ◌∷◌, ◌++◌, sym, subst}
use Rattle.std.specs.Prelude.{◌⊎◌, Some, None}
use Rattle.std.specs.Option.{option_or}
use Rattle.std.specs.List.{AllByRecursion}
use Rattle.std.specs.Cmp.{first_so, second_so}
use mathlib.Core.Logic.{inl, inr, ⊎_elim}
use Rattle.law_terms.proofs.Shapes.{term_shaped}
use Rattle.law_terms.proofs.Soundness.{all-front, all-back, is_type-some, none-first, none-second, not-passed, valued, walked}
use Rattle.law_terms.specs.Faults.{fields_fault, first_fault, is_passed_over, operator_fault, term_fault, terms_fault, type_fault}
use Rattle.law_terms.specs.Formed.{IsFormedNode}
use Rattle.law_terms.specs.Interpretations.{IsGiven, IsGivenOp, IsGivenSelector}
use Rattle.law_terms.specs.Meaning.{meaning}
use Rattle.law_terms.specs.Shapes.{IsShaped}
use Rattle.law_terms.specs.Plain.{PlainType, PlainOp, ExtensionOp, IpAddrV4Op, IpAddrV6Op, IpPrefixV4Op, IpPrefixV6Op, ExtOp, OptionGetOp, UufOp, PlainTerm, Application, NoneTerm, LiteralTerm, RecordTerm, SetTerm, SomeTerm, VariableTerm, PlainTerms, no_terms, one_term, PlainFields, no_fields, one_field}
use Rattle.law_terms.specs.Reached.{subterms, subterms_of_all, subterms_of_fields, reached_terms}
use Rattle.law_terms.specs.Types.{is_type, result_type, type_of, types_of}
use Rattle.law_terms.specs.Typing.{are_elements, typed, typed_all, typed_fields}
use Rattle.law_terms.specs.Tables.{Interpretation}
use Rattle.law_terms.specs.TypeValues.{Enums}
use Rattle.law_clauses.specs.Known.{is_known_extension, is_known_here, is_known_op}
use Rattle.law_clauses.specs.Parts.{BuiltHaveShapes, BuiltHaveValues, IsOneOf, PartsHaveShapes, PartsHaveValues, RootsHaveShapes}

split : (t : PlainTerm) (xs ys : List PlainTerm) → IsOneOf t (xs ++ ys) → IsOneOf t xs ⊎ IsOneOf t ys
split t [] ys m = inr m
split t (x ∷ xs) ys m = ⊎_elim (λ e. inl (inl e)) (λ n. ⊎_elim (λ k. inl (inr k)) (λ k. inr k) (split t xs ys n)) m

-- the parts of a part are parts
module _ (P : PlainTerm → Type 0) (u : PlainTerm) where
  whole : (t : PlainTerm) → AllByRecursion P (subterms t) → IsOneOf u (t ∷ []) → AllByRecursion P (subterms u)
  whole t h m = ⊎_elim (λ e. subst (λ x. AllByRecursion P (subterms x)) (sym e) h) (λ n. absurd n) m

  mutual
    inside : (t : PlainTerm) → AllByRecursion P (subterms t) → IsOneOf u (subterms t) → AllByRecursion P (subterms u)
    inside (Application o ts t) h m = ⊎_elim (λ k. inside_all ts (all-front P (subterms_of_all ts) (Application o ts t ∷ []) h) k) (whole (Application o ts t) h) (split u (subterms_of_all ts) (Application o ts t ∷ []) m)
    inside (NoneTerm t) h m = whole (NoneTerm t) h m
    inside (LiteralTerm l) h m = whole (LiteralTerm l) h m
    inside (RecordTerm fs) h m = ⊎_elim (λ k. inside_fields fs (all-front P (subterms_of_fields fs) (RecordTerm fs ∷ []) h) k) (whole (RecordTerm fs) h) (split u (subterms_of_fields fs) (RecordTerm fs ∷ []) m)
    inside (SetTerm t ts) h m = ⊎_elim (λ k. inside_all ts (all-front P (subterms_of_all ts) (SetTerm t ts ∷ []) h) k) (whole (SetTerm t ts) h) (split u (subterms_of_all ts) (SetTerm t ts ∷ []) m)
    inside (SomeTerm t) h m = ⊎_elim (λ k. inside t (all-front P (subterms t) (SomeTerm t ∷ []) h) k) (whole (SomeTerm t) h) (split u (subterms t) (SomeTerm t ∷ []) m)
    inside (VariableTerm id t) h m = whole (VariableTerm id t) h m

    inside_all : (ts : PlainTerms) → AllByRecursion P (subterms_of_all ts) → IsOneOf u (subterms_of_all ts) → AllByRecursion P (subterms u)
    inside_all no_terms h m = absurd m
    inside_all (one_term t ts) h m = ⊎_elim (λ k. inside t (all-front P (subterms t) (subterms_of_all ts) h) k) (λ k. inside_all ts (all-back P (subterms t) (subterms_of_all ts) h) k) (split u (subterms t) (subterms_of_all ts) m)

    inside_fields : (fs : PlainFields) → AllByRecursion P (subterms_of_fields fs) → IsOneOf u (subterms_of_fields fs) → AllByRecursion P (subterms u)
    inside_fields no_fields h m = absurd m
    inside_fields (one_field a t fs) h m = ⊎_elim (λ k. inside t (all-front P (subterms t) (subterms_of_fields fs) h) k) (λ k. inside_fields fs (all-back P (subterms t) (subterms_of_fields fs) h) k) (split u (subterms t) (subterms_of_fields fs) m)

-- a part of a typed term is typed
module _ (u : PlainTerm) where
  itself : (t : PlainTerm) → typed t ≡ true → IsOneOf u (t ∷ []) → typed u ≡ true
  itself t h m = ⊎_elim (λ e. subst (λ x. typed x ≡ true) (sym e) h) (λ n. absurd n) m

  mutual
    part_typed : (t : PlainTerm) → typed t ≡ true → IsOneOf u (subterms t) → typed u ≡ true
    part_typed (Application o ts t) h m = ⊎_elim (λ k. all_typed ts (first_so (typed_all ts) (is_type (result_type o (types_of ts)) t) h) k) (itself (Application o ts t) h) (split u (subterms_of_all ts) (Application o ts t ∷ []) m)
    part_typed (NoneTerm t) h m = itself (NoneTerm t) h m
    part_typed (LiteralTerm l) h m = itself (LiteralTerm l) h m
    part_typed (RecordTerm fs) h m = ⊎_elim (λ k. fields_typed fs h k) (itself (RecordTerm fs) h) (split u (subterms_of_fields fs) (RecordTerm fs ∷ []) m)
    part_typed (SetTerm t ts) h m = ⊎_elim (λ k. all_typed ts (first_so (typed_all ts) (are_elements t ts) h) k) (itself (SetTerm t ts) h) (split u (subterms_of_all ts) (SetTerm t ts ∷ []) m)
    part_typed (SomeTerm t) h m = ⊎_elim (λ k. part_typed t h k) (itself (SomeTerm t) h) (split u (subterms t) (SomeTerm t ∷ []) m)
    part_typed (VariableTerm id t) h m = itself (VariableTerm id t) h m

    all_typed : (ts : PlainTerms) → typed_all ts ≡ true → IsOneOf u (subterms_of_all ts) → typed u ≡ true
    all_typed no_terms h m = absurd m
    all_typed (one_term t ts) h m = ⊎_elim (λ k. part_typed t (first_so (typed t) (typed_all ts) h) k) (λ k. all_typed ts (second_so (typed t) (typed_all ts) h) k) (split u (subterms t) (subterms_of_all ts) m)

    fields_typed : (fs : PlainFields) → typed_fields fs ≡ true → IsOneOf u (subterms_of_fields fs) → typed u ≡ true
    fields_typed no_fields h m = absurd m
    fields_typed (one_field a t fs) h m = ⊎_elim (λ k. part_typed t (first_so (typed t) (typed_fields fs) h) k) (λ k. fields_typed fs (second_so (typed t) (typed_fields fs) h) k) (split u (subterms t) (subterms_of_fields fs) m)

-- nor has a part of a typed term a fault where the term has none
module _ (enums : Enums) (u : PlainTerm) where
  itself_sound : (t : PlainTerm) → term_fault enums t ≡ None → IsOneOf u (t ∷ []) → term_fault enums u ≡ None
  itself_sound t f m = ⊎_elim (λ e. subst (λ x. term_fault enums x ≡ None) (sym e) f) (λ n. absurd n) m

  mutual
    part_sound : (t : PlainTerm) → typed t ≡ true → term_fault enums t ≡ None → IsOneOf u (subterms t) → term_fault enums u ≡ None
    part_sound (Application o ts t) h f m =
        let r : result_type o (types_of ts) ≡ Some t = is_type-some (result_type o (types_of ts)) t (second_so (typed_all ts) (is_type (result_type o (types_of ts)) t) h) in
        let e : option_or (type_fault enums t) (option_or (terms_fault enums ts) (operator_fault enums o (types_of ts))) ≡ None = not-passed (is_passed_over o (types_of ts) t) _ (walked enums o (types_of ts) t r) f in
        ⊎_elim (λ k. all_sound ts (first_so (typed_all ts) (is_type (result_type o (types_of ts)) t) h) (none-first (terms_fault enums ts) (operator_fault enums o (types_of ts)) (none-second (type_fault enums t) _ e)) k) (itself_sound (Application o ts t) f) (split u (subterms_of_all ts) (Application o ts t ∷ []) m)
    part_sound (NoneTerm t) h f m = itself_sound (NoneTerm t) f m
    part_sound (LiteralTerm l) h f m = itself_sound (LiteralTerm l) f m
    part_sound (RecordTerm fs) h f m = ⊎_elim (λ k. fields_sound fs h (none-second (type_fault enums (type_of (RecordTerm fs))) (fields_fault enums fs) f) k) (itself_sound (RecordTerm fs) f) (split u (subterms_of_fields fs) (RecordTerm fs ∷ []) m)
    part_sound (SetTerm t ts) h f m = ⊎_elim (λ k. all_sound ts (first_so (typed_all ts) (are_elements t ts) h) (none-second (type_fault enums t) (terms_fault enums ts) f) k) (itself_sound (SetTerm t ts) f) (split u (subterms_of_all ts) (SetTerm t ts ∷ []) m)
    part_sound (SomeTerm t) h f m = ⊎_elim (λ k. part_sound t h (none-second (type_fault enums (type_of t)) (term_fault enums t) f) k) (itself_sound (SomeTerm t) f) (split u (subterms t) (SomeTerm t ∷ []) m)
    part_sound (VariableTerm id t) h f m = itself_sound (VariableTerm id t) f m

    all_sound : (ts : PlainTerms) → typed_all ts ≡ true → terms_fault enums ts ≡ None → IsOneOf u (subterms_of_all ts) → term_fault enums u ≡ None
    all_sound no_terms h f m = absurd m
    all_sound (one_term t ts) h f m = ⊎_elim (λ k. part_sound t (first_so (typed t) (typed_all ts) h) (none-first (term_fault enums t) (terms_fault enums ts) f) k) (λ k. all_sound ts (second_so (typed t) (typed_all ts) h) (none-second (term_fault enums t) (terms_fault enums ts) f) k) (split u (subterms t) (subterms_of_all ts) m)

    fields_sound : (fs : PlainFields) → typed_fields fs ≡ true → fields_fault enums fs ≡ None → IsOneOf u (subterms_of_fields fs) → term_fault enums u ≡ None
    fields_sound no_fields h f m = absurd m
    fields_sound (one_field a t fs) h f m = ⊎_elim (λ k. part_sound t (first_so (typed t) (typed_fields fs) h) (none-first (term_fault enums t) (fields_fault enums fs) f) k) (λ k. fields_sound fs (second_so (typed t) (typed_fields fs) h) (none-second (term_fault enums t) (fields_fault enums fs) f) k) (split u (subterms t) (subterms_of_fields fs) m)

pub parts_have_values : PartsHaveValues
parts_have_values enums [] u t f w m I g = absurd m
parts_have_values enums (r ∷ roots) u t f w m I g =
    ⊎_elim (λ k. valued enums I u (part_typed u r t.0 k) (part_sound enums u r t.0 (none-first (term_fault enums r) (first_fault enums roots) w) k) (inside IsFormedNode u r f.0.literals k) (inside (IsGiven enums I) u r (all-front (IsGiven enums I) (subterms r) (reached_terms roots) g) k))
    (λ k. parts_have_values enums roots u t.1 f.1 (none-second (term_fault enums r) (first_fault enums roots) w) k I (all-back (IsGiven enums I) (subterms r) (reached_terms roots) g))
    (split u (subterms r) (reached_terms roots) m)

pub roots_have_shapes : RootsHaveShapes
roots_have_shapes enums t ty h f I g = subst (λ x. IsShaped x (meaning I t)) h.type (term_shaped enums I t h.parts f.literals (all-front (IsGiven enums I) (subterms t) [] g))

pub parts_have_shapes : PartsHaveShapes
parts_have_shapes enums [] u t f m I g = absurd m
parts_have_shapes enums (r ∷ roots) u t f m I g =
    ⊎_elim (λ k. term_shaped enums I u (part_typed u r t.0 k) (inside IsFormedNode u r f.0.literals k) (inside (IsGiven enums I) u r (all-front (IsGiven enums I) (subterms r) (reached_terms roots) g) k))
    (λ k. parts_have_shapes enums roots u t.1 f.1 k I (all-back (IsGiven enums I) (subterms r) (reached_terms roots) g))
    (split u (subterms r) (reached_terms roots) m)

-- ---- what is built of parts

module _ (enums : Enums) (I : Interpretation) where
  known_extension : (o : ExtensionOp) → is_known_extension o ≡ true → IsGivenSelector enums I o
  known_extension IpAddrV4Op e = cc
  known_extension IpAddrV6Op e = cc
  known_extension IpPrefixV4Op e = cc
  known_extension IpPrefixV6Op e = cc
  known_extension o e = tt

  known_op : (o : PlainOp) (t : PlainType) → is_known_op o ≡ true → IsGivenOp enums I o t
  known_op (UufOp f) t e = cc
  known_op OptionGetOp t e = cc
  known_op (ExtOp o) t e = known_extension o e
  known_op o t e = tt

  known_given : (u : PlainTerm) → is_known_here u ≡ true → IsGiven enums I u
  known_given (VariableTerm id t) e = cc
  known_given (Application o ts t) e = known_op o t e
  known_given (NoneTerm t) e = tt
  known_given (LiteralTerm l) e = tt
  known_given (RecordTerm fs) e = tt
  known_given (SetTerm t ts) e = tt
  known_given (SomeTerm t) e = tt

  given_one : (us : List PlainTerm) (u : PlainTerm) → AllByRecursion (IsGiven enums I) us → IsOneOf u us → IsGiven enums I u
  given_one [] u h m = absurd m
  given_one (v ∷ us) u h m = ⊎_elim (λ e. subst (IsGiven enums I) (sym e) h.0) (λ n. given_one us u h.1 n) m

  all_given : (rs us : List PlainTerm) → AllByRecursion (IsGiven enums I) rs → AllByRecursion (λ u. IsOneOf u rs ⊎ (is_known_here u ≡ true)) us → AllByRecursion (IsGiven enums I) us
  all_given rs [] g k = tt
  all_given rs (u ∷ us) g k = (⊎_elim (λ m. given_one rs u g m) (λ e. known_given u e) k.0, all_given rs us g k.1)

pub built_have_shapes : BuiltHaveShapes
built_have_shapes enums roots t h f k I g = term_shaped enums I t h f (all_given enums I (reached_terms roots) (subterms t) g k)

pub built_have_values : BuiltHaveValues
built_have_values enums roots t h f w k I g = valued enums I t h w f (all_given enums I (reached_terms roots) (subterms t) g k)
