-- The default values are values of their types, and give an interpretation.
use Rattle.std.proofs.Common.{◌≡◌, ℕ, true, List, [], ◌∷◌, ◌++◌, refl, ap, arith}
use Rattle.std.specs.Prelude.{bytes_eq, Option, Some, None, ◌||◌}
use Rattle.std.specs.Cmp.{first_so, second_so}
use Rattle.std.specs.List.{AllByRecursion, list_any}
use Rattle.std.specs.Str.{chars}
use Rattle.std.specs.Option.{option_or}
use Rattle.law_terms.specs.Defaults.{default_id, default_value, default_fields, default_interpretation}
use Rattle.law_terms.specs.Faults.{entity_type_fault, type_fault, attribute_types_fault, operator_fault, term_fault, terms_fault, fields_fault, first_fault, is_passed_over}
use Rattle.law_terms.specs.Interpretations.{IsGivenOp, IsGiven, IsInterpretation}
use Rattle.law_terms.specs.Reached.{subterms, subterms_of_all, subterms_of_fields}
use Rattle.law_terms.specs.Types.{type_of, field_types, types_of, result_type, is_type}
use Rattle.law_terms.specs.Typing.{are_elements, typed, typed_all, typed_fields, AreTyped}
use Rattle.law_terms.specs.TypeValues.{Enums, members_of, IsId, IsValue, AreFieldValues}
use Rattle.law_numbers.proofs.BitRanges.{positive}
use Rattle.law_terms.proofs.Soundness.{none-first, none-second, not-passed, walked, is_type-some}
use Rattle.law_terms.proofs.ValueOrder.{bytes_itself}
use Rattle.law_terms.specs.Plain.{IpAddrKind, DecimalKind, DatetimeKind, DurationKind, PlainType, OptionType, BitVecType, BoolType, EntityType, ExtensionType, StringType, RecordType, SetType, AttributeTypes, no_attributes, attribute, IpAddrV4Op, IpAddrV6Op, IpPrefixV4Op, IpPrefixV6Op, PlainOp, ExtOp, OptionGetOp, UufOp, PlainTerm, Application, NoneTerm, LiteralTerm, RecordTerm, SetTerm, SomeTerm, VariableTerm, PlainTerms, no_terms, one_term, PlainFields, no_fields, one_field}

module _ {X : Type 0} (P : X → Type 0) where
  pub all-join : (xs ys : List X) → AllByRecursion P xs → AllByRecursion P ys → AllByRecursion P (xs ++ ys)
  all-join [] ys h g = g
  all-join (x ∷ xs) ys h g = (h.0, all-join xs ys h.1 g)

module _ (enums : Enums) where
  id_default : (e : List ℕ) (members : Option (List (List ℕ))) → entity_type_fault e members ≡ None → IsId members (default_id members)
  id_default e None h = tt
  id_default e (Some []) h = cc
  id_default e (Some (m ∷ ms)) h = ap (λ b. b || list_any (λ n. bytes_eq (chars n) (chars m)) ms) (bytes_itself (chars m))

  mutual
    pub is_default : (t : PlainType) → type_fault enums t ≡ None → IsValue enums t (default_value enums t)
    is_default (OptionType t) h = tt
    is_default (BitVecType n) h = (refl, positive n)
    is_default BoolType h = tt
    is_default (EntityType e) h = (refl, id_default e (members_of enums e) h)
    is_default (ExtensionType IpAddrKind) h = (omega arith, tt)
    is_default (ExtensionType DecimalKind) h = record { sfits = omega arith }
    is_default (ExtensionType DatetimeKind) h = record { sfits = omega arith }
    is_default (ExtensionType DurationKind) h = record { sfits = omega arith }
    is_default StringType h = tt
    is_default (RecordType x) h = are_defaults x h
    is_default (SetType t) h = (refl, tt)

    are_defaults : (x : AttributeTypes) → attribute_types_fault enums x ≡ None → AreFieldValues enums x (default_fields enums x)
    are_defaults no_attributes h = tt
    are_defaults (attribute a t x) h = (refl, is_default t (none-first (type_fault enums t) (attribute_types_fault enums x) h), are_defaults x (none-second (type_fault enums t) (attribute_types_fault enums x) h))

  given_op : (o : PlainOp) (us : List PlainType) (t : PlainType) → type_fault enums t ≡ None → operator_fault enums o us ≡ None → IsGivenOp enums (default_interpretation enums) o t
  given_op (UufOp f) us t h g = record { keys = tt; distinct = tt; answers = tt; elsewhere = is_default f.output (none-second (type_fault enums f.argument) (type_fault enums f.output) g) }
  given_op OptionGetOp us t h g = is_default t h
  given_op (ExtOp IpAddrV4Op) us t h g = record { keys = tt; distinct = tt; answers = tt; elsewhere = is_default (BitVecType 32) refl }
  given_op (ExtOp IpAddrV6Op) us t h g = record { keys = tt; distinct = tt; answers = tt; elsewhere = is_default (BitVecType 128) refl }
  given_op (ExtOp IpPrefixV4Op) us t h g = record { keys = tt; distinct = tt; answers = tt; elsewhere = tt }
  given_op (ExtOp IpPrefixV6Op) us t h g = record { keys = tt; distinct = tt; answers = tt; elsewhere = tt }
  given_op (ExtOp o) us t h g = tt
  given_op o us t h g = tt

  abbrev Given : List PlainTerm → Type 0
  Given ts = AllByRecursion (IsGiven enums (default_interpretation enums)) ts

  abbrev P : PlainTerm → Type 0
  P t = IsGiven enums (default_interpretation enums) t

  mutual
    given : (t : PlainTerm) → typed t ≡ true → term_fault enums t ≡ None → Given (subterms t)
    given (Application o ts t) h f =
        let r : result_type o (types_of ts) ≡ Some t = is_type-some (result_type o (types_of ts)) t (second_so (typed_all ts) (is_type (result_type o (types_of ts)) t) h) in
        let e : option_or (type_fault enums t) (option_or (terms_fault enums ts) (operator_fault enums o (types_of ts))) ≡ None = not-passed (is_passed_over o (types_of ts) t) _ (walked enums o (types_of ts) t r) f in
        let k : option_or (terms_fault enums ts) (operator_fault enums o (types_of ts)) ≡ None = none-second (type_fault enums t) _ e in
        all-join P (subterms_of_all ts) (Application o ts t ∷ []) (all_given ts (first_so (typed_all ts) (is_type (result_type o (types_of ts)) t) h) (none-first (terms_fault enums ts) (operator_fault enums o (types_of ts)) k)) (given_op o (types_of ts) t (none-first (type_fault enums t) _ e) (none-second (terms_fault enums ts) (operator_fault enums o (types_of ts)) k), tt)
    given (NoneTerm t) h f = (tt, tt)
    given (LiteralTerm l) h f = (tt, tt)
    given (RecordTerm fs) h f = all-join P (subterms_of_fields fs) (RecordTerm fs ∷ []) (fields_given fs h (none-second (type_fault enums (RecordType (field_types fs))) (fields_fault enums fs) f)) (tt, tt)
    given (SetTerm t ts) h f = all-join P (subterms_of_all ts) (SetTerm t ts ∷ []) (all_given ts (first_so (typed_all ts) (are_elements t ts) h) (none-second (type_fault enums t) (terms_fault enums ts) f)) (tt, tt)
    given (SomeTerm t) h f = all-join P (subterms t) (SomeTerm t ∷ []) (given t h (none-second (type_fault enums (type_of t)) (term_fault enums t) f)) (tt, tt)
    given (VariableTerm id t) h f = (is_default t f, tt)

    all_given : (ts : PlainTerms) → typed_all ts ≡ true → terms_fault enums ts ≡ None → Given (subterms_of_all ts)
    all_given no_terms h f = tt
    all_given (one_term t ts) h f = all-join P (subterms t) (subterms_of_all ts) (given t (first_so (typed t) (typed_all ts) h) (none-first (term_fault enums t) (terms_fault enums ts) f)) (all_given ts (second_so (typed t) (typed_all ts) h) (none-second (term_fault enums t) (terms_fault enums ts) f))

    fields_given : (fs : PlainFields) → typed_fields fs ≡ true → fields_fault enums fs ≡ None → Given (subterms_of_fields fs)
    fields_given no_fields h f = tt
    fields_given (one_field a t fs) h f = all-join P (subterms t) (subterms_of_fields fs) (given t (first_so (typed t) (typed_fields fs) h) (none-first (term_fault enums t) (fields_fault enums fs) f)) (fields_given fs (second_so (typed t) (typed_fields fs) h) (none-second (term_fault enums t) (fields_fault enums fs) f))

  pub interpreted : (ts : List PlainTerm) → AreTyped ts → first_fault enums ts ≡ None → IsInterpretation enums ts (default_interpretation enums)
  interpreted [] h f = tt
  interpreted (t ∷ ts) h f = all-join P (subterms t) _ (given t h.0 (none-first (term_fault enums t) (first_fault enums ts) f)) (interpreted ts h.1 (none-second (term_fault enums t) (first_fault enums ts) f))
