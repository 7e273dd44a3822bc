-- A typed term has none of the four faults about records.
use Rattle.std.proofs.Common.{◌≡◌, ℕ, Bool, true, false, List, [], ◌∷◌, refl}
use Rattle.std.specs.Prelude.{Option, Some, None, IfSome}
use Rattle.std.specs.Cmp.{first_so, second_so}
use Rattle.std.specs.List.{list_all}
use Rattle.std.specs.Option.{option_or}
use Rattle.law_terms.specs.Faults.{Fault, EnumMissingMember, EncodeStringFailed, EncodePatternFailed, unless, fault_unless, is_string, is_pattern_part, entity_type_fault, entity_fault, literal_fault, attribute_fault, record_get_fault, is_passed_over, type_fault, attribute_types_fault, operator_fault, term_fault, terms_fault, fields_fault, is_about_records}
use Rattle.law_terms.specs.Types.{type_of, field_types, types_of, attribute_in, attribute_type, result_type, is_type}
use Rattle.law_terms.specs.Typing.{are_elements, typed, typed_all, typed_fields}
use Rattle.law_terms.specs.TypeValues.{Enums, members_of}
use Rattle.law_terms.proofs.Soundness.{is_type-some}
use Rattle.law_terms.specs.Plain.{PlainType, OptionType, EntityType, RecordType, SetType, AttributeTypes, no_attributes, attribute, PlainOp, RecordGetOp, StringLikeOp, UufOp, PlainLiteral, EntityLiteral, StringLiteral, PlainTerm, Application, NoneTerm, LiteralTerm, RecordTerm, SetTerm, SomeTerm, VariableTerm, PlainTerms, no_terms, one_term, PlainFields, no_fields, one_field}

abbrev IsFine : Option Fault → Type 0
IsFine o = IfSome o (λ f. is_about_records f ≡ false)

fine_both : (o p : Option Fault) → IsFine o → IsFine p → IsFine (option_or o p)
fine_both None p h g = g
fine_both (Some f) p h g = h

fine_unless : (b : Bool) (o : Option Fault) → IsFine o → IsFine (unless b o)
fine_unless true o h = tt
fine_unless false o h = h

fine_test : (b : Bool) (f : Fault) → is_about_records f ≡ false → IsFine (fault_unless b f)
fine_test true f h = tt
fine_test false f h = h

fine_entity_type : (e : List ℕ) (members : Option (List (List ℕ))) → IsFine (entity_type_fault e members)
fine_entity_type e None = tt
fine_entity_type e (Some []) = refl
fine_entity_type e (Some (m ∷ ms)) = tt

fine_entity : (e i : List ℕ) (members : Option (List (List ℕ))) → IsFine (entity_fault e i members)
fine_entity e i None = fine_test _ (EncodeStringFailed i) refl
fine_entity e i (Some ms) = fine_test _ (EnumMissingMember e i) refl

fine_attribute : (x : List ℕ) (o : Option PlainType) (t : PlainType) → o ≡ Some t → IsFine (attribute_fault x o)
fine_attribute x None t h = cc
fine_attribute x (Some u) t h = tt

fine_get : (x : List ℕ) (t u : PlainType) → attribute_type x t ≡ Some u → IsFine (record_get_fault x (t ∷ []))
fine_get x (RecordType fs) u h = fine_attribute x (attribute_in x fs) u h
fine_get x t u h = cc

module _ (enums : Enums) where
  mutual
    fine_type : (t : PlainType) → IsFine (type_fault enums t)
    fine_type (OptionType t) = fine_type t
    fine_type (EntityType e) = fine_entity_type e (members_of enums e)
    fine_type (RecordType x) = fine_attributes x
    fine_type (SetType t) = fine_type t
    fine_type t = tt

    fine_attributes : (x : AttributeTypes) → IsFine (attribute_types_fault enums x)
    fine_attributes no_attributes = tt
    fine_attributes (attribute a t x) = fine_both (type_fault enums t) (attribute_types_fault enums x) (fine_type t) (fine_attributes x)

  fine_literal : (l : PlainLiteral) → IsFine (literal_fault enums l)
  fine_literal (EntityLiteral e i) = fine_entity e i (members_of enums e)
  fine_literal (StringLiteral s) = fine_test (is_string s) (EncodeStringFailed s) refl
  fine_literal l = tt

  fine_operator : (o : PlainOp) (us : List PlainType) (t : PlainType) → result_type o us ≡ Some t → IsFine (operator_fault enums o us)
  fine_operator (UufOp f) us t h = fine_both (type_fault enums f.argument) (type_fault enums f.output) (fine_type f.argument) (fine_type f.output)
  fine_operator (StringLikeOp p) us t h = fine_test (list_all is_pattern_part p) (EncodePatternFailed p) refl
  fine_operator (RecordGetOp x) [] t h = cc
  fine_operator (RecordGetOp x) (u ∷ []) t h = fine_get x u t h
  fine_operator (RecordGetOp x) (u ∷ v ∷ us) t h = cc
  fine_operator o us t h = tt

  mutual
    pub fine : (t : PlainTerm) → typed t ≡ true → IsFine (term_fault enums t)
    fine (Application o ts t) h =
        let r : result_type o (types_of ts) ≡ Some t = is_type-some (result_type o (types_of ts)) t (second_so (typed_all ts) (is_type (result_type o (types_of ts)) t) h) in
        fine_unless (is_passed_over o (types_of ts) t) _ (fine_both (type_fault enums t) _ (fine_type t) (fine_both (terms_fault enums ts) (operator_fault enums o (types_of ts)) (fine_all ts (first_so (typed_all ts) (is_type (result_type o (types_of ts)) t) h)) (fine_operator o (types_of ts) t r)))
    fine (NoneTerm t) h = fine_type t
    fine (LiteralTerm l) h = fine_both (type_fault enums (type_of (LiteralTerm l))) (literal_fault enums l) (fine_type (type_of (LiteralTerm l))) (fine_literal l)
    fine (RecordTerm fs) h = fine_both (type_fault enums (RecordType (field_types fs))) (fields_fault enums fs) (fine_type (RecordType (field_types fs))) (fine_fields fs h)
    fine (SetTerm t ts) h = fine_both (type_fault enums t) (terms_fault enums ts) (fine_type t) (fine_all ts (first_so (typed_all ts) (are_elements t ts) h))
    fine (SomeTerm t) h = fine_both (type_fault enums (type_of t)) (term_fault enums t) (fine_type (type_of t)) (fine t h)
    fine (VariableTerm id t) h = fine_type t

    fine_all : (ts : PlainTerms) → typed_all ts ≡ true → IsFine (terms_fault enums ts)
    fine_all no_terms h = tt
    fine_all (one_term t ts) h = fine_both (term_fault enums t) (terms_fault enums ts) (fine t (first_so (typed t) (typed_all ts) h)) (fine_all ts (second_so (typed t) (typed_all ts) h))

    fine_fields : (fs : PlainFields) → typed_fields fs ≡ true → IsFine (fields_fault enums fs)
    fine_fields no_fields h = tt
    fine_fields (one_field a t fs) h = fine_both (term_fault enums t) (fields_fault enums fs) (fine t (first_so (typed t) (typed_fields fs) h)) (fine_fields fs (second_so (typed t) (typed_fields fs) h))
