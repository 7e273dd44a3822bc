-- Clauses of records.
use Rattle.std.specs.Prelude.{◌≡◌, bytes_eq, not, ◌&&◌, ℕ, Bool, true, false, List, Option, Some, None, IsTrue}
use Rattle.std.specs.List.{list_any}
use Rattle.law_terms.specs.Parts.{attribute_names}
use Rattle.law_terms.specs.Plain.{PlainType, RecordType, AttributeTypes, no_attributes, attribute, PlainTerm, RecordTerm, PlainFields}
use Rattle.law_terms.specs.Plain.{no_fields, one_field}
use Rattle.law_terms.specs.TypeValues.{Enums}
use Rattle.law_clauses.specs.Applications.{attribute_term}
use Rattle.law_clauses.specs.Sequents.{IsAlwaysValid, IsValid, Sequent, always}
use Rattle.law_clauses.specs.Shapes.{HasShape}
use Rattle.law_clauses.specs.Statements.{same_terms}

-- the term of the first field of an attribute
abbrev pub field_term : List ℕ → PlainFields → Option PlainTerm
field_term a no_fields = None
field_term a (one_field b t fs) = elim (bytes_eq a b) [ true ↦ Some t | false ↦ field_term a fs ]

-- an attribute of a record of terms is its term
abbrev pub attribute_of_record : PlainType → List ℕ → PlainFields → PlainTerm → Sequent
attribute_of_record ty a fs t = always (same_terms (attribute_term ty a (RecordTerm fs)) t)

-- the fields of a record, each as an attribute of it
abbrev pub own_fields : AttributeTypes → PlainTerm → PlainFields
own_fields no_attributes r = no_fields
own_fields (attribute a t x) r = one_field a (attribute_term t a r) (own_fields x r)

-- A record is the same as the record of its attributes. So two with the same attributes are the same, by congruence.
abbrev pub record_of_attributes : AttributeTypes → PlainTerm → Sequent
record_of_attributes x r = always (same_terms r (RecordTerm (own_fields x r)))

-- no attribute stands twice
abbrev pub are_distinct : AttributeTypes → Bool
are_distinct no_attributes = true
are_distinct (attribute a t x) = not (list_any (λ b. bytes_eq b a) (attribute_names x)) && are_distinct x

-- both are valid, the second of a term of a record type
pub record RecordsAreValid : Type 0 where
  pub parts :
      (ty : PlainType) (a : List ℕ) (fs : PlainFields) (t : PlainTerm)
      → field_term a fs ≡ Some t → IsAlwaysValid (attribute_of_record ty a fs t)
  pub wholes :
      (enums : Enums) (roots : List PlainTerm) (x : AttributeTypes) (r : PlainTerm)
      → IsTrue (are_distinct x) → HasShape enums roots r (RecordType x) → IsValid enums roots (record_of_attributes x r)
