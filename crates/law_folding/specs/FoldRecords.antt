-- Records of pairs, and the folding of the calls on records: the cases in the order in which they are tried.
use Rattle.std.specs.Prelude.{ℕ, true, false, bytes_eq, codes, List, Option, Some, None}
use Rattle.std.specs.Option.{unwrap_or}
use Rattle.law_folding.specs.Applications.{record_get_of}
use Rattle.law_terms.specs.Types.{attribute_type, type_of}
use Rattle.law_terms.specs.ValueOrder.{sorted, text_cmp}
use Rattle.law_terms.specs.Plain.{PlainTerm, RecordTerm, PlainFields, no_fields, one_field, record_fields}

-- the pairs in the order of their attributes' bytes; of pairs of one attribute the last stays
abbrev pub sorted_fields : List (List ℕ × PlainTerm) → List (List ℕ × PlainTerm)
sorted_fields ps = sorted (λ p q. text_cmp p.0 q.0) ps

-- the record of these pairs
abbrev pub record_of_pairs : List (List ℕ × PlainTerm) → PlainTerm
record_of_pairs ps = RecordTerm (record_fields (sorted_fields ps))

-- the record of an entity and of its tag
abbrev pub tag_record : (entity tag : PlainTerm) → PlainTerm
tag_record t u = RecordTerm (one_field (codes "entity") t (one_field (codes "tag") u no_fields))

-- the term of an attribute among fields, if one has it
abbrev pub field_in : List ℕ → PlainFields → Option PlainTerm
field_in x no_fields = None
field_in x (one_field a t fs) = elim (bytes_eq x a) [ true ↦ Some t | false ↦ field_in x fs ]

-- A record gives the attribute's term. Another term of a record type with the attribute: the application. What does not have the
-- attribute, and what is no record, stays: `record.get` takes neither, so that application is not typed, and any term stands for it.
abbrev pub folded_record_get : PlainTerm → (attribute : List ℕ) → PlainTerm
folded_record_get (RecordTerm fs) x = unwrap_or (field_in x fs) (RecordTerm fs)
folded_record_get t x = elim (attribute_type x (type_of t)) [ Some ty ↦ record_get_of t x | None ↦ t ]
