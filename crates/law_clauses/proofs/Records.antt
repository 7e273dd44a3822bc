-- Clauses of records are valid.
use Rattle.std.proofs.Common.{◌≡◌, ℕ, Bool, true, false, ◌||◌, List, ap, refl, sym, ◌∙◌}
use Rattle.std.specs.Prelude.{bytes_eq, not, Option, Some, ⊤}
use Rattle.std.specs.List.{list_any}
use Rattle.std.specs.Option.{unwrap_or}
use Rattle.std.proofs.lemmas.Bool.{and_parts}
use Rattle.law_terms.proofs.ValueOrder.{bytes_itself}
use Rattle.law_terms.specs.Meaning.{meaning, field_meanings}
use Rattle.law_terms.specs.Operators.{attribute_value, field_value}
use Rattle.law_terms.specs.Parts.{attribute_names}
use Rattle.law_terms.specs.Plain.{RecordType, AttributeTypes, no_attributes, attribute, PlainTerm, PlainFields, no_fields, one_field}
use Rattle.law_terms.specs.Shapes.{IsShaped, AreShapedFields}
use Rattle.law_terms.specs.Tables.{Interpretation}
use Rattle.law_terms.specs.Values.{Value, BoolValue, BitVecValue, StringValue, EntityValue, ExtensionValue, NoneValue, SomeValue, RecordValue, SetValue, FieldValues, no_field_values, one_field_value}
use Rattle.law_clauses.specs.Records.{RecordsAreValid, are_distinct, field_term, own_fields}
use Rattle.law_clauses.proofs.Structure.{is_same}

found : (I : Interpretation) (a : List ℕ) (fs : PlainFields) (t : PlainTerm) → field_term a fs ≡ Some t → field_value a (field_meanings I fs) ≡ meaning I t
found I a no_fields t e = cc
found I a (one_field b u fs) t e = by (bytes_eq a b) e (λ k. found I a fs t k)
  where
    by : (c : Bool) → ◌≡◌ {A = Option PlainTerm} (elim c [ true ↦ Some u | false ↦ field_term a fs ]) (Some t) → (field_term a fs ≡ Some t → field_value a (field_meanings I fs) ≡ meaning I t) → elim c [ true ↦ meaning I u | false ↦ field_value a (field_meanings I fs) ] ≡ meaning I t
    by true k later = ap (λ o. meaning I (unwrap_or o u)) k
    by false k later = later k

-- each field has the value that F gives its attribute
abbrev Finds : (List ℕ → Value) → FieldValues → Type 0
Finds F no_field_values = ⊤
Finds F (one_field_value a v fs) = (F a ≡ v) × Finds F fs

not_true : (b : Bool) → not b ≡ true → b ≡ false
not_true true e = sym e
not_true false e = refl

neither : (b c : Bool) → (b || c) ≡ false → (b ≡ false) × (c ≡ false)
neither true c e = cc
neither false c e = (refl, e)

-- so it is with a field before them of another attribute
behind : (F : List ℕ → Value) (a : List ℕ) (v : Value) (x : AttributeTypes) (fs : FieldValues) → AreShapedFields x fs → list_any (λ b. bytes_eq b a) (attribute_names x) ≡ false → Finds F fs → Finds (λ b. elim (bytes_eq b a) [ true ↦ v | false ↦ F b ]) fs
behind F a v no_attributes no_field_values h e f = tt
behind F a v no_attributes (one_field_value b w fs) h e f = absurd h
behind F a v (attribute c t x) no_field_values h e f = absurd h
behind F a v (attribute c t x) (one_field_value b w fs) h e f =
    let p = neither (bytes_eq c a) (list_any (λ d. bytes_eq d a) (attribute_names x)) e in
    (ap (λ q. elim q [ true ↦ v | false ↦ F b ]) (ap (λ d. bytes_eq d a) h.0 ∙ p.0) ∙ f.0, behind F a v x fs h.2 p.1 f.1)

-- where no attribute stands twice, each field is found by its attribute
own : (x : AttributeTypes) (fs : FieldValues) → AreShapedFields x fs → are_distinct x ≡ true → Finds (λ b. field_value b fs) fs
own no_attributes no_field_values h e = tt
own no_attributes (one_field_value b w fs) h e = absurd h
own (attribute c t x) no_field_values h e = absurd h
own (attribute c t x) (one_field_value b w fs) h e =
    let p = and_parts (not (list_any (λ d. bytes_eq d c) (attribute_names x))) (are_distinct x) e in
    let q : list_any (λ d. bytes_eq d b) (attribute_names x) ≡ false = ap (λ y. list_any (λ d. bytes_eq d y) (attribute_names x)) h.0 ∙ not_true (list_any (λ d. bytes_eq d c) (attribute_names x)) p.0 in
    (ap (λ q. elim q [ true ↦ w | false ↦ field_value b fs ]) (bytes_itself b), behind (λ d. field_value d fs) b w x fs h.2 q (own x fs h.2 p.1))

made : (I : Interpretation) (r : PlainTerm) (x : AttributeTypes) (fs : FieldValues) → AreShapedFields x fs → Finds (λ b. attribute_value b (meaning I r)) fs → fs ≡ field_meanings I (own_fields x r)
made I r no_attributes no_field_values h f = refl
made I r no_attributes (one_field_value b w fs) h f = absurd h
made I r (attribute c t x) no_field_values h f = absurd h
made I r (attribute c t x) (one_field_value b w fs) h f =
    let p : w ≡ attribute_value c (meaning I r) = sym f.0 ∙ ap (λ y. attribute_value y (meaning I r)) h.0 in
    let q = made I r x fs h.2 f.1 in
    λ i. one_field_value (h.0 i) (p i) (q i)

abbrev fields_of : Value → FieldValues
fields_of (RecordValue fs) = fs
fields_of v = no_field_values

record_form : (x : AttributeTypes) (v : Value) → IsShaped (RecordType x) v → (v ≡ RecordValue (fields_of v)) × AreShapedFields x (fields_of v)
record_form x (RecordValue fs) h = (refl, h)
record_form x (BoolValue b) h = absurd h
record_form x (BitVecValue n a) h = absurd h
record_form x (StringValue s) h = absurd h
record_form x (EntityValue e i) h = absurd h
record_form x (ExtensionValue y) h = absurd h
record_form x NoneValue h = absurd h
record_form x (SomeValue v) h = absurd h
record_form x (SetValue vs) h = absurd h

-- each attribute of a record is found in it
found_in : (fs gs : FieldValues) (v : Value) → v ≡ RecordValue fs → Finds (λ b. field_value b fs) gs → Finds (λ b. attribute_value b v) gs
found_in fs no_field_values v e f = tt
found_in fs (one_field_value a w gs) v e f = (ap (attribute_value a) e ∙ f.0, found_in fs gs v e f.1)

pub records_are_valid : RecordsAreValid
records_are_valid = record {
  parts = λ ty a fs t e I h. is_same _ _ (found I a fs t e);
  wholes = λ enums roots x r d s I g h.
      let p = record_form x (meaning I r) (s I g) in
      let fs = fields_of (meaning I r) in
      is_same _ _ (p.0 ∙ ap RecordValue (made I r x fs p.1 (found_in fs fs (meaning I r) p.0 (own x fs p.1 d))));
}
