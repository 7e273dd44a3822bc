-- Tables, selectors and constructors give what is carried.
use Rattle.std.proofs.Common.{◌≡◌, ℕ, suc, Bool, true, false, cond, List, [], ◌∷◌, map, refl, sym, ap, ◌∙◌}
use Rattle.std.specs.Prelude.{codes, bytes_eq, Option, Some, None, unwrap_or}
use Rattle.std.specs.List.{AllByRecursion}
use Rattle.std.specs.Ordering.{ordering_reverse, is_eq}
use Rattle.std.specs.declared.cmp.Ordering.{Ordering}
use Rattle.std.specs.declared.cmp.Ordering.TheVariants.{Less, Equal, Greater}
use Rattle.law_terms.specs.Plain.{IpAddrKind, DatetimeKind, DurationKind, PlainType, OptionType, BitVecType, BoolType, ExtensionType, RecordType, AttributeTypes, no_attributes, attribute, ExtensionOp, DatetimeOfBitVecOp, DatetimeValOp, DecimalValOp, DurationOfBitVecOp, DurationValOp, IpAddrV4Op, IpAddrV6Op, IpIsV4Op, IpPrefixV4Op, IpPrefixV6Op, DecimalOf, Ipv4Of, Ipv6Of, DatetimeOf, DurationOf}
use Rattle.law_terms.specs.Values.{Value, BitVecValue, ExtensionValue, NoneValue, SomeValue, RecordValue, FieldValues, no_field_values, one_field_value}
use Rattle.law_scripts.specs.ScriptValues.{BitsOf, ConstructorOf, ScriptValues}
use Rattle.law_numbers.proofs.TwosComplement.{signed_has_its_bits}
use Rattle.law_terms.specs.Operators.{field_value, attribute_value, value_inside, prefix_value, apply_extension}
use Rattle.law_terms.specs.Tables.{Table, Interpretation, value_among, value_at}
use Rattle.law_terms.specs.Types.{attribute_in, extension_signature}
use Rattle.law_terms.specs.TypeValues.{IsValue, AreFieldValues, Enums, AreEnums}
use Rattle.law_terms.specs.ValueOrder.{value_eq, value_cmp}
use Rattle.law_terms.proofs.ValueOrder.{value_turned, bytes_itself}
use Rattle.law_terms.specs.Parts.{attribute_names}
use Rattle.law_texts.specs.Reading.{Expression}
use Rattle.law_scripts.specs.Script.{Builds}
use Rattle.law_scripts.specs.Value as script
use Rattle.law_scripts.specs.Value.{in_pairs, in_table, selected, is_built, open_selector, other_value}
use Rattle.law_lines.specs.EntryNames.{place_of, selector_name}
use Rattle.law_lines.specs.NameTables.{Tables}
use Rattle.law_lines.specs.Naming.{type_name}
use Rattle.law_theorem.specs.Carry.{carry, carry_fields, carry_prefix, alone}
use Rattle.law_theorem.specs.CarriedOperators.{carry_table, selector_datatype, selector_constructor, selector_place, is_selector, carry_selector, AreRanges}
use Rattle.law_theorem.proofs.Ordered.{same_values}

reversed : (o : Ordering) → is_eq (ordering_reverse o) ≡ is_eq o
reversed Less = refl
reversed Equal = refl
reversed Greater = refl

eq_turned : (v w : Value) → value_eq v w ≡ value_eq w v
eq_turned v w = ap is_eq (value_turned v w) ∙ reversed (value_cmp w v)

-- a constructor's own selector
selected_own : (j : script.ScriptInterpretation) (n d : List ℕ) (ps : List (List ℕ)) (c : List ℕ) (place q : ℕ) (sort : Option Expression) (vs : ScriptValues)
    → selected j n d ps c place sort (ConstructorOf q c vs) ≡ script.value_at place vs
selected_own j n d ps c place q sort vs = ap (λ b. cond b (script.value_at place vs) (other_value j n (open_selector n d ps) sort (ConstructorOf q c vs))) (bytes_itself c)

module _ (enums : Enums) (s : Tables) where
  field_selected : (x : List ℕ) (shape : AttributeTypes) (fs : FieldValues) (t : PlainType) → AreFieldValues enums shape fs → attribute_in x shape ≡ Some t
      → script.value_at (place_of x (attribute_names shape)) (carry_fields enums s shape fs) ≡ Some (carry enums s t (field_value x fs))
  field_selected x no_attributes fs t h e = cc
  field_selected x (attribute a u shape) no_field_values t h e = absurd h
  field_selected x (attribute a u shape) (one_field_value b v fs) t h e =
      by (bytes_eq x a) (bytes_eq x b) (ap (bytes_eq x) (sym h.0)) e (λ p. field_selected x shape fs t h.2 p)
    where
      by : (p r : Bool) → p ≡ r → (elim p as (λ b'. Option PlainType) [ true ↦ Some u | false ↦ attribute_in x shape ]) ≡ Some t
          → (attribute_in x shape ≡ Some t → script.value_at (place_of x (attribute_names shape)) (carry_fields enums s shape fs) ≡ Some (carry enums s t (field_value x fs)))
          → script.value_at (cond p 0 (suc (place_of x (attribute_names shape)))) (carry_fields enums s (attribute a u shape) (one_field_value b v fs)) ≡ Some (carry enums s t (elim r as (λ b'. Value) [ true ↦ v | false ↦ field_value x fs ]))
      by true true g k again = ap (λ y. Some (carry enums s y v)) (ap (λ o. unwrap_or o u) k)
      by false false g k again = again k
      by true false g k again = cc
      by false true g k again = cc

  pub attribute_selected : (j : script.ScriptInterpretation) (n x d : List ℕ) (ps : List (List ℕ)) (sort : Option Expression) (shape : AttributeTypes) (t : PlainType) (v : Value)
      → IsValue enums (RecordType shape) v → attribute_in x shape ≡ Some t
      → selected j n d ps (type_name s (RecordType shape)) (place_of x (attribute_names shape)) sort (carry enums s (RecordType shape) v) ≡ Some (carry enums s t (attribute_value x v))
  attribute_selected j n x d ps sort shape t (RecordValue fs) h e =
      selected_own j n d ps (type_name s (RecordType shape)) (place_of x (attribute_names shape)) 0 sort (carry_fields enums s shape fs) ∙ field_selected x shape fs t h e
  attribute_selected j n x d ps sort shape t v h e = absurd h

  pub option_selected : (I : Interpretation) (j : script.ScriptInterpretation) (p : List ℕ) (sort : Expression) (t : PlainType) (v : Value)
      → IsValue enums (OptionType t) v → j.options sort ≡ carry enums s t (I.inside_none t)
      → selected j (codes "val") (codes "Option") (p ∷ []) (codes "some") 0 (Some sort) (carry enums s (OptionType t) v) ≡ Some (carry enums s t (value_inside (I.inside_none t) v))
  option_selected I j p sort t NoneValue h e = ap (λ x. Some x) e
  option_selected I j p sort t (SomeValue v) h e = refl
  option_selected I j p sort t v h e = absurd h

  module _ (good : AreEnums enums) (argument output : PlainType) where
    pairs_read : (es : List (Value × Value)) (default v : Value) → AllByRecursion (λ e. IsValue enums argument e.0) es → IsValue enums argument v
        → in_pairs (carry enums s argument v) (map (λ e. (carry enums s argument e.0, carry enums s output e.1)) es) (carry enums s output default) ≡ carry enums s output (value_among es default v)
    pairs_read [] default v h k = refl
    pairs_read (e ∷ es) default v h k =
        (λ i. cond (same_values enums s good argument v e.0 k h.0 i) (carry enums s output e.1) (pairs_read es default v h.1 k i))
        ∙ (ap (λ b. cond b (carry enums s output e.1) (carry enums s output (value_among es default v))) (eq_turned v e.0) ∙ by (value_eq e.0 v))
      where
        by : (b : Bool) → cond b (carry enums s output e.1) (carry enums s output (value_among es default v)) ≡ carry enums s output (elim b as (λ b'. Value) [ true ↦ e.1 | false ↦ value_among es default v ])
        by true = refl
        by false = refl

    pub table_read : (table : Table) (v : Value) → AllByRecursion (λ e. IsValue enums argument e.0) table.entries → IsValue enums argument v
        → in_table (carry_table enums s argument output table) (carry enums s argument v) ≡ carry enums s output (value_at table v)
    table_read table v h k = pairs_read table.entries table.elsewhere v h k

  -- ---- extension types

  prefix_carried : (n : ℕ) (p : Option ℕ) → carry_prefix n p ≡ carry enums s (OptionType (BitVecType n)) (prefix_value n p)
  prefix_carried n None = refl
  prefix_carried n (Some p) = refl

  module _ (good : AreEnums enums) (I : Interpretation) (j : script.ScriptInterpretation) where
    other_read : (o : ExtensionOp) (v : Value) → IsValue enums (ExtensionType IpAddrKind) v → AreRanges enums (I.other_family o) → j.selectors (selector_name o) ≡ carry_selector enums s I o
        → Some (in_table (j.selectors (selector_name o)) (carry enums s (ExtensionType IpAddrKind) v)) ≡ Some (carry enums s (extension_signature o).1 (value_at (I.other_family o) v))
    other_read o v h r e = ap (λ t. Some (in_table t (carry enums s (ExtensionType IpAddrKind) v))) e ∙ ap (λ x. Some x) (table_read good (ExtensionType IpAddrKind) (extension_signature o).1 (I.other_family o) v r h)

    pub extension_selected : (o : ExtensionOp) (sort : Expression) (v : Value)
        → is_selector o ≡ true → IsValue enums (extension_signature o).0 v → AreRanges enums (I.other_family o) → j.selectors (selector_name o) ≡ carry_selector enums s I o
        → selected j (selector_name o) (selector_datatype o) [] (selector_constructor o) (selector_place o) (Some sort) (carry enums s (extension_signature o).0 v) ≡ Some (carry enums s (extension_signature o).1 (apply_extension I o v))
    extension_selected DatetimeOfBitVecOp sort v o h r e = cc
    extension_selected DurationOfBitVecOp sort v o h r e = cc
    extension_selected IpIsV4Op sort v o h r e = cc
    extension_selected DecimalValOp sort (ExtensionValue (DecimalOf z)) o h r e = refl
    extension_selected DatetimeValOp sort (ExtensionValue (DatetimeOf z)) o h r e = refl
    extension_selected DurationValOp sort (ExtensionValue (DurationOf z)) o h r e = refl
    extension_selected IpAddrV4Op sort (ExtensionValue (Ipv4Of a p)) o h r e = refl
    extension_selected IpAddrV4Op sort (ExtensionValue (Ipv6Of a p)) o h r e = other_read IpAddrV4Op (ExtensionValue (Ipv6Of a p)) h r e
    extension_selected IpAddrV6Op sort (ExtensionValue (Ipv6Of a p)) o h r e = refl
    extension_selected IpAddrV6Op sort (ExtensionValue (Ipv4Of a p)) o h r e = other_read IpAddrV6Op (ExtensionValue (Ipv4Of a p)) h r e
    extension_selected IpPrefixV4Op sort (ExtensionValue (Ipv4Of a p)) o h r e = ap (λ x. Some x) (prefix_carried 5 p)
    extension_selected IpPrefixV4Op sort (ExtensionValue (Ipv6Of a p)) o h r e = other_read IpPrefixV4Op (ExtensionValue (Ipv6Of a p)) h r e
    extension_selected IpPrefixV6Op sort (ExtensionValue (Ipv6Of a p)) o h r e = ap (λ x. Some x) (prefix_carried 7 p)
    extension_selected IpPrefixV6Op sort (ExtensionValue (Ipv4Of a p)) o h r e = other_read IpPrefixV6Op (ExtensionValue (Ipv4Of a p)) h r e
    extension_selected o sort v x h r e = absurd h

  pub datetime_built : (I : Interpretation) (v : Value) → IsValue enums (BitVecType 64) v → ConstructorOf 0 (codes "Datetime") (alone (carry enums s (BitVecType 64) v)) ≡ carry enums s (ExtensionType DatetimeKind) (apply_extension I DatetimeOfBitVecOp v)
  datetime_built I (BitVecValue m a) h = ap (λ x. ConstructorOf 0 (codes "Datetime") (alone x)) (ap (λ x. BitsOf x a) h.0 ∙ ap (BitsOf 64) (sym (signed_has_its_bits 64 a h.1)))
  datetime_built I v h = absurd h

  pub duration_built : (I : Interpretation) (v : Value) → IsValue enums (BitVecType 64) v → ConstructorOf 0 (codes "Duration") (alone (carry enums s (BitVecType 64) v)) ≡ carry enums s (ExtensionType DurationKind) (apply_extension I DurationOfBitVecOp v)
  duration_built I (BitVecValue m a) h = ap (λ x. ConstructorOf 0 (codes "Duration") (alone x)) (ap (λ x. BitsOf x a) h.0 ∙ ap (BitsOf 64) (sym (signed_has_its_bits 64 a h.1)))
  duration_built I v h = absurd h

  pub family_tested : (I : Interpretation) (v : Value) (d : List ℕ) (ps : List (List ℕ)) (place : ℕ) (fields : List Expression) → IsValue enums (ExtensionType IpAddrKind) v
      → is_built (Some (Builds d ps place fields)) (codes "V4") (carry enums s (ExtensionType IpAddrKind) v) ≡ Some (carry enums s BoolType (apply_extension I IpIsV4Op v))
  family_tested I (ExtensionValue (Ipv4Of a p)) d ps place fields h = refl
  family_tested I (ExtensionValue (Ipv6Of a p)) d ps place fields h = refl
  family_tested I v d ps place fields h = absurd h
