-- What the operators and the literals of extension types are worth.
use Rattle.std.proofs.Common.{◌≡◌, ℕ, true, List, [], ◌∷◌, refl, ap, ap₂, ◌∙◌, Option, Some, None, subst}
use Rattle.std.specs.Prelude.{codes, ℤ}
use Rattle.std.specs.List.{AllByRecursion}
use Rattle.law_terms.specs.Plain.{ExtensionKind, IpAddrKind, DecimalKind, DatetimeKind, DurationKind, PlainType, BitVecType, ExtensionType, ExtensionOp, DatetimeOfBitVecOp, DatetimeValOp, DecimalValOp, DurationOfBitVecOp, DurationValOp, IpAddrV4Op, IpAddrV6Op, IpIsV4Op, IpPrefixV4Op, IpPrefixV6Op, PlainExtension, DecimalOf, Ipv4Of, Ipv6Of, DatetimeOf, DurationOf}
use Rattle.law_terms.specs.Interpretations.{IsGivenSelector, IsOfOtherFamily, empty_table}
use Rattle.law_terms.specs.Operators.{apply_extension}
use Rattle.law_terms.specs.Tables.{Interpretation}
use Rattle.law_terms.specs.Types.{extension_signature}
use Rattle.law_terms.specs.TypeValues.{IsValue, IsExtension, IsPrefix, Enums}
use Rattle.law_terms.specs.Values.{Value, ExtensionValue}
use Rattle.law_scripts.specs.ScriptValues.{ScriptValue, BitsOf, ConstructorOf}
use Rattle.law_texts.specs.Reading.{Expression}
use Rattle.law_numbers.specs.Widths.{is_width}
use Rattle.law_numbers.specs.BitVectors.{bits_of}
use Rattle.law_numbers.proofs.BitRanges.{bits_of-below}
use Rattle.law_scripts.specs.Script.{State, Builds, Selects, name, group}
use Rattle.law_scripts.specs.Sorts as sorts
use Rattle.law_scripts.specs.Sorts.{entries, bit_sort, option_sort}
use Rattle.law_scripts.specs.DeclarationLines.{Declares}
use Rattle.law_scripts.specs.Value.{ScriptInterpretation, expression_value, selected, script_values}
use Rattle.law_scripts.specs.Meanings.{argument_values}
use Rattle.law_scripts.proofs.Apply.{constructors_apply, selectors_apply, tests_apply, nones_have_values}
use Rattle.law_lines.specs.LineForms.{prefix_body, extension_body, extension_op_head, kind_constructors}
use Rattle.law_lines.specs.EntryNames.{kind_name, selector_name}
use Rattle.law_lines.specs.Lines.{bits}
use Rattle.law_lines.specs.NameTables.{Tables, name_of_type}
use Rattle.law_lines.specs.Naming.{type_name}
use Rattle.law_lines.specs.Entries.{TypeHasEntries}
use Rattle.law_lines.specs.Command.{all_built}
use Rattle.law_lines.proofs.Declared.{types_are_declared}
use Rattle.law_theorem.specs.Carry.{carry, carry_extension, carry_prefix, alone}
use Rattle.law_theorem.specs.CarriedOperators.{selector_datatype, selector_constructor, selector_place, carry_selector}
use Rattle.law_theorem.proofs.Selectors.{extension_selected, datetime_built, duration_built}
use Rattle.law_theorem.proofs.Named.{some_there}
use Rattle.law_theorem.proofs.Worth.{Follows, carried, Worth, IsEntered, bits_worth, bits_fit}

module _ (enums : Enums) (s : Tables) (state : State) (I : Interpretation) (x : Follows enums s state I) where
  abbrev J : ScriptInterpretation
  J = carried enums s state I

  abbrev Has : Expression → PlainType → Value → Type 0
  Has e ty v = Worth enums s state I e ty v

  -- what the line of a kind declares
  abbrev kind_name_of : ExtensionKind → List ℕ
  kind_name_of kind = kind_name kind

  kind_declared : (kind : ExtensionKind) → TypeHasEntries s (ExtensionType kind) → Declares (entries state) (kind_name_of kind) [] 0 (all_built (kind_constructors kind))
  kind_declared kind h =
      subst (λ n. Declares (entries state) n [] 0 (all_built (kind_constructors kind))) (x.kinds kind h)
      (types_are_declared enums s state (ExtensionType kind) (type_name s (ExtensionType kind)) x.fit (some_there (name_of_type s (ExtensionType kind)) h)).0.0.1

  one_value : (e : Expression) (v : ScriptValue) → expression_value J state e ≡ Some v → argument_values J state (e ∷ []) ≡ Some (v ∷ [])
  one_value e v h = ap (λ (o : Option ScriptValue). sorts.each_there (o ∷ [])) h

  -- a constructor of one argument
  pub built : (c d : List ℕ) (ps : List (List ℕ)) (place : ℕ) (field e : Expression) (v : ScriptValue) → entries state c ≡ Some (Builds d ps place (field ∷ [])) → expression_value J state e ≡ Some v
      → expression_value J state (group (name c ∷ e ∷ [])) ≡ Some (ConstructorOf place c (alone v))
  built c d ps place field e v h k = constructors_apply J state c d ps place (field ∷ []) e [] (v ∷ []) (x.last.own c (Builds d ps place (field ∷ [])) h) h (one_value e v k) refl

  pub built_of_two : (c d : List ℕ) (place : ℕ) (a b e f : Expression) (v w : ScriptValue) → entries state c ≡ Some (Builds d [] place (a ∷ b ∷ [])) → expression_value J state e ≡ Some v → expression_value J state f ≡ Some w
      → expression_value J state (group (name c ∷ e ∷ f ∷ [])) ≡ Some (ConstructorOf place c (script_values (v ∷ w ∷ [])))
  built_of_two c d place a b e f v w h k l =
      constructors_apply J state c d [] place (a ∷ b ∷ []) e (f ∷ []) (v ∷ w ∷ []) (x.last.own c (Builds d [] place (a ∷ b ∷ [])) h) h (ap₂ (λ (o p : Option ScriptValue). sorts.each_there (o ∷ p ∷ [])) k l) refl

  -- ---- selectors

  selection : (o : ExtensionOp) (field e sort : Expression) (w : Value) → entries state (selector_name o) ≡ Some (Selects (selector_datatype o) [] (selector_constructor o) (selector_place o) field) → sorts.expression_sort state e ≡ Some sort
      → selected J (selector_name o) (selector_datatype o) [] (selector_constructor o) (selector_place o) (Some sort) (carry enums s (extension_signature o).0 w) ≡ Some (carry enums s (extension_signature o).1 (apply_extension I o w))
      → Has e (extension_signature o).0 w → Has (group (name (selector_name o) ∷ e ∷ [])) (extension_signature o).1 (apply_extension I o w)
  selection o field e sort w h q gives k =
      selectors_apply J state (selector_name o) (selector_datatype o) [] (selector_constructor o) (selector_place o) field e (carry enums s (extension_signature o).0 w) (x.last.own (selector_name o) (Selects (selector_datatype o) [] (selector_constructor o) (selector_place o) field) h) h k
      ∙ ap (λ (t : Option Expression). selected J (selector_name o) (selector_datatype o) [] (selector_constructor o) (selector_place o) t (carry enums s (extension_signature o).0 w)) q
      ∙ gives

  -- each key is a range
  ranges : (o : ExtensionOp) (es : List (Value × Value)) → AllByRecursion (λ e. IsOfOtherFamily o e.0 × IsValue enums (ExtensionType IpAddrKind) e.0) es → AllByRecursion (λ e. IsValue enums (ExtensionType IpAddrKind) e.0) es
  ranges o [] h = tt
  ranges o (e ∷ es) h = (h.0.1, ranges o es h.1)

  -- a value of one constructor asks nothing of an interpretation
  abbrev empty : Interpretation
  empty = record I { other_family = λ o. empty_table }

  abbrev answering : ExtensionOp → ScriptInterpretation
  answering o = record J { selectors = λ n. carry_selector enums s empty o }

  decimal : (sort : Expression) (w : Value) → IsValue enums (ExtensionType DecimalKind) w
      → selected J (codes "decimalVal") (codes "Decimal") [] (codes "Decimal") 0 (Some sort) (carry enums s (ExtensionType DecimalKind) w) ≡ Some (carry enums s (BitVecType 64) (apply_extension I DecimalValOp w))
  decimal sort (ExtensionValue (DecimalOf z)) h = extension_selected enums s x.enum_types empty (answering DecimalValOp) DecimalValOp sort (ExtensionValue (DecimalOf z)) refl h tt refl
  decimal sort w h = absurd h

  datetime : (sort : Expression) (w : Value) → IsValue enums (ExtensionType DatetimeKind) w
      → selected J (codes "datetimeVal") (codes "Datetime") [] (codes "Datetime") 0 (Some sort) (carry enums s (ExtensionType DatetimeKind) w) ≡ Some (carry enums s (BitVecType 64) (apply_extension I DatetimeValOp w))
  datetime sort (ExtensionValue (DatetimeOf z)) h = extension_selected enums s x.enum_types empty (answering DatetimeValOp) DatetimeValOp sort (ExtensionValue (DatetimeOf z)) refl h tt refl
  datetime sort w h = absurd h

  duration : (sort : Expression) (w : Value) → IsValue enums (ExtensionType DurationKind) w
      → selected J (codes "durationVal") (codes "Duration") [] (codes "Duration") 0 (Some sort) (carry enums s (ExtensionType DurationKind) w) ≡ Some (carry enums s (BitVecType 64) (apply_extension I DurationValOp w))
  duration sort (ExtensionValue (DurationOf z)) h = extension_selected enums s x.enum_types empty (answering DurationValOp) DurationValOp sort (ExtensionValue (DurationOf z)) refl h tt refl
  duration sort w h = absurd h

  family : (d : List ℕ) (fields : List Expression) (e : Expression) (w : Value) → entries state (codes "V4") ≡ Some (Builds d [] 0 fields) → IsValue enums (ExtensionType IpAddrKind) w → Has e (ExtensionType IpAddrKind) w
      → Has (group (extension_op_head IpIsV4Op ∷ e ∷ [])) (extension_signature IpIsV4Op).1 (apply_extension I IpIsV4Op w)
  family d fields e (ExtensionValue (Ipv4Of a p)) h v k = tests_apply J state (codes "V4") d [] 0 fields e _ _ _ h k
  family d fields e (ExtensionValue (Ipv6Of a p)) h v k = tests_apply J state (codes "V4") d [] 0 fields e _ _ _ h k
  family d fields e w h v k = absurd v

  -- An operator of an extension type, at an argument of its type.
  pub extension_worth : (o : ExtensionOp) (e : Expression) (w : Value) → IsGivenSelector enums I o → TypeHasEntries s (extension_signature o).0 → TypeHasEntries s (extension_signature o).1
      → (IsEntered (extension_signature o).0 → (sort : Expression) × (sorts.expression_sort state e ≡ Some sort)) → IsValue enums (extension_signature o).0 w → Has e (extension_signature o).0 w
      → Has (group (extension_op_head o ∷ e ∷ [])) (extension_signature o).1 (apply_extension I o w)
  extension_worth DatetimeOfBitVecOp e w g h k q v a =
      built (codes "Datetime") (kind_name_of DatetimeKind) [] 0 (bit_sort 64) e (carry enums s (BitVecType 64) w) (kind_declared DatetimeKind k).0 a ∙ ap (λ (y : ScriptValue). Some y) (datetime_built enums s I w v)
  extension_worth DurationOfBitVecOp e w g h k q v a =
      built (codes "Duration") (kind_name_of DurationKind) [] 0 (bit_sort 64) e (carry enums s (BitVecType 64) w) (kind_declared DurationKind k).0 a ∙ ap (λ (y : ScriptValue). Some y) (duration_built enums s I w v)
  extension_worth DatetimeValOp e w g h k q v a = let r = q tt in selection DatetimeValOp (bit_sort 64) e r.0 w (kind_declared DatetimeKind h).1.0 r.1 (datetime r.0 w v) a
  extension_worth DecimalValOp e w g h k q v a = let r = q tt in selection DecimalValOp (bit_sort 64) e r.0 w (kind_declared DecimalKind h).1.0 r.1 (decimal r.0 w v) a
  extension_worth DurationValOp e w g h k q v a = let r = q tt in selection DurationValOp (bit_sort 64) e r.0 w (kind_declared DurationKind h).1.0 r.1 (duration r.0 w v) a
  extension_worth IpIsV4Op e w g h k q v a = family (kind_name_of IpAddrKind) (bit_sort 32 ∷ option_sort (bit_sort 5) ∷ []) e w (kind_declared IpAddrKind h).0 v a
  extension_worth IpAddrV4Op e w g h k q v a =
      let r = q tt in
      selection IpAddrV4Op (bit_sort 32) e r.0 w (kind_declared IpAddrKind h).1.0 r.1
      (extension_selected enums s x.enum_types I J IpAddrV4Op r.0 w refl v (ranges IpAddrV4Op (I.other_family IpAddrV4Op).entries g.keys) refl) a
  extension_worth IpPrefixV4Op e w g h k q v a =
      let r = q tt in
      selection IpPrefixV4Op (option_sort (bit_sort 5)) e r.0 w (kind_declared IpAddrKind h).1.1.0 r.1
      (extension_selected enums s x.enum_types I J IpPrefixV4Op r.0 w refl v (ranges IpPrefixV4Op (I.other_family IpPrefixV4Op).entries g.keys) refl) a
  extension_worth IpAddrV6Op e w g h k q v a =
      let r = q tt in
      selection IpAddrV6Op (bit_sort 128) e r.0 w (kind_declared IpAddrKind h).2.1.0 r.1
      (extension_selected enums s x.enum_types I J IpAddrV6Op r.0 w refl v (ranges IpAddrV6Op (I.other_family IpAddrV6Op).entries g.keys) refl) a
  extension_worth IpPrefixV6Op e w g h k q v a =
      let r = q tt in
      selection IpPrefixV6Op (option_sort (bit_sort 7)) e r.0 w (kind_declared IpAddrKind h).2.1.1.0 r.1
      (extension_selected enums s x.enum_types I J IpPrefixV6Op r.0 w refl v (ranges IpPrefixV6Op (I.other_family IpPrefixV6Op).entries g.keys) refl) a

  -- ---- literals

  pub none_there : entries state (codes "none") ≡ Some (Builds (codes "Option") (codes "X" ∷ []) 0 [])
  none_there = x.fit.option_is_declared.1.0

  pub some_entry : entries state (codes "some") ≡ Some (Builds (codes "Option") (codes "X" ∷ []) 1 (name (codes "X") ∷ []))
  some_entry = x.fit.option_is_declared.1.2.0

  long_worth : (z : ℤ) → expression_value J state (bits 64 (bits_of 64 z)) ≡ Some (BitsOf 64 (bits_of 64 z))
  long_worth z = bits_worth enums s state I 64 (bits_of 64 z) (bits_fit 64 (bits_of 64 z) refl (bits_of-below 64 z))

  prefix_worth : (width : ℕ) (p : Option ℕ) → is_width width ≡ true → IsPrefix width p → expression_value J state (prefix_body width p) ≡ Some (carry_prefix width p)
  prefix_worth width None w h = nones_have_values J state (codes "Option") (codes "X" ∷ []) 0 (option_sort (bit_sort width)) none_there
  prefix_worth width (Some n) w h = built (codes "some") (codes "Option") (codes "X" ∷ []) 1 (name (codes "X")) (bits width n) (BitsOf width n) some_entry (bits_worth enums s state I width n (bits_fit width n w h))

  -- The body of an extension literal.
  pub body_worth : (y : PlainExtension) (kind : ExtensionKind) → IsExtension kind y → TypeHasEntries s (ExtensionType kind) → expression_value J state (extension_body y) ≡ Some (carry_extension y)
  body_worth (DecimalOf z) DecimalKind h k = built (codes "Decimal") (kind_name_of DecimalKind) [] 0 (bit_sort 64) (bits 64 (bits_of 64 z)) (BitsOf 64 (bits_of 64 z)) (kind_declared DecimalKind k).0 (long_worth z)
  body_worth (DatetimeOf z) DatetimeKind h k = built (codes "Datetime") (kind_name_of DatetimeKind) [] 0 (bit_sort 64) (bits 64 (bits_of 64 z)) (BitsOf 64 (bits_of 64 z)) (kind_declared DatetimeKind k).0 (long_worth z)
  body_worth (DurationOf z) DurationKind h k = built (codes "Duration") (kind_name_of DurationKind) [] 0 (bit_sort 64) (bits 64 (bits_of 64 z)) (BitsOf 64 (bits_of 64 z)) (kind_declared DurationKind k).0 (long_worth z)
  body_worth (Ipv4Of a p) IpAddrKind h k =
      built_of_two (codes "V4") (kind_name_of IpAddrKind) 0 (bit_sort 32) (option_sort (bit_sort 5)) (bits 32 a) (prefix_body 5 p) (BitsOf 32 a) (carry_prefix 5 p) (kind_declared IpAddrKind k).0
      (bits_worth enums s state I 32 a (bits_fit 32 a refl h.0)) (prefix_worth 5 p refl h.1)
  body_worth (Ipv6Of a p) IpAddrKind h k =
      built_of_two (codes "V6") (kind_name_of IpAddrKind) 1 (bit_sort 128) (option_sort (bit_sort 7)) (bits 128 a) (prefix_body 7 p) (BitsOf 128 a) (carry_prefix 7 p) (kind_declared IpAddrKind k).2.0
      (bits_worth enums s state I 128 a (bits_fit 128 a refl h.0)) (prefix_worth 7 p refl h.1)
  body_worth y kind h k = absurd h
