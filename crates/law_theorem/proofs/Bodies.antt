-- The texts of terms have the sorts of the terms' types, and so have the bodies of their definitions.
use Rattle.std.proofs.Common.{◌≡◌, ℕ, suc, ◌+◌, ◌-◌, ◌^◌, ◌<◌, ◌≤◌, Bool, true, false, ◌&&◌, ◌||◌, cond, List, [], ◌∷◌, ◌++◌, length, map, refl, sym, ap, ap₂, ◌∙◌, subst, Option, Some, None, arith}
use Rattle.std.specs.Prelude.{codes, chars, bytes_eq, IsSome, nat_le, if◌then◌else◌, ◌==◌, ℤ}
use Rattle.std.specs.List.{list_all}
use Rattle.std.proofs.lemmas.Bool.{and_parts, or_parts, cond-false, not-true, leb-true, ltb-true}
use Rattle.std.proofs.Math.Pow.{pow-lt}
use Rattle.law_numbers.specs.BitOperators.{bits_entry, test_entry, overflow_entry}
use Rattle.law_numbers.specs.Widths.{are_bits, is_width}
use Rattle.law_numbers.specs.BitVectors.{bits_of}
use Rattle.law_numbers.proofs.BitRanges.{bits_of-below}
use Rattle.law_terms.specs.Plain.{ExtensionKind, IpAddrKind, DecimalKind, DatetimeKind, DurationKind, PlainType, OptionType, BitVecType, BoolType, EntityType, ExtensionType, RecordType, SetType, AttributeTypes, no_attributes, attribute, PatternPart, ExtensionOp, DatetimeOfBitVecOp, DatetimeValOp, DecimalValOp, DurationOfBitVecOp, DurationValOp, IpAddrV4Op, IpAddrV6Op, IpIsV4Op, IpPrefixV4Op, IpPrefixV6Op, PlainOp, BvnegoOp, EqOp, ExtOp, OptionGetOp, RecordGetOp, StringLikeOp, UufOp, ZeroExtendOp, BitsOp, TestOp, OverflowOp, PlainFunction, PlainExtension, DecimalOf, Ipv4Of, Ipv6Of, DatetimeOf, DurationOf, BitVecLiteral, BoolLiteral, EntityLiteral, ExtensionLiteral, StringLiteral, PlainTerm, Application, NoneTerm, LiteralTerm, RecordTerm, SetTerm, SomeTerm, VariableTerm, PlainTerms, no_terms, one_term, PlainFields, no_fields, one_field}
use Rattle.law_terms.specs.Tables.{Interpretation}
use Rattle.law_terms.specs.Types.{type_eq, type_of, field_types, types_of, is_bits, inner_type, attribute_in, attribute_type, extension_signature, result_type, kind_of}
use Rattle.law_terms.specs.TypeValues.{Enums, members_of, IsExtension, IsPrefix}
use Rattle.law_terms.specs.Parts.{attribute_names}
use Rattle.law_terms.proofs.Soundness.{chosen}
use Rattle.law_terms.proofs.TypeOrder.{eq_same}
use Rattle.law_terms.proofs.ValueOrder.{bytes_itself}
use Rattle.law_texts.specs.Lexicon.{Text}
use Rattle.law_texts.specs.Reading.{Expression, Leaf, expressions}
use Rattle.law_scripts.specs.Script.{Entry, Function, Defined, Builds, Selects, State, name, group, pattern, operator_of, is_in, is_reserved, built_in_names}
use Rattle.law_texts.specs.Options.{◌>>=◌}
use Rattle.law_scripts.specs.ScriptOperators.{script_name}
use Rattle.law_scripts.specs.Sorts.{entries, expression_sort, qualified_sort, entry_sort, tested_sort, operator_sort, insert_sort, instance, paired, if_sort, each_there, bool_sort, string_sort, bit_sort, option_sort}
use Rattle.law_scripts.specs.Value.{ScriptInterpretation}
use Rattle.law_scripts.specs.Meanings.{is_own, argument_sorts}
use Rattle.law_scripts.specs.WrittenStrings.{pattern_expr}
use Rattle.law_scripts.specs.DeclarationLines.{DeclaresSelectors, Declares}
use Rattle.law_scripts.proofs.Apply.{operators_apply, extensions_apply, matches_apply, sets_have_values, applications_have_sorts}
use Rattle.law_scripts.proofs.Numbers.{numeral_digits, numeral_number}
use Rattle.law_scripts.proofs.Quotes.{patterns_write}
use Rattle.law_scripts.proofs.Spelled.{bits_found, test_found, overflow_found}
use Rattle.law_lines.specs.LineForms.{attribute_selectors, application_body, least_body, operator_head, extension_op_head, extension_body, prefix_body, none_body, some_body, set_body, empty_set, record_body, entity_body, kind_constructors}
use Rattle.law_lines.specs.EntryNames.{attribute_name, member_name, place_of, kind_name}
use Rattle.law_lines.specs.Lines.{attribute_place, bits, Rendering, AsApplication, AsEqualsIntMin, AsFalse, application_rendering, least_rendering}
use Rattle.law_lines.specs.NameTables.{Tables, name_of_term, name_of_type, name_of_function, text_of_name}
use Rattle.law_lines.specs.Naming.{type_sort, type_name}
use Rattle.law_lines.specs.Entries.{TypeHasEntries, HaveTexts, HaveFieldTexts, HasFunction, text_or_nothing, texts_of, texts_of_fields, attribute_sorts, application_head, application_lines, entity_literal_lines}
use Rattle.law_lines.specs.TermTexts.{text_of}
use Rattle.law_lines.specs.Encodable.{IsEncodableType}
use Rattle.law_lines.specs.Command.{all_built}
use Rattle.law_lines.specs.Fit.{EachLine, LineIsDeclared, HasRecord}
use Rattle.law_lines.proofs.Declared.{terms_are_declared, types_are_declared, functions_are_declared}
use Rattle.law_theorem.specs.CarriedOperators.{is_script_operator}
use Rattle.law_theorem.specs.CarriedSorts.{shown_entity, IsNamed}
use Rattle.law_theorem.proofs.Sorted.{instance_itself}
use Rattle.law_theorem.specs.Fits.{HasDefinition, IsMemberName}
use Rattle.law_theorem.proofs.Induction.{member_at, none_is, stands_as_it_is}
use Rattle.law_theorem.proofs.Named.{some_there, text_sort}
use Rattle.law_theorem.proofs.Types.{type_stands, selectors_shown}
use Rattle.law_theorem.proofs.Valued.{IsValued, AreValued, HaveValues}
use Rattle.law_theorem.proofs.Worth.{Follows, carried, application_sorted, bits_fit, name_good, by_name, text_sorted}
use Rattle.law_theorem.proofs.OperatorSorts.{same_itself, match_themselves, operator_sorted, elements_sorted}

-- a definition that a name has is the one that its line states
pub one_definition : (a b c d : Expression) → ◌≡◌ {A = Option Entry} (Some (Defined a b)) (Some (Defined c d)) → (a ≡ c) × (b ≡ d)
one_definition a b c d h = (cc, cc)

one_type : (t u : PlainType) → ◌≡◌ {A = Option PlainType} (Some t) (Some u) → t ≡ u
one_type t u h = cc

module _ (enums : Enums) (s : Tables) (state : State) (I : Interpretation) (x : Follows enums s state I) where
  abbrev J : ScriptInterpretation
  J = carried enums s state I

  abbrev Has : Expression → PlainType → Type 0
  Has e ty = expression_sort state e ≡ Some (type_sort s ty)

  -- ---- names

  named_sorted : (n : List ℕ) (y : Entry) → is_own n ≡ true → entries state n ≡ Some y → expression_sort state (name n) ≡ entry_sort y []
  named_sorted n y own h =
      let o = or_parts (is_in n built_in_names) (is_reserved n) (not-true (is_in n built_in_names || is_reserved n) own) in
      let p = or_parts (bytes_eq n (codes "true")) _ o.0 in
      let q = or_parts (bytes_eq n (codes "false")) _ p.1 in
      cond-false (bytes_eq n (codes "true")) (Some bool_sort) (cond (bytes_eq n (codes "false")) (Some bool_sort) (entries state n >>= λ z. entry_sort z [])) p.0
      ∙ cond-false (bytes_eq n (codes "false")) (Some bool_sort) (entries state n >>= λ z. entry_sort z []) q.0
      ∙ ap (λ (z : Option Entry). z >>= λ w. entry_sort w []) h

  bits_sorted : (width number : ℕ) → are_bits width number ≡ true → expression_sort state (bits width number) ≡ Some (bit_sort width)
  bits_sorted width number h = rw (numeral_digits number, numeral_number number, h) refl

  entity_named : (o : Option (List (List ℕ))) (type id n : List ℕ) → IsNamed (entries state) (type_name s (EntityType type)) (shown_entity o (type_name s (EntityType type))) → EachLine (LineIsDeclared state) (entity_literal_lines o (type_name s (EntityType type)) id n)
      → IsMemberName o s type id n → Has (name n) (EntityType type)
  entity_named None type id n d l m = (x.last.bodies n _ _ l.0).2
  entity_named (Some ms) type id n d l m =
      let c = type_name s (EntityType type) in
      let place = place_of id ms in
      let at = member_at c 0 ms place (ltb-true place (length ms) m.2) in
      let z : 0 + place ≡ place = omega arith in
      let entry : entries state (member_name c place) ≡ Some (Builds c [] place []) = d.datatype.builds place (member_name c place) [] (at ∙ ap (λ (k : ℕ). Some (member_name c k, [])) z) in
      ap (λ (l : List ℕ). expression_sort state (name l)) m.1 ∙ named_sorted (member_name c place) (Builds c [] place []) (x.last.own (member_name c place) (Builds c [] place []) entry) entry

  -- The text of a term has the sort of the term's type.
  pub text_has_sort : (t : PlainTerm) → IsValued enums I t → IsSome (text_of s t) → Has (text_or_nothing (text_of s t)) (type_of t)
  text_has_sort (LiteralTerm (BitVecLiteral w n)) k h = bits_sorted w n (bits_fit w n k.3 k.1)
  text_has_sort (LiteralTerm (BoolLiteral true)) k h = refl
  text_has_sort (LiteralTerm (BoolLiteral false)) k h = refl
  text_has_sort (LiteralTerm (StringLiteral y)) k h = refl
  text_has_sort (LiteralTerm (EntityLiteral type id)) k h =
      let t = LiteralTerm (EntityLiteral type id) in
      by_name enums s state I x (λ e. Has e (EntityType type)) t _ refl h
      (λ n q. (let d = terms_are_declared enums s state t n x.fit q in
      entity_named (members_of enums type) type id n (type_stands enums s state x.fit (EntityType type) k.3 d.2) d.0 (name_good enums s state I x t n q)))
  text_has_sort (LiteralTerm (ExtensionLiteral y)) k h = text_sorted enums s state I x (LiteralTerm (ExtensionLiteral y)) tt h
  text_has_sort (Application op ts type) k h =
      let t = Application op ts type in
      by_name enums s state I x (λ e. Has e type) t _ refl h (λ n q. application_sorted enums s state I x (application_rendering op ts type) op ts type n (name_good enums s state I x t n q) (terms_are_declared enums s state t n x.fit q).0)
  text_has_sort (NoneTerm type) k h = text_sorted enums s state I x (NoneTerm type) tt h
  text_has_sort (RecordTerm fs) k h =
      by_name enums s state I x (λ e. Has e (RecordType (field_types fs))) (RecordTerm fs) _ refl h (λ n q. (x.last.bodies n _ _ (terms_are_declared enums s state (RecordTerm fs) n x.fit q).0.0).2)
  text_has_sort (SetTerm u ts) k h =
      by_name enums s state I x (λ e. Has e (SetType u)) (SetTerm u ts) _ refl h (λ n q. (x.last.bodies n _ _ (terms_are_declared enums s state (SetTerm u ts) n x.fit q).0.0).2)
  text_has_sort (SomeTerm u) k h = text_sorted enums s state I x (SomeTerm u) tt h
  text_has_sort (VariableTerm id type) k h =
      by_name enums s state I x (λ e. Has e type) (VariableTerm id type) _ refl h (λ n q. (x.last.constants n _ (terms_are_declared enums s state (VariableTerm id type) n x.fit q).0.1.0).1)

  arguments_sorted : (ts : PlainTerms) → AreValued enums I ts → HaveTexts s ts → argument_sorts state (texts_of s ts) ≡ Some (map (type_sort s) (types_of ts))
  arguments_sorted no_terms k h = refl
  arguments_sorted (one_term t ts) k h = ap₂ (λ (o : Option Expression) (p : Option (List Expression)). o >>= λ v. p >>= λ vs. Some (v ∷ vs)) (text_has_sort t k.0 h.0) (arguments_sorted ts k.3 h.1)

  -- ---- applied names

  -- a constructor, a selector or a function at one argument
  one_applied : (f : List ℕ) (y : Entry) (e sort : Expression) → is_own f ≡ true → entries state f ≡ Some y → expression_sort state e ≡ Some sort → expression_sort state (group (name f ∷ e ∷ [])) ≡ entry_sort y (sort ∷ [])
  one_applied f y e sort own h k =
      applications_have_sorts state f y e [] own h ∙ ap (λ (o : Option Expression). each_there (o ∷ []) >>= entry_sort y) k

  two_applied : (f : List ℕ) (y : Entry) (d e a b : Expression) → is_own f ≡ true → entries state f ≡ Some y → expression_sort state d ≡ Some a → expression_sort state e ≡ Some b → expression_sort state (group (name f ∷ d ∷ e ∷ [])) ≡ entry_sort y (a ∷ b ∷ [])
  two_applied f y d e a b own h k l =
      applications_have_sorts state f y d (e ∷ []) own h ∙ ap₂ (λ (o p : Option Expression). each_there (o ∷ p ∷ []) >>= entry_sort y) k l

  operator : (f : List ℕ) (op : PlainOp) (ts : PlainTerms) (type : PlainType) → operator_of f ≡ Some op → is_script_operator op ≡ true → result_type op (types_of ts) ≡ Some type → AreValued enums I ts → HaveTexts s ts
      → Has (group (name f ∷ texts_of s ts)) type
  operator f op ts type o p r v h =
      (operators_apply J state f op (texts_of s ts) o).1 ∙ ap (λ (q : Option (List Expression)). q >>= operator_sort op) (arguments_sorted ts v h) ∙ operator_sorted s op (types_of ts) type p r

  extended : (k : ℕ) (t : PlainTerm) (type : PlainType) → result_type (ZeroExtendOp k) (type_of t ∷ []) ≡ Some type → Has (text_or_nothing (text_of s t)) (type_of t)
      → Has (application_body (operator_head (ZeroExtendOp k)) (ZeroExtendOp k) (text_or_nothing (text_of s t) ∷ [])) type
  extended k t type r a =
      (extensions_apply J state k (text_or_nothing (text_of s t))).1 ∙ ap (λ (q : Option Expression). q >>= λ u. operator_sort (ZeroExtendOp k) (u ∷ [])) a ∙ operator_sorted s (ZeroExtendOp k) (type_of t ∷ []) type refl r

  matched : (p : List PatternPart) (t : PlainTerm) (type : PlainType) → pattern (pattern_expr p) ≡ Some p → result_type (StringLikeOp p) (type_of t ∷ []) ≡ Some type → Has (text_or_nothing (text_of s t)) (type_of t)
      → Has (application_body (operator_head (StringLikeOp p)) (StringLikeOp p) (text_or_nothing (text_of s t) ∷ [])) type
  matched p t type h r a =
      (matches_apply J state (text_or_nothing (text_of s t)) (pattern_expr p) p h).1 ∙ ap (λ (q : Option Expression). q >>= λ u. operator_sort (StringLikeOp p) (u ∷ [])) a ∙ operator_sorted s (StringLikeOp p) (type_of t ∷ []) type refl r

  function : (f : PlainFunction) (t : PlainTerm) (type : PlainType) → result_type (UufOp f) (type_of t ∷ []) ≡ Some type → IsSome (name_of_function s f) → Has (text_or_nothing (text_of s t)) (type_of t)
      → Has (group (name (text_of_name (name_of_function s f)) ∷ text_or_nothing (text_of s t) ∷ [])) type
  function f t type r there a =
      let n = text_of_name (name_of_function s f) in
      let y = Function (type_sort s f.argument) (type_sort s f.output) in
      let d = (functions_are_declared enums s state f n x.fit (some_there (name_of_function s f) there)).0.1.0 in
      let c : (type_eq (type_of t) f.argument ≡ true) × (f.output ≡ type) = chosen (type_eq (type_of t) f.argument) f.output type r in
      let q : type_of t ≡ f.argument = eq_same (type_of t) f.argument c.0 in
      one_applied n y (text_or_nothing (text_of s t)) (type_sort s (type_of t)) (x.last.own n y d) d a
      ∙ ap (λ (u : PlainType). entry_sort y (type_sort s u ∷ [])) q
      ∙ ap (λ b. if_sort (b && true) (type_sort s f.output)) (same_itself (type_sort s f.argument))
      ∙ ap (λ (u : PlainType). Some (type_sort s u)) c.1

  -- ---- attributes

  selector_at : (a n : List ℕ) (from : ℕ) (fs : AttributeTypes) (type : PlainType) → attribute_in a fs ≡ Some type → DeclaresSelectors (entries state) n [] n from (attribute_selectors n from (attribute_sorts s fs))
      → entries state (attribute_name n (from + place_of a (attribute_names fs))) ≡ Some (Selects n [] n (from + place_of a (attribute_names fs)) (type_sort s type))
  selector_at a n from no_attributes type h d = absurd (none_is type h)
  selector_at a n from (attribute b t fs) type h d = by (bytes_eq a b) (λ q. selector_at a n (suc from) fs type q d.1) h
    where
      by : (c : Bool) → (attribute_in a fs ≡ Some type → entries state (attribute_name n (suc from + place_of a (attribute_names fs))) ≡ Some (Selects n [] n (suc from + place_of a (attribute_names fs)) (type_sort s type)))
          → elim c [ true ↦ Some t | false ↦ attribute_in a fs ] ≡ Some type
          → entries state (attribute_name n (from + (if c then 0 else suc (place_of a (attribute_names fs))))) ≡ Some (Selects n [] n (from + (if c then 0 else suc (place_of a (attribute_names fs)))) (type_sort s type))
      by true again q =
          let z : from ≡ from + 0 = omega arith in
          subst (λ k. entries state (attribute_name n k) ≡ Some (Selects n [] n k (type_sort s type))) z (d.0 ∙ ap (λ (u : PlainType). Some (Selects n [] n from (type_sort s u))) (one_type t type q))
      by false again q =
          let z : suc from + place_of a (attribute_names fs) ≡ from + suc (place_of a (attribute_names fs)) = omega arith in
          subst (λ k. entries state (attribute_name n k) ≡ Some (Selects n [] n k (type_sort s type))) z (again q)

  attribute_sorted : (a : List ℕ) (fs : AttributeTypes) (type : PlainType) (e : Expression) → attribute_in a fs ≡ Some type → IsSome (name_of_type s (RecordType fs)) → Has e (RecordType fs)
      → Has (group (name (attribute_name (type_name s (RecordType fs)) (place_of a (attribute_names fs))) ∷ e ∷ [])) type
  attribute_sorted a fs type e r there h =
      let n = type_name s (RecordType fs) in
      let place = place_of a (attribute_names fs) in
      let d = (types_are_declared enums s state (RecordType fs) n x.fit (some_there (name_of_type s (RecordType fs)) there)).0.1.0.1.1 in
      let z : 0 + place ≡ place = omega arith in
      let y = Selects n [] n place (type_sort s type) in
      let entry : entries state (attribute_name n place) ≡ Some y = subst (λ k. entries state (attribute_name n k) ≡ Some (Selects n [] n k (type_sort s type))) z (selector_at a n 0 fs type r d) in
      one_applied (attribute_name n place) y e (name n) (x.last.own (attribute_name n place) y entry) entry h
      ∙ ap (λ b. (if b then Some [] else None) >>= λ (es : List Expression). if_sort (length es == 0) (instance (paired [] es) (type_sort s type))) (bytes_itself n)
      ∙ ap (λ (f : Expression). Some f) (instance_itself (type_sort s type))

  attribute_of : (a : List ℕ) (t : PlainTerm) (u type : PlainType) → type_of t ≡ u → attribute_type a u ≡ Some type → IsSome (name_of_type s (type_of t)) → Has (text_or_nothing (text_of s t)) (type_of t)
      → Has (group (name (attribute_name (type_name s (type_of t)) (attribute_place a (type_of t))) ∷ text_or_nothing (text_of s t) ∷ [])) type
  attribute_of a t (RecordType fs) type e r there h =
      subst (λ u. Has (group (name (attribute_name (type_name s u) (attribute_place a u)) ∷ text_or_nothing (text_of s t) ∷ [])) type) (sym e)
      (attribute_sorted a fs type (text_or_nothing (text_of s t)) r (subst (λ u. IsSome (name_of_type s u)) e there) (subst (λ u. Has (text_or_nothing (text_of s t)) u) e h))
  attribute_of a t u type e r there h = absurd (none_is type r)

  -- ---- options

  inside_of : (t : PlainTerm) (u type : PlainType) → type_of t ≡ u → inner_type u ≡ Some type → Has (text_or_nothing (text_of s t)) (type_of t)
      → Has (group (name (codes "val") ∷ text_or_nothing (text_of s t) ∷ [])) type
  inside_of t (OptionType u) type e r h =
      let y = Selects (codes "Option") (codes "X" ∷ []) (codes "some") 0 (name (codes "X")) in
      one_applied (codes "val") y (text_or_nothing (text_of s t)) (type_sort s (OptionType u)) refl x.fit.option_is_declared.1.2.1.0 (subst (λ v. Has (text_or_nothing (text_of s t)) v) e h)
      ∙ ap (λ (v : PlainType). Some (type_sort s v)) (one_type u type r)
  inside_of t u type e r h = absurd (none_is type r)

  some_sorted : (e sort : Expression) → expression_sort state e ≡ Some sort → expression_sort state (some_body e) ≡ Some (option_sort sort)
  some_sorted e sort h = one_applied (codes "some") (Builds (codes "Option") (codes "X" ∷ []) 1 (name (codes "X") ∷ [])) e sort refl x.fit.option_is_declared.1.2.0 h

  none_sorted : (sort : Expression) → expression_sort state (none_body (option_sort sort)) ≡ Some (option_sort sort)
  none_sorted sort = ap (λ (y : Option Entry). qualified_sort y (codes "none") (option_sort sort)) x.fit.option_is_declared.1.0

  -- ---- extension types

  kind_declared : (kind : ExtensionKind) → TypeHasEntries s (ExtensionType kind) → Declares (entries state) (kind_name kind) [] 0 (all_built (kind_constructors kind))
  kind_declared kind h =
      subst (λ n. Declares (entries state) n [] 0 (all_built (kind_constructors kind))) (x.kinds kind h)
      (types_are_declared enums s state (ExtensionType kind) (type_name s (ExtensionType kind)) x.fit (some_there (name_of_type s (ExtensionType kind)) h)).0.0.1

  -- the sort of an extension type, by its kind
  by_kind : (kind : ExtensionKind) → TypeHasEntries s (ExtensionType kind) → Some (type_sort s (ExtensionType kind)) ≡ Some (name (kind_name kind))
  by_kind kind h = ap (λ (n : List ℕ). Some (name n)) (x.kinds kind h)

  -- a selector of a kind's datatype
  selected : (kind : ExtensionKind) (f c : List ℕ) (place : ℕ) (field e : Expression) → entries state f ≡ Some (Selects (kind_name kind) [] c place field) → TypeHasEntries s (ExtensionType kind) → Has e (ExtensionType kind)
      → expression_sort state (group (name f ∷ e ∷ [])) ≡ Some field
  selected kind f c place field e h k a =
      let y = Selects (kind_name kind) [] c place field in
      one_applied f y e (name (kind_name kind)) (x.last.own f y h) h (a ∙ by_kind kind k)
      ∙ ap (λ b. (if b then Some [] else None) >>= λ (es : List Expression). if_sort (length es == 0) (instance (paired [] es) field)) (bytes_itself (kind_name kind))
      ∙ ap (λ (g : Expression). Some g) (instance_itself field)

  -- a constructor of a kind's datatype
  made : (kind : ExtensionKind) (c : List ℕ) (place : ℕ) (field e : Expression) → entries state c ≡ Some (Builds (kind_name kind) [] place (field ∷ [])) → TypeHasEntries s (ExtensionType kind) → expression_sort state e ≡ Some field
      → Has (group (name c ∷ e ∷ [])) (ExtensionType kind)
  made kind c place field e h k a =
      let y = Builds (kind_name kind) [] place (field ∷ []) in
      one_applied c y e field (x.last.own c y h) h a
      ∙ ap (λ (o : Option (List (List ℕ × Expression))). o >>= λ table. Some (name (kind_name kind))) (match_themselves (expressions (field ∷ []))) ∙ sym (by_kind kind k)

  made_of_two : (kind : ExtensionKind) (c : List ℕ) (place : ℕ) (a b d e : Expression) → entries state c ≡ Some (Builds (kind_name kind) [] place (a ∷ b ∷ [])) → TypeHasEntries s (ExtensionType kind) → expression_sort state d ≡ Some a → expression_sort state e ≡ Some b
      → Has (group (name c ∷ d ∷ e ∷ [])) (ExtensionType kind)
  made_of_two kind c place a b d e h k i j =
      let y = Builds (kind_name kind) [] place (a ∷ b ∷ []) in
      two_applied c y d e a b (x.last.own c y h) h i j
      ∙ ap (λ (o : Option (List (List ℕ × Expression))). o >>= λ table. Some (name (kind_name kind))) (match_themselves (expressions (a ∷ b ∷ []))) ∙ sym (by_kind kind k)

  family : (fields : List Expression) (e : Expression) → entries state (codes "V4") ≡ Some (Builds (kind_name IpAddrKind) [] 0 fields) → TypeHasEntries s (ExtensionType IpAddrKind) → Has e (ExtensionType IpAddrKind) → Has (group (extension_op_head IpIsV4Op ∷ e ∷ [])) BoolType
  family fields e h k a =
      ap₂ (λ (y : Option Entry) (o : Option Expression). each_there (o ∷ []) >>= tested_sort y) h (a ∙ by_kind IpAddrKind k)

  extension_sorted : (o : ExtensionOp) (e : Expression) → TypeHasEntries s (extension_signature o).0 → TypeHasEntries s (extension_signature o).1 → Has e (extension_signature o).0 → Has (group (extension_op_head o ∷ e ∷ [])) (extension_signature o).1
  extension_sorted DatetimeOfBitVecOp e h k a = made DatetimeKind (codes "Datetime") 0 (bit_sort 64) e (kind_declared DatetimeKind k).0 k a
  extension_sorted DurationOfBitVecOp e h k a = made DurationKind (codes "Duration") 0 (bit_sort 64) e (kind_declared DurationKind k).0 k a
  extension_sorted DatetimeValOp e h k a = selected DatetimeKind (codes "datetimeVal") (codes "Datetime") 0 (bit_sort 64) e (kind_declared DatetimeKind h).1.0 h a
  extension_sorted DecimalValOp e h k a = selected DecimalKind (codes "decimalVal") (codes "Decimal") 0 (bit_sort 64) e (kind_declared DecimalKind h).1.0 h a
  extension_sorted DurationValOp e h k a = selected DurationKind (codes "durationVal") (codes "Duration") 0 (bit_sort 64) e (kind_declared DurationKind h).1.0 h a
  extension_sorted IpIsV4Op e h k a = family (bit_sort 32 ∷ option_sort (bit_sort 5) ∷ []) e (kind_declared IpAddrKind h).0 h a
  extension_sorted IpAddrV4Op e h k a = selected IpAddrKind (codes "addrV4") (codes "V4") 0 (bit_sort 32) e (kind_declared IpAddrKind h).1.0 h a
  extension_sorted IpPrefixV4Op e h k a = selected IpAddrKind (codes "prefixV4") (codes "V4") 1 (option_sort (bit_sort 5)) e (kind_declared IpAddrKind h).1.1.0 h a
  extension_sorted IpAddrV6Op e h k a = selected IpAddrKind (codes "addrV6") (codes "V6") 0 (bit_sort 128) e (kind_declared IpAddrKind h).2.1.0 h a
  extension_sorted IpPrefixV6Op e h k a = selected IpAddrKind (codes "prefixV6") (codes "V6") 1 (option_sort (bit_sort 7)) e (kind_declared IpAddrKind h).2.1.1.0 h a

  long_sorted : (z : ℤ) → expression_sort state (bits 64 (bits_of 64 z)) ≡ Some (bit_sort 64)
  long_sorted z = bits_sorted 64 (bits_of 64 z) (bits_fit 64 (bits_of 64 z) refl (bits_of-below 64 z))

  prefix_sorted : (width : ℕ) (p : Option ℕ) → is_width width ≡ true → IsPrefix width p → expression_sort state (prefix_body width p) ≡ Some (option_sort (bit_sort width))
  prefix_sorted width None w h = none_sorted (bit_sort width)
  prefix_sorted width (Some n) w h = some_sorted (bits width n) (bit_sort width) (bits_sorted width n (bits_fit width n w h))

  extension_literal : (y : PlainExtension) (kind : ExtensionKind) → IsExtension kind y → TypeHasEntries s (ExtensionType kind) → Has (extension_body y) (ExtensionType kind)
  extension_literal (DecimalOf z) DecimalKind h k = made DecimalKind (codes "Decimal") 0 (bit_sort 64) (bits 64 (bits_of 64 z)) (kind_declared DecimalKind k).0 k (long_sorted z)
  extension_literal (DatetimeOf z) DatetimeKind h k = made DatetimeKind (codes "Datetime") 0 (bit_sort 64) (bits 64 (bits_of 64 z)) (kind_declared DatetimeKind k).0 k (long_sorted z)
  extension_literal (DurationOf z) DurationKind h k = made DurationKind (codes "Duration") 0 (bit_sort 64) (bits 64 (bits_of 64 z)) (kind_declared DurationKind k).0 k (long_sorted z)
  extension_literal (Ipv4Of a p) IpAddrKind h k =
      made_of_two IpAddrKind (codes "V4") 0 (bit_sort 32) (option_sort (bit_sort 5)) (bits 32 a) (prefix_body 5 p) (kind_declared IpAddrKind k).0 k
      (bits_sorted 32 a (bits_fit 32 a refl h.0)) (prefix_sorted 5 p refl h.1)
  extension_literal (Ipv6Of a p) IpAddrKind h k =
      made_of_two IpAddrKind (codes "V6") 1 (bit_sort 128) (option_sort (bit_sort 7)) (bits 128 a) (prefix_body 7 p) (kind_declared IpAddrKind k).2.0 k
      (bits_sorted 128 a (bits_fit 128 a refl h.0)) (prefix_sorted 7 p refl h.1)
  extension_literal y kind h k = absurd h

  -- ---- the bodies of applications

  applied : (op : PlainOp) (ts : PlainTerms) (type : PlainType) → stands_as_it_is op ≡ true → IsValued enums I (Application op ts type) → HaveTexts s ts → HasFunction s op → HasRecord s op ts → TypeHasEntries s type
      → Has (application_body (application_head enums s op ts) op (texts_of s ts)) type
  applied BvnegoOp ts type o k h f r q = absurd cc
  applied (ZeroExtendOp n) no_terms type o k h f r q = absurd (none_is type k.1)
  applied (ZeroExtendOp n) (one_term t no_terms) type o k h f r q = extended n t type k.1 (text_has_sort t k.0.0 h.0)
  applied (ZeroExtendOp n) (one_term t (one_term u ts)) type o k h f r q = absurd (none_is type k.1)
  applied (StringLikeOp p) no_terms type o k h f r q = absurd (none_is type k.1)
  applied (StringLikeOp p) (one_term t no_terms) type o k h f r q = matched p t type (patterns_write p k.3.1).1 k.1 (text_has_sort t k.0.0 h.0)
  applied (StringLikeOp p) (one_term t (one_term u ts)) type o k h f r q = absurd (none_is type k.1)
  applied (UufOp fn) no_terms type o k h f r q = absurd (none_is type k.1)
  applied (UufOp fn) (one_term t no_terms) type o k h f r q = function fn t type k.1 f (text_has_sort t k.0.0 h.0)
  applied (UufOp fn) (one_term t (one_term u ts)) type o k h f r q = absurd (none_is type k.1)
  applied (RecordGetOp c) no_terms type o k h f r q = absurd (none_is type k.1)
  applied (RecordGetOp c) (one_term t no_terms) type o k h f r q = attribute_of c t (type_of t) type refl k.1 r (text_has_sort t k.0.0 h.0)
  applied (RecordGetOp c) (one_term t (one_term u ts)) type o k h f r q = absurd (none_is type k.1)
  applied OptionGetOp no_terms type o k h f r q = absurd (none_is type k.1)
  applied OptionGetOp (one_term t no_terms) type o k h f r q = inside_of t (type_of t) type refl k.1 (text_has_sort t k.0.0 h.0)
  applied OptionGetOp (one_term t (one_term u ts)) type o k h f r q = absurd (none_is type k.1)
  applied (ExtOp e) no_terms type o k h f r q = absurd (none_is type k.1)
  applied (ExtOp e) (one_term t no_terms) type o k h f r q =
      let c : (type_eq (type_of t) (extension_signature e).0 ≡ true) × ((extension_signature e).1 ≡ type) = chosen (type_eq (type_of t) (extension_signature e).0) (extension_signature e).1 type k.1 in
      let same : type_of t ≡ (extension_signature e).0 = eq_same (type_of t) (extension_signature e).0 c.0 in
      subst (λ u. Has (group (application_head enums s (ExtOp e) (one_term t no_terms) ∷ text_or_nothing (text_of s t) ∷ [])) u) c.1
      (extension_sorted e (text_or_nothing (text_of s t)) (subst (TypeHasEntries s) same (text_sort enums s state x.fit t h.0)) (subst (TypeHasEntries s) (sym c.1) q)
      (subst (λ u. Has (text_or_nothing (text_of s t)) u) same (text_has_sort t k.0.0 h.0)))
  applied (ExtOp e) (one_term t (one_term u ts)) type o k h f r q = absurd (none_is type k.1)
  applied (BitsOp b) ts type o k h f r q = operator (bits_entry b).name (BitsOp b) ts type (bits_found b) refl k.1 k.0 h
  applied (TestOp b) ts type o k h f r q = operator (test_entry b).name (TestOp b) ts type (test_found b) refl k.1 k.0 h
  applied (OverflowOp b) ts type o k h f r q = operator (overflow_entry b).name (OverflowOp b) ts type (overflow_found b) refl k.1 k.0 h
  applied op ts type o k h f r q = operator (script_name op) op ts type refl refl k.1 k.0 h

  -- ---- the overflow of a negation

  least_sorted : (t : PlainTerm) (w : ℕ) → type_of t ≡ BitVecType w → IsEncodableType enums (BitVecType w) → Has (text_or_nothing (text_of s t)) (type_of t) → Has (least_body w (text_or_nothing (text_of s t) ∷ [])) BoolType
  least_sorted t w e fine a =
      let one : 1 ≤ w = leb-true 1 w (and_parts (nat_le 1 w) (nat_le w 128) fine).0 in
      let z : w - 1 < w = omega arith in
      let least : Expression = bits w (2 ^ (w - 1)) in
      (operators_apply J state (script_name EqOp) EqOp (text_or_nothing (text_of s t) ∷ least ∷ []) refl).1
      ∙ ap₂ (λ (o p : Option Expression). each_there (o ∷ p ∷ []) >>= operator_sort EqOp) (a ∙ ap (λ (u : PlainType). Some (type_sort s u)) e) (bits_sorted w (2 ^ (w - 1)) (bits_fit w (2 ^ (w - 1)) fine (pow-lt z)))
      ∙ ap (λ b. if_sort b bool_sort) (same_itself (bit_sort w))

  -- ---- bodies by their lines

  -- a body that is stated, with its sort
  stated : (n : List ℕ) (a b : Expression) (sort body : Expression) → entries state n ≡ Some (Defined a b) → entries state n ≡ Some (Defined sort body) → expression_sort state b ≡ Some a → expression_sort state body ≡ Some sort
  stated n a b sort body h k e =
      let same = one_definition a b sort body (sym h ∙ k) in
      ap (λ (y : Expression). expression_sort state y) (sym same.1) ∙ e ∙ ap (λ (y : Expression). Some y) same.0

  application : (m : Rendering) (op : PlainOp) (ts : PlainTerms) (type : PlainType) (n : List ℕ) → application_rendering op ts type ≡ m → (m ≡ AsFalse → ⊥) → EachLine (LineIsDeclared state) (application_lines enums s m op ts type n)
      → IsValued enums I (Application op ts type) → HaveTexts s ts → HasFunction s op → HasRecord s op ts → TypeHasEntries s type → (sort body : Expression) → entries state n ≡ Some (Defined sort body) → expression_sort state body ≡ Some sort
  application AsFalse op ts type n e f l k h g r q sort body is = absurd (f refl)
  application m BvnegoOp no_terms type n e f l k h g r q sort body is = absurd (none_is type k.1)
  application m BvnegoOp (one_term t no_terms) type n e f l k h g r q sort body is = negation (type_of t) refl type m (chosen (is_bits (type_of t)) BoolType type k.1) e l
    where
      negation : (u : PlainType) → type_of t ≡ u → (type : PlainType) (m : Rendering) → (is_bits (type_of t) ≡ true) × (BoolType ≡ type) → application_rendering BvnegoOp (one_term t no_terms) type ≡ m → EachLine (LineIsDeclared state) (application_lines enums s m BvnegoOp (one_term t no_terms) type n)
          → expression_sort state body ≡ Some sort
      negation (BitVecType w) y BoolType m c e l =
          let a : least_rendering (BitVecType w) ≡ m = ap least_rendering (sym y) ∙ e in
          let l' : EachLine (LineIsDeclared state) (application_lines enums s (AsEqualsIntMin w) BvnegoOp (one_term t no_terms) BoolType n) = subst (λ v. EachLine (LineIsDeclared state) (application_lines enums s v BvnegoOp (one_term t no_terms) BoolType n)) (sym a) l in
          stated n _ _ sort body l'.0 is (least_sorted t w y (subst (IsEncodableType enums) y k.0.2) (text_has_sort t k.0.0 h.0))
      negation (BitVecType w) y type m c e l = absurd (let z : BoolType ≡ type = c.1 in cc)
      negation u y type m c e l = absurd (let z : is_bits u ≡ true = ap is_bits (sym y) ∙ c.0 in cc)
  application m BvnegoOp (one_term t (one_term u ts)) type n e f l k h g r q sort body is = absurd (none_is type k.1)
  application AsApplication op ts type n e f l k h g r q sort body is = stated n _ _ sort body l.0 is (applied op ts type refl k h g r q)
  application (AsEqualsIntMin w) op ts type n e f l k h g r q sort body is = absurd cc

  -- ---- records

  fields_sorted : (fs : PlainFields) → HaveValues enums I fs → HaveFieldTexts s fs → argument_sorts state (texts_of_fields s fs) ≡ Some (attribute_sorts s (field_types fs))
  fields_sorted no_fields k h = refl
  fields_sorted (one_field a t fs) k h = ap₂ (λ (o : Option Expression) (p : Option (List Expression)). o >>= λ v. p >>= λ vs. Some (v ∷ vs)) (text_has_sort t k.0 h.0) (fields_sorted fs k.1 h.1)

  record_made : (fs : PlainFields) (n : List ℕ) → is_own n ≡ true → entries state n ≡ Some (Builds n [] 0 (attribute_sorts s (field_types fs))) → HaveValues enums I fs → HaveFieldTexts s fs
      → expression_sort state (record_body (name n) (texts_of_fields s fs)) ≡ Some (name n)
  record_made no_fields n own h k g = named_sorted n (Builds n [] 0 []) own h
  record_made (one_field a t fs) n own h k g =
      let sorts = attribute_sorts s (field_types (one_field a t fs)) in
      applications_have_sorts state n (Builds n [] 0 sorts) (text_or_nothing (text_of s t)) (texts_of_fields s fs) own h
      ∙ ap (λ (o : Option (List Expression)). o >>= entry_sort (Builds n [] 0 sorts)) (fields_sorted (one_field a t fs) k g)
      ∙ ap (λ (o : Option (List (List ℕ × Expression))). o >>= λ table. Some (name n)) (match_themselves (expressions sorts))

  record_sorted : (fs : PlainFields) → TypeHasEntries s (RecordType (field_types fs)) → HaveValues enums I fs → HaveFieldTexts s fs → Has (record_body (name (type_name s (RecordType (field_types fs)))) (texts_of_fields s fs)) (RecordType (field_types fs))
  record_sorted fs sort k g =
      let u = RecordType (field_types fs) in
      let n = type_name s u in
      let es = attribute_sorts s (field_types fs) in
      let d = (types_are_declared enums s state u n x.fit (some_there (name_of_type s u) sort)).0.1.0.1.0 in
      let entry = subst (λ (fields : List Expression). entries state n ≡ Some (Builds n [] 0 fields)) (selectors_shown enums s state x.fit n 0 es) d in
      record_made fs n (x.last.own n (Builds n [] 0 es) entry) entry k g

  -- ---- sets

  insertion_sorted : (sort e : Expression) (es : List Expression) (f : Expression) → expression_sort state (group (name (codes "set.insert") ∷ e ∷ (es ++ f ∷ []))) ≡ (argument_sorts state (e ∷ (es ++ f ∷ [])) >>= insert_sort)
  insertion_sorted sort e [] f = (sets_have_values J state sort e f []).2
  insertion_sorted sort e (d ∷ es) f = (sets_have_values J state sort e d (es ++ f ∷ [])).2

  arguments_then : (ts : PlainTerms) (e sort : Expression) → AreValued enums I ts → HaveTexts s ts → expression_sort state e ≡ Some sort → argument_sorts state (texts_of s ts ++ e ∷ []) ≡ Some (map (type_sort s) (types_of ts) ++ sort ∷ [])
  arguments_then no_terms e sort k g h = ap (λ (o : Option Expression). each_there (o ∷ [])) h
  arguments_then (one_term t ts) e sort k g h = ap₂ (λ (o : Option Expression) (p : Option (List Expression)). o >>= λ w. p >>= λ vs. Some (w ∷ vs)) (text_has_sort t k.0 g.0) (arguments_then ts e sort k.3 g.1 h)

  set_sorted : (u : PlainType) (ts : PlainTerms) → list_all (type_eq u) (types_of ts) ≡ true → AreValued enums I ts → HaveTexts s ts → Has (set_body (type_sort s (SetType u)) (texts_of s ts)) (SetType u)
  set_sorted u no_terms h k g = refl
  set_sorted u (one_term t ts) h k g =
      let sort = type_sort s (SetType u) in
      insertion_sorted sort (text_or_nothing (text_of s t)) (texts_of s ts) (empty_set sort)
      ∙ ap (λ (o : Option (List Expression)). o >>= insert_sort) (arguments_then (one_term t ts) (empty_set sort) sort k g refl)
      ∙ elements_sorted s u (one_term t ts) h

  -- ---- entities

  entity_sorted : (type id : List ℕ) → IsNamed (entries state) (type_name s (EntityType type)) (shown_entity None (type_name s (EntityType type))) → Has (entity_body (type_name s (EntityType type)) id) (EntityType type)
  entity_sorted type id d =
      let c = type_name s (EntityType type) in
      let y = Builds c [] 0 (string_sort ∷ []) in
      let entry : entries state c ≡ Some y = d.datatype.builds 0 c (string_sort ∷ []) refl in
      one_applied c y (Leaf (Text (chars id))) string_sort (x.last.own c y entry) entry refl

  entity_stated : (o : Option (List (List ℕ))) → o ≡ None → (type id n : List ℕ) → IsNamed (entries state) (type_name s (EntityType type)) (shown_entity o (type_name s (EntityType type))) → EachLine (LineIsDeclared state) (entity_literal_lines o (type_name s (EntityType type)) id n)
      → (sort body : Expression) → entries state n ≡ Some (Defined sort body) → expression_sort state body ≡ Some sort
  entity_stated None e type id n d l sort body is = stated n _ _ sort body l.0 is (entity_sorted type id d)
  entity_stated (Some ms) e type id n d l sort body is = absurd cc

  -- ---- all terms

  -- The body of a term's definition has the definition's sort.
  pub body_has_sort : (t : PlainTerm) → IsValued enums I t → HasDefinition enums t → (n : List ℕ) → name_of_term s t ≡ Some n → (sort body : Expression) → entries state n ≡ Some (Defined sort body) → expression_sort state body ≡ Some sort
  body_has_sort (Application op ts type) k f n named sort body is =
      let d = terms_are_declared enums s state (Application op ts type) n x.fit named in
      application (application_rendering op ts type) op ts type n refl f d.0 k d.1.0.0 d.1.0.1 d.1.1 d.2 sort body is
  body_has_sort (NoneTerm type) k f n named sort body is = stated n _ _ sort body (terms_are_declared enums s state (NoneTerm type) n x.fit named).0.0 is (none_sorted (type_sort s type))
  body_has_sort (LiteralTerm (EntityLiteral type id)) k f n named sort body is =
      let d = terms_are_declared enums s state (LiteralTerm (EntityLiteral type id)) n x.fit named in
      entity_stated (members_of enums type) f type id n (type_stands enums s state x.fit (EntityType type) k.3 d.2) d.0 sort body is
  body_has_sort (LiteralTerm (ExtensionLiteral y)) k f n named sort body is =
      let d = terms_are_declared enums s state (LiteralTerm (ExtensionLiteral y)) n x.fit named in
      stated n _ _ sort body d.0.0 is (extension_literal y (kind_of y) k.2 d.2)
  body_has_sort (LiteralTerm (BitVecLiteral w m)) k f n named sort body is = absurd f
  body_has_sort (LiteralTerm (BoolLiteral b)) k f n named sort body is = absurd f
  body_has_sort (LiteralTerm (StringLiteral y)) k f n named sort body is = absurd f
  body_has_sort (RecordTerm fs) k f n named sort body is =
      let d = terms_are_declared enums s state (RecordTerm fs) n x.fit named in
      stated n _ _ sort body d.0.0 is (record_sorted fs d.2 k d.1.0)
  body_has_sort (SetTerm u ts) k f n named sort body is =
      let d = terms_are_declared enums s state (SetTerm u ts) n x.fit named in
      stated n _ _ sort body d.0.0 is (set_sorted u ts k.1 k.0 d.1.0)
  body_has_sort (SomeTerm t) k f n named sort body is =
      let d = terms_are_declared enums s state (SomeTerm t) n x.fit named in
      stated n _ _ sort body d.0.0 is (some_sorted (text_or_nothing (text_of s t)) (type_sort s (type_of t)) (text_has_sort t k d.1.0))
  body_has_sort (VariableTerm id type) k f n named sort body is = absurd f
