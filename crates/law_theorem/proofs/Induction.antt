-- The text of each part of a condition has the carried value of what it stands for.
use Rattle.std.proofs.Common.{◌≡◌, ℕ, zero, suc, ◌+◌, ◌<◌, Bool, true, false, List, [], ◌∷◌, ◌++◌, length, map, refl, sym, ap, ap₂, ◌∙◌, subst, Option, Some, None, arith}
use Rattle.std.specs.Prelude.{codes, chars, bytes_eq, IsSome, IsUtf8, IfSome, if◌then◌else◌, ◌==◌}
use Rattle.std.specs.Cmp.{first_so, second_so}
use Rattle.std.specs.List.{AllByRecursion, list_all}
use Rattle.std.specs.Ordering.{is_eq}
use Rattle.std.proofs.lemmas.Bool.{ltb-true, eq-eqb, eqb-true}
use Rattle.law_numbers.specs.BitOperators.{bits_entry, test_entry, overflow_entry}
use Rattle.law_scripts.proofs.Spelled.{bits_found, test_found, overflow_found}
use Rattle.law_terms.specs.Plain.{IpAddrKind, DecimalKind, DatetimeKind, DurationKind, PlainType, OptionType, BoolType, EntityType, ExtensionType, RecordType, SetType, PlainOp, BvnegoOp, ExtOp, OptionGetOp, RecordGetOp, StringLikeOp, UufOp, ZeroExtendOp, PlainExtension, DecimalOf, Ipv4Of, Ipv6Of, DatetimeOf, DurationOf, PlainLiteral, BitVecLiteral, BoolLiteral, EntityLiteral, ExtensionLiteral, StringLiteral, PlainTerm, Application, NoneTerm, LiteralTerm, RecordTerm, SetTerm, SomeTerm, VariableTerm, PlainTerms, no_terms, one_term, PlainFields, no_fields, one_field, BitsOp, TestOp, OverflowOp}
use Rattle.law_terms.specs.Meaning.{literal_value, meaning, meanings, field_meanings}
use Rattle.law_terms.specs.Operators.{apply}
use Rattle.law_terms.specs.Reached.{subterms, subterms_of_all, subterms_of_fields}
use Rattle.law_terms.specs.Tables.{Interpretation}
use Rattle.law_terms.specs.Types.{type_eq, literal_type, type_of, field_types, types_of, is_bits, extension_signature, kind_of}
use Rattle.law_terms.specs.TypeValues.{IsValue, Enums, members_of, AreAscending}
use Rattle.law_terms.specs.Values.{Value, ExtensionValue, NoneValue, SomeValue, RecordValue}
use Rattle.law_terms.specs.ValueOrder.{set_of}
use Rattle.law_terms.proofs.TypeOrder.{eq_same}
use Rattle.law_terms.proofs.Utf8Order.{utf8_order}
use Rattle.law_scripts.specs.ScriptValues.{ScriptValue, TextOf, ConstructorOf, SetOf, ScriptValues, no_script_values, one_script_value}
use Rattle.law_texts.specs.Lexicon.{Text}
use Rattle.law_texts.specs.Reading.{Expression, Leaf}
use Rattle.law_scripts.specs.ScriptOperators.{script_name}
use Rattle.law_scripts.specs.Script.{State, Builds, Defined, Constant, name, group}
use Rattle.law_texts.specs.Options.{◌>>=◌}
use Rattle.law_scripts.specs.Sorts.{entries, string_sort, each_there}
use Rattle.law_scripts.specs.Value.{ScriptInterpretation, expression_value, script_values, inserted}
use Rattle.law_scripts.specs.Meanings.{argument_values, is_own}
use Rattle.law_scripts.proofs.Apply.{constructors_apply, bare_constructors_have_values, nones_have_values, sets_have_values}
use Rattle.law_scripts.proofs.Quotes.{patterns_write}
use Rattle.law_lines.specs.LineForms.{extension_body, none_body, set_body, record_body, empty_set, application_body}
use Rattle.law_lines.specs.EntryNames.{member_name, place_of}
use Rattle.law_lines.specs.Lines.{negation_rendering}
use Rattle.law_lines.specs.NameTables.{Tables, name_of_term, name_of_type}
use Rattle.law_lines.specs.Naming.{type_sort, type_name}
use Rattle.law_lines.specs.Entries.{TypeHasEntries, HaveTexts, HaveFieldTexts, HasFunction, text_or_nothing, texts_of, texts_of_fields, attribute_sorts, application_head, term_lines, application_lines, entity_literal_lines}
use Rattle.law_lines.specs.TermTexts.{text_of}
use Rattle.law_lines.specs.Fit.{EachLine, LineIsDeclared, HasRecord}
use Rattle.law_lines.proofs.Declared.{terms_are_declared, types_are_declared}
use Rattle.law_theorem.specs.Carry.{carry, carry_entity, carry_fields}
use Rattle.law_theorem.specs.CarriedInterpretations.{carry_constant}
use Rattle.law_theorem.specs.CarriedOperators.{carry_each}
use Rattle.law_theorem.specs.CarriedSorts.{shown_members, shown_entity, IsNamed}
use Rattle.law_theorem.proofs.Keys.{term_keyed}
use Rattle.law_theorem.proofs.Members.{tests_same, members_found}
use Rattle.law_theorem.proofs.Sets.{insertions}
use Rattle.law_theorem.specs.TextValues.{HasText}
use Rattle.law_theorem.proofs.Applied.{operator, extended, matched, function, attribute_of, inside_of, negation}
use Rattle.law_theorem.specs.Fits.{IsMemberName}
use Rattle.law_theorem.proofs.Extensions.{built, none_there, some_entry, extension_worth, body_worth}
use Rattle.law_theorem.proofs.Named.{own, some_there, text_sort}
use Rattle.law_terms.proofs.Defaults.{all-join}
use Rattle.law_theorem.proofs.Types.{type_stands, selectors_shown}
use Rattle.law_theorem.proofs.Valued.{IsValued, AreValued, HaveValues}
use Rattle.law_theorem.proofs.Worth.{Follows, carried, Worth, AreWorth, IsEntered, bits_worth, bits_fit, from_body, name_good, some_text, by_name, text_sorted}
use Rattle.law_terms.proofs.Soundness.{chosen}
use Rattle.law_scripts.specs.DeclarationLines.{at_place}

pub none_is : (t : PlainType) → None ≡ Some t → ⊥
none_is t h = cc

none_as_many : (n : ℕ) → (zero == suc n) ≡ true → ⊥
none_as_many n h = let z : zero ≡ suc n = eqb-true zero (suc n) h in omega arith

-- every operator but the overflow of a negation
abbrev pub stands_as_it_is : PlainOp → Bool
stands_as_it_is BvnegoOp = false
stands_as_it_is op = true

-- ---- members of enum types

same_chars : (i m : List ℕ) → IsUtf8 i → IsUtf8 m → bytes_eq (chars i) (chars m) ≡ bytes_eq i m
same_chars i m h k = tests_same (chars i) (chars m) ∙ ap is_eq (sym (utf8_order i m h k)) ∙ sym (tests_same i m)

place_of_chars : (i : List ℕ) (ms : List (List ℕ)) → IsUtf8 i → AllByRecursion IsUtf8 ms → place_of (chars i) (map chars ms) ≡ place_of i ms
place_of_chars i [] h k = refl
place_of_chars i (m ∷ ms) h k = let e = same_chars i m h k.0 in let r = place_of_chars i ms h k.1 in λ z. if e z then 0 else suc (r z)

pub member_at : (d : List ℕ) (from : ℕ) (ms : List (List ℕ)) (place : ℕ) → place < length ms → at_place (shown_members d from ms) place ≡ Some (member_name d (from + place), [])
member_at d from [] place lt = absurd (omega arith)
member_at d from (m ∷ ms) zero lt = let z : from ≡ from + zero = omega arith in ap (λ (k : ℕ). Some (member_name d k, [])) z
member_at d from (m ∷ ms) (suc place) lt =
    let z : suc from + place ≡ from + suc place = omega arith in
    let lt' : place < length ms = omega arith in
    member_at d (suc from) ms place lt' ∙ ap (λ (k : ℕ). Some (member_name d k, [])) z

module _ (enums : Enums) (s : Tables) (state : State) (I : Interpretation) (x : Follows enums s state I) where
  abbrev J : ScriptInterpretation
  J = carried enums s state I

  abbrev Has : Expression → PlainType → Value → Type 0
  Has e ty v = Worth enums s state I e ty v

  -- ---- applications

  applied : (op : PlainOp) (ts : PlainTerms) (type : PlainType) → stands_as_it_is op ≡ true → IsValued enums I (Application op ts type) → HaveTexts s ts → HasFunction s op → HasRecord s op ts → TypeHasEntries s type → AreWorth enums s state I ts
      → Has (application_body (application_head enums s op ts) op (texts_of s ts)) type (apply I op type (meanings I ts))
  applied BvnegoOp ts type o k h f r q a = absurd cc
  applied (ZeroExtendOp n) no_terms type o k h f r q a = absurd (none_is type k.1)
  applied (ZeroExtendOp n) (one_term t no_terms) type o k h f r q a = extended enums s state I x n t type k.1 k.0.1 a.0
  applied (ZeroExtendOp n) (one_term t (one_term u ts)) type o k h f r q a = absurd (none_is type k.1)
  applied (StringLikeOp p) no_terms type o k h f r q a = absurd (none_is type k.1)
  applied (StringLikeOp p) (one_term t no_terms) type o k h f r q a =
      matched enums s state I x p t type (patterns_write p k.3.1).1 k.1 k.0.1 a.0
  applied (StringLikeOp p) (one_term t (one_term u ts)) type o k h f r q a = absurd (none_is type k.1)
  applied (UufOp fn) no_terms type o k h f r q a = absurd (none_is type k.1)
  applied (UufOp fn) (one_term t no_terms) type o k h f r q a = function enums s state I x fn t type k.1 k.2.keys f k.0.1 a.0
  applied (UufOp fn) (one_term t (one_term u ts)) type o k h f r q a = absurd (none_is type k.1)
  applied (RecordGetOp c) no_terms type o k h f r q a = absurd (none_is type k.1)
  applied (RecordGetOp c) (one_term t no_terms) type o k h f r q a = attribute_of enums s state I x c t (type_of t) type refl k.1 r k.0.1 a.0
  applied (RecordGetOp c) (one_term t (one_term u ts)) type o k h f r q a = absurd (none_is type k.1)
  applied OptionGetOp no_terms type o k h f r q a = absurd (none_is type k.1)
  applied OptionGetOp (one_term t no_terms) type o k h f r q a = inside_of enums s state I x t (type_of t) type refl k.1 k.4 q h.0 k.0.1 a.0
  applied OptionGetOp (one_term t (one_term u ts)) type o k h f r q a = absurd (none_is type k.1)
  applied (ExtOp e) no_terms type o k h f r q a = absurd (none_is type k.1)
  applied (ExtOp e) (one_term t no_terms) type o k h f r q a =
      let c : (type_eq (type_of t) (extension_signature e).0 ≡ true) × ((extension_signature e).1 ≡ type) = chosen (type_eq (type_of t) (extension_signature e).0) (extension_signature e).1 type k.1 in
      let same : type_of t ≡ (extension_signature e).0 = eq_same (type_of t) (extension_signature e).0 c.0 in
      subst (λ u. Has (group (application_head enums s (ExtOp e) (one_term t no_terms) ∷ text_or_nothing (text_of s t) ∷ [])) u (apply I (ExtOp e) type (meaning I t ∷ []))) c.1
      (extension_worth enums s state I x e (text_or_nothing (text_of s t)) (meaning I t) k.2 (subst (TypeHasEntries s) same (text_sort enums s state x.fit t h.0)) (subst (TypeHasEntries s) (sym c.1) q)
      (λ entered. (type_sort s (type_of t), text_sorted enums s state I x t (subst IsEntered (sym same) entered) h.0))
      (subst (λ u. IsValue enums u (meaning I t)) same k.0.1) (subst (λ u. Has (text_or_nothing (text_of s t)) u (meaning I t)) same a.0))
  applied (ExtOp e) (one_term t (one_term u ts)) type o k h f r q a = absurd (none_is type k.1)
  -- each other operator is one of a theory
  applied (BitsOp b) ts type o k h f r q a = operator enums s state I x (bits_entry b).name (BitsOp b) ts type (bits_found b) refl k.1 k.0 a
  applied (TestOp b) ts type o k h f r q a = operator enums s state I x (test_entry b).name (TestOp b) ts type (test_found b) refl k.1 k.0 a
  applied (OverflowOp b) ts type o k h f r q a = operator enums s state I x (overflow_entry b).name (OverflowOp b) ts type (overflow_found b) refl k.1 k.0 a
  applied op ts type o k h f r q a = operator enums s state I x (script_name op) op ts type refl refl k.1 k.0 a

  application : (op : PlainOp) (ts : PlainTerms) (type : PlainType) (n : List ℕ) → EachLine (LineIsDeclared state) (term_lines enums s (Application op ts type) n) → IsValued enums I (Application op ts type) → HaveTexts s ts → HasFunction s op → HasRecord s op ts → TypeHasEntries s type → AreWorth enums s state I ts
      → Has (name n) type (apply I op type (meanings I ts))
  application BvnegoOp no_terms type n l k h f r q a = absurd (none_is type k.1)
  application BvnegoOp (one_term t no_terms) type n l k h f r q a =
      let c : (is_bits (type_of t) ≡ true) × (BoolType ≡ type) = chosen (is_bits (type_of t)) BoolType type k.1 in
      subst (λ u. Has (name n) u (apply I BvnegoOp u (meaning I t ∷ []))) c.1
      (negation enums s state I x t (type_of t) n c.0 k.0.2
      (subst (λ u. EachLine (LineIsDeclared state) (application_lines enums s (negation_rendering (one_term t no_terms) u) BvnegoOp (one_term t no_terms) u n)) (sym c.1) l) k.0.1 a.0)
  application BvnegoOp (one_term t (one_term u ts)) type n l k h f r q a = absurd (none_is type k.1)
  application op ts type n l k h f r q a =
      from_body enums s state I x n (type_sort s type) (application_body (application_head enums s op ts) op (texts_of s ts)) (Some (carry enums s type (apply I op type (meanings I ts)))) l.0 (applied op ts type refl k h f r q a)

  -- ---- literals

  entity_worth : (o : Option (List (List ℕ))) (type id n : List ℕ) → IsNamed (entries state) (type_name s (EntityType type)) (shown_entity o (type_name s (EntityType type))) → EachLine (LineIsDeclared state) (entity_literal_lines o (type_name s (EntityType type)) id n)
      → IsMemberName o s type id n → IfSome o AreAscending → IsUtf8 id → expression_value J state (name n) ≡ Some (carry_entity o (type_name s (EntityType type)) (chars id))
  entity_worth None type id n d l m g u =
      let c = type_name s (EntityType type) in
      from_body enums s state I x n (name c) (group (name c ∷ Leaf (Text (chars id)) ∷ [])) (Some (carry_entity None c (chars id))) l.0
      (built enums s state I x c c [] 0 string_sort (Leaf (Text (chars id))) (TextOf (chars id)) (d.datatype.builds 0 c (string_sort ∷ []) refl) refl)
  entity_worth (Some ms) type id n d l m g u =
      let c = type_name s (EntityType type) in
      let place = place_of id ms in
      let at = member_at c 0 ms place (ltb-true place (length ms) m.2) in
      let z : 0 + place ≡ place = omega arith in
      let entry : entries state (member_name c place) ≡ Some (Builds c [] place []) = d.datatype.builds place (member_name c place) [] (at ∙ ap (λ (k : ℕ). Some (member_name c k, [])) z) in
      ap (λ (l : List ℕ). expression_value J state (name l)) m.1
      ∙ bare_constructors_have_values J state (member_name c place) c [] place (x.last.own (member_name c place) (Builds c [] place []) entry) entry
      ∙ ap (λ (k : ℕ). Some (ConstructorOf k (member_name c k) no_script_values)) (sym (place_of_chars id ms u g.texts))

  extension_literal : (y : PlainExtension) (n : List ℕ) (sort : Expression) → entries state n ≡ Some (Defined sort (extension_body y)) → IsValue enums (literal_type (ExtensionLiteral y)) (ExtensionValue y) → TypeHasEntries s (ExtensionType (kind_of y))
      → Has (name n) (literal_type (ExtensionLiteral y)) (ExtensionValue y)
  extension_literal (DecimalOf z) n sort h v k = from_body enums s state I x n sort (extension_body (DecimalOf z)) _ h (body_worth enums s state I x (DecimalOf z) DecimalKind v k)
  extension_literal (Ipv4Of a p) n sort h v k = from_body enums s state I x n sort (extension_body (Ipv4Of a p)) _ h (body_worth enums s state I x (Ipv4Of a p) IpAddrKind v k)
  extension_literal (Ipv6Of a p) n sort h v k = from_body enums s state I x n sort (extension_body (Ipv6Of a p)) _ h (body_worth enums s state I x (Ipv6Of a p) IpAddrKind v k)
  extension_literal (DatetimeOf z) n sort h v k = from_body enums s state I x n sort (extension_body (DatetimeOf z)) _ h (body_worth enums s state I x (DatetimeOf z) DatetimeKind v k)
  extension_literal (DurationOf z) n sort h v k = from_body enums s state I x n sort (extension_body (DurationOf z)) _ h (body_worth enums s state I x (DurationOf z) DurationKind v k)

  literal_worth : (l : PlainLiteral) → IsValued enums I (LiteralTerm l) → IsSome (text_of s (LiteralTerm l)) → Has (text_or_nothing (text_of s (LiteralTerm l))) (literal_type l) (literal_value l)
  literal_worth (BitVecLiteral w n) k h = bits_worth enums s state I w n (bits_fit w n k.3 k.1)
  literal_worth (BoolLiteral true) k h = refl
  literal_worth (BoolLiteral false) k h = refl
  literal_worth (StringLiteral t) k h = refl
  literal_worth (EntityLiteral type id) k h =
      let t = LiteralTerm (EntityLiteral type id) in
      by_name enums s state I x (λ e. expression_value J state e ≡ Some (carry_entity (members_of enums type) (type_name s (EntityType type)) (chars id))) t _ refl h
      (λ n q. (let d = terms_are_declared enums s state t n x.fit q in
      entity_worth (members_of enums type) type id n (type_stands enums s state x.fit (EntityType type) k.3 d.2) d.0 (name_good enums s state I x t n q) (members_found enums type x.enum_types) k.1))
  literal_worth (ExtensionLiteral y) k h =
      let t = LiteralTerm (ExtensionLiteral y) in
      by_name enums s state I x (λ e. Has e (literal_type (ExtensionLiteral y)) (ExtensionValue y)) t _ refl h
      (λ n q. (let d = terms_are_declared enums s state t n x.fit q in extension_literal y n _ d.0.0 k.2 d.2))

  -- ---- records

  abbrev AreFieldsWorth : PlainFields → Type 0
  AreFieldsWorth no_fields = Unit {0}
  AreFieldsWorth (one_field a t fs) = Has (text_or_nothing (text_of s t)) (type_of t) (meaning I t) × AreFieldsWorth fs

  abbrev listed : PlainFields → List ScriptValue
  listed no_fields = []
  listed (one_field a t fs) = carry enums s (type_of t) (meaning I t) ∷ listed fs

  fields_listed : (fs : PlainFields) → script_values (listed fs) ≡ carry_fields enums s (field_types fs) (field_meanings I fs)
  fields_listed no_fields = refl
  fields_listed (one_field a t fs) = ap (λ (vs : ScriptValues). one_script_value (carry enums s (type_of t) (meaning I t)) vs) (fields_listed fs)

  field_arguments : (fs : PlainFields) → AreFieldsWorth fs → argument_values J state (texts_of_fields s fs) ≡ Some (listed fs)
  field_arguments no_fields h = refl
  field_arguments (one_field a t fs) h = ap₂ (λ (o : Option ScriptValue) (p : Option (List ScriptValue)). o >>= λ v. p >>= λ vs. Some (v ∷ vs)) h.0 (field_arguments fs h.1)

  fields_counted : (fs : PlainFields) → length (listed fs) ≡ length (attribute_sorts s (field_types fs))
  fields_counted no_fields = refl
  fields_counted (one_field a t fs) = ap suc (fields_counted fs)

  built_record : (fs : PlainFields) (n : List ℕ) (sorts : List Expression) → is_own n ≡ true → entries state n ≡ Some (Builds n [] 0 sorts) → (length (listed fs) == length sorts) ≡ true → AreFieldsWorth fs
      → expression_value J state (record_body (name n) (texts_of_fields s fs)) ≡ Some (ConstructorOf 0 n (script_values (listed fs)))
  built_record no_fields n [] own h l a = bare_constructors_have_values J state n n [] 0 own h
  built_record no_fields n (e ∷ es) own h l a = absurd (none_as_many (length es) l)
  built_record (one_field c t fs) n sorts own h l a = constructors_apply J state n n [] 0 sorts (text_or_nothing (text_of s t)) (texts_of_fields s fs) (listed (one_field c t fs)) own h (field_arguments (one_field c t fs) a) l

  record_worth : (fs : PlainFields) → TypeHasEntries s (RecordType (field_types fs)) → AreFieldsWorth fs → Has (record_body (name (type_name s (RecordType (field_types fs)))) (texts_of_fields s fs)) (RecordType (field_types fs)) (RecordValue (field_meanings I fs))
  record_worth fs sort a =
      let u = RecordType (field_types fs) in
      let n = type_name s u in
      let es = attribute_sorts s (field_types fs) in
      let d = (types_are_declared enums s state u n x.fit (some_there (name_of_type s u) sort)).0.1.0.1.0 in
      let entry = subst (λ (fields : List Expression). entries state n ≡ Some (Builds n [] 0 fields)) (selectors_shown enums s state x.fit n 0 es) d in
      built_record fs n es (x.last.own n (Builds n [] 0 es) entry) entry (eq-eqb (length (listed fs)) (length es) (fields_counted fs)) a
      ∙ ap (λ (vs : ScriptValues). Some (ConstructorOf 0 n vs)) (fields_listed fs)

  -- ---- sets

  empty_worth : (sort : Expression) → expression_value J state (empty_set sort) ≡ Some (SetOf no_script_values)
  empty_worth sort = (sets_have_values J state sort sort sort []).0

  -- an element before others, and last a set
  insertion_worth : (sort e : Expression) (es : List Expression) (f : Expression) → expression_value J state (group (name (codes "set.insert") ∷ e ∷ (es ++ f ∷ []))) ≡ (argument_values J state (e ∷ (es ++ f ∷ [])) >>= inserted)
  insertion_worth sort e [] f = (sets_have_values J state sort e f []).1
  insertion_worth sort e (d ∷ es) f = (sets_have_values J state sort e d (es ++ f ∷ [])).1

  arguments_then : (ts : PlainTerms) (e : Expression) (v : ScriptValue) → AreWorth enums s state I ts → expression_value J state e ≡ Some v → argument_values J state (texts_of s ts ++ e ∷ []) ≡ Some (carry_each enums s (types_of ts) (meanings I ts) ++ v ∷ [])
  arguments_then no_terms e v a h = ap (λ (o : Option ScriptValue). each_there (o ∷ [])) h
  arguments_then (one_term t ts) e v a h = ap₂ (λ (o : Option ScriptValue) (p : Option (List ScriptValue)). o >>= λ w. p >>= λ vs. Some (w ∷ vs)) a.0 (arguments_then ts e v a.1 h)

  elements : (u : PlainType) (ts : PlainTerms) → list_all (type_eq u) (types_of ts) ≡ true → AreValued enums I ts → (carry_each enums s (types_of ts) (meanings I ts) ≡ map (carry enums s u) (meanings I ts)) × AllByRecursion (λ v. IsValue enums u v) (meanings I ts)
  elements u no_terms h k = (refl, tt)
  elements u (one_term t ts) h k =
      let e : u ≡ type_of t = eq_same u (type_of t) (first_so (type_eq u (type_of t)) (list_all (type_eq u) (types_of ts)) h) in
      let r = elements u ts (second_so (type_eq u (type_of t)) (list_all (type_eq u) (types_of ts)) h) k.3 in
      (ap₂ (λ (y : PlainType) (vs : List ScriptValue). carry enums s y (meaning I t) ∷ vs) (sym e) r.0, (subst (λ y. IsValue enums y (meaning I t)) (sym e) k.1, r.1))

  set_worth : (u : PlainType) (ts : PlainTerms) → list_all (type_eq u) (types_of ts) ≡ true → AreValued enums I ts → AreWorth enums s state I ts → Has (set_body (type_sort s (SetType u)) (texts_of s ts)) (SetType u) (set_of (meanings I ts))
  set_worth u no_terms h k a = empty_worth (type_sort s (SetType u)) ∙ insertions enums s x.enum_types u [] tt
  set_worth u (one_term t ts) h k a =
      let sort = type_sort s (SetType u) in
      let r = elements u (one_term t ts) h k in
      insertion_worth sort (text_or_nothing (text_of s t)) (texts_of s ts) (empty_set sort)
      ∙ ap (λ (o : Option (List ScriptValue)). o >>= inserted) (arguments_then (one_term t ts) (empty_set sort) (SetOf no_script_values) a (empty_worth sort))
      ∙ ap (λ (vs : List ScriptValue). inserted (vs ++ SetOf no_script_values ∷ [])) r.0
      ∙ insertions enums s x.enum_types u (meanings I (one_term t ts)) r.1

  -- ---- variables

  variable_worth : (id : List ℕ) (type : PlainType) (n : List ℕ) → name_of_term s (VariableTerm id type) ≡ Some n → entries state n ≡ Some (Constant (type_sort s type)) → Has (name n) type (I.variable id type)
  variable_worth id type n q h =
      (x.last.constants n (type_sort s type) h).0 ∙ ap (λ (o : Option PlainTerm). Some (carry_constant enums s I o)) (term_keyed s (VariableTerm id type) n x.one_to_one.terms q)

  -- ---- all terms

  mutual
    pub worth : (t : PlainTerm) → IsValued enums I t → IsSome (text_of s t) → Has (text_or_nothing (text_of s t)) (type_of t) (meaning I t)
    worth (Application op ts type) k h =
        by_name enums s state I x (λ e. Has e type (apply I op type (meanings I ts))) (Application op ts type) _ refl h
        (λ n q. (let d = terms_are_declared enums s state (Application op ts type) n x.fit q in
        application op ts type n d.0 k d.1.0.0 d.1.0.1 d.1.1 d.2 (all_worth ts k.0 d.1.0.0)))
    worth (NoneTerm type) k h =
        by_name enums s state I x (λ e. Has e (OptionType type) NoneValue) (NoneTerm type) _ refl h
        (λ n q. (let sort = type_sort s (OptionType type) in
        from_body enums s state I x n sort (none_body sort) _ (terms_are_declared enums s state (NoneTerm type) n x.fit q).0.0
        (nones_have_values J state (codes "Option") (codes "X" ∷ []) 0 sort (none_there enums s state I x))))
    worth (LiteralTerm l) k h = literal_worth l k h
    worth (RecordTerm fs) k h =
        by_name enums s state I x (λ e. Has e (RecordType (field_types fs)) (RecordValue (field_meanings I fs))) (RecordTerm fs) _ refl h
        (λ n q. (let d = terms_are_declared enums s state (RecordTerm fs) n x.fit q in
        from_body enums s state I x n _ _ _ d.0.0 (record_worth fs d.2 (fields_worth fs k d.1.0))))
    worth (SetTerm u ts) k h =
        by_name enums s state I x (λ e. Has e (SetType u) (set_of (meanings I ts))) (SetTerm u ts) _ refl h
        (λ n q. (let d = terms_are_declared enums s state (SetTerm u ts) n x.fit q in
        from_body enums s state I x n _ _ _ d.0.0 (set_worth u ts k.1 k.0 (all_worth ts k.0 d.1.0))))
    worth (SomeTerm t) k h =
        by_name enums s state I x (λ e. Has e (OptionType (type_of t)) (SomeValue (meaning I t))) (SomeTerm t) _ refl h
        (λ n q. (let d = terms_are_declared enums s state (SomeTerm t) n x.fit q in
        from_body enums s state I x n _ _ _ d.0.0
        (built enums s state I x (codes "some") (codes "Option") (codes "X" ∷ []) 1 (name (codes "X")) (text_or_nothing (text_of s t)) (carry enums s (type_of t) (meaning I t)) (some_entry enums s state I x) (worth t k d.1.0))))
    worth (VariableTerm id type) k h =
        by_name enums s state I x (λ e. Has e type (I.variable id type)) (VariableTerm id type) _ refl h
        (λ n q. variable_worth id type n q (terms_are_declared enums s state (VariableTerm id type) n x.fit q).0.1.0)

    all_worth : (ts : PlainTerms) → AreValued enums I ts → HaveTexts s ts → AreWorth enums s state I ts
    all_worth no_terms k h = tt
    all_worth (one_term t ts) k h = (worth t k.0 h.0, all_worth ts k.3 h.1)

    fields_worth : (fs : PlainFields) → HaveValues enums I fs → HaveFieldTexts s fs → AreFieldsWorth fs
    fields_worth no_fields k h = tt
    fields_worth (one_field a t fs) k h = (worth t k.0 h.0, fields_worth fs k.1 h.1)

  -- ---- all that they reach

  has_text : (t : PlainTerm) → IsValued enums I t → IsSome (text_of s t) → HasText enums s state I t
  has_text t k h = record { text = text_or_nothing (text_of s t); is_text = some_text (text_of s t) h; value = worth t k h }

  abbrev All : List PlainTerm → Type 0
  All ts = AllByRecursion (HasText enums s state I) ts

  then_last : (ts : List PlainTerm) (t : PlainTerm) → All ts → HasText enums s state I t → All (ts ++ t ∷ [])
  then_last ts t a h = all-join (HasText enums s state I) ts (t ∷ []) a (h, tt)

  mutual
    pub parts_have_texts : (t : PlainTerm) → IsValued enums I t → IsSome (text_of s t) → All (subterms t)
    parts_have_texts (Application op ts type) k h = then_last (subterms_of_all ts) (Application op ts type) (all_have_texts ts k.0 (own enums s state x.fit (Application op ts type) h).0.0.0) (has_text (Application op ts type) k h)
    parts_have_texts (NoneTerm type) k h = (has_text (NoneTerm type) k h, tt)
    parts_have_texts (LiteralTerm l) k h = (has_text (LiteralTerm l) k h, tt)
    parts_have_texts (RecordTerm fs) k h = then_last (subterms_of_fields fs) (RecordTerm fs) (fields_have_texts fs k (own enums s state x.fit (RecordTerm fs) h).0.0) (has_text (RecordTerm fs) k h)
    parts_have_texts (SetTerm u ts) k h = then_last (subterms_of_all ts) (SetTerm u ts) (all_have_texts ts k.0 (own enums s state x.fit (SetTerm u ts) h).0.0) (has_text (SetTerm u ts) k h)
    parts_have_texts (SomeTerm t) k h = then_last (subterms t) (SomeTerm t) (parts_have_texts t k (own enums s state x.fit (SomeTerm t) h).0.0) (has_text (SomeTerm t) k h)
    parts_have_texts (VariableTerm id type) k h = (has_text (VariableTerm id type) k h, tt)

    all_have_texts : (ts : PlainTerms) → AreValued enums I ts → HaveTexts s ts → All (subterms_of_all ts)
    all_have_texts no_terms k h = tt
    all_have_texts (one_term t ts) k h = all-join (HasText enums s state I) (subterms t) (subterms_of_all ts) (parts_have_texts t k.0 h.0) (all_have_texts ts k.3 h.1)

    fields_have_texts : (fs : PlainFields) → HaveValues enums I fs → HaveFieldTexts s fs → All (subterms_of_fields fs)
    fields_have_texts no_fields k h = tt
    fields_have_texts (one_field a t fs) k h = all-join (HasText enums s state I) (subterms t) (subterms_of_fields fs) (parts_have_texts t k.0 h.0) (fields_have_texts fs k.1 h.1)
