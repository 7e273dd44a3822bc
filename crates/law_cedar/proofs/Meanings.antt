-- The term of a value is a literal of its type that means what the value means.
use Rattle.std.proofs.Common.{◌≡◌, ℕ, Bool, true, false, List, [], ◌∷◌, Option, Some, None, Ok, Err, map, refl, sym, ap, ◌∙◌, subst}
use Rattle.std.specs.Prelude.{Contains, bytes_eq, if◌then◌else◌}
use Rattle.std.specs.Cmp.Derive.{both_true}
use Rattle.std.specs.List.{AllByRecursion}
use Rattle.std.proofs.lemmas.List.Elements.{All-contains, All-from_recursion}
use Rattle.law_numbers.specs.BitVectors.{bits_of}
use Rattle.law_numbers.specs.Extensions.{PlainExtension}
use Rattle.law_folding.specs.FoldRecords.{record_of_pairs, sorted_fields}
use Rattle.law_folding.specs.SetOf.{IsSetOf}
use Rattle.law_folding.proofs.SetOfElements.{set_of_elements}
use Rattle.law_folding.proofs.Standing.{valued}
use Rattle.law_terms.specs.Literals.{are_literal_fields, are_literals, is_literal}
use Rattle.law_terms.specs.Meaning.{field_meanings, literal_value, meaning, term_value}
use Rattle.law_terms.specs.Plain.{PlainType, OptionType, EntityType, RecordType, SetType, AttributeTypes, attribute, PlainLiteral, BitVecLiteral, BoolLiteral, EntityLiteral, ExtensionLiteral, StringLiteral, PlainTerm, LiteralTerm, NoneTerm, RecordTerm, SomeTerm, terms, record_fields}
use Rattle.law_terms.specs.Tables.{Interpretation}
use Rattle.law_terms.specs.TermSets.{set_term, sorted_terms}
use Rattle.law_terms.specs.Types.{field_types, literal_type, type_of}
use Rattle.law_terms.specs.Typing.{AreOfType, typed_fields}
use Rattle.law_terms.specs.ValueOrder.{ascends, set_of, text_cmp}
use Rattle.law_terms.specs.Values.{Value, NoneValue, SomeValue, RecordValue as ValueOfRecord, FieldValues, one_field_value}
use Rattle.law_terms.proofs.SortedSets.{all-terms}
use Rattle.smt_values.specs.Cedar.{PlainCedar, AnyBoolType, OneBoolType, LongType, TextType, SetType as CedarSetType, EmptySetType, ClosedRecordType, OpenRecordType, AnyEntityType, EntityOfType, ExtensionNamed, CedarAttributes, no_attributes, attribute as cedar_attribute}
use Rattle.smt_values.specs.TypeOfCedar.{Stated, extension_named, held as type_as_held, last_name, type_of_cedar, type_of_entities, type_of_kind, types_of_attributes}
use Rattle.smt_values.specs.Constructors.{value_of_expression}
use Rattle.smt_values.specs.PlainValues.{TruthOf, LongOf, TextOf, EntityOf, PlainValue, LiteralValue, SetValue, RecordValue, ExtensionValue, PlainValues, no_values, one_value, PlainFields, no_fields, one_field}
use Rattle.smt_values.specs.Outcomes.{Outcome, ◌>>=◌, converted}
use Rattle.smt_values.specs.TermOfValue.{extension_term, field_named, term_held, term_of_attribute, term_of_value, terms_of_attributes, terms_of_elements}
use Rattle.law_cedar.specs.CedarMeaning.{attribute_meaning, attribute_meanings, cedar_value, elements_of, extension_meaning, value_named}
use Rattle.law_cedar.specs.CedarTyping.{AreInOrder, HasAttributes, IsInOrder, IsOfAttribute, IsOfExtension, IsOfType, names_of_type}
use Rattle.law_cedar.specs.ValueLaws.{IsLiteralOf, TermsHaveMeanings}
use Rattle.smt_term.proofs.InOrder.{pairs_in_order}
use Rattle.law_cedar.proofs.Types.{IsAttributeBefore, IsRecordOfTypes, IsSetOfType, attribute_stated, one_stated, record_stated, set_stated}

-- what is stated is a literal of this type that has this value
abbrev Gives : PlainType → Value → Outcome PlainTerm → Type 0
Gives t w (Ok u) = IsLiteralOf t w u
Gives t w (Err fault) = ⊥

-- literals of one type that have these values
record AreLiteralsOf (t : PlainType) (ws : List Value) (us : List PlainTerm) : Type 0 where
  types : AreOfType t us
  literals : AllByRecursion (λ u. is_literal u ≡ true) us
  mean : (I : Interpretation) → map (term_value I) us ≡ ws

abbrev GivesAll : PlainType → List Value → Outcome (List PlainTerm) → Type 0
GivesAll t ws (Ok us) = AreLiteralsOf t ws us
GivesAll t ws (Err fault) = ⊥

-- attributes of these names and types that have these values
record AreFieldsOf (names : List (List ℕ)) (types : AttributeTypes) (ws : FieldValues) (ps : List (List ℕ × PlainTerm)) : Type 0 where
  named : map (λ p. p.0) ps ≡ names
  parts : typed_fields (record_fields ps) ≡ true
  same : field_types (record_fields ps) ≡ types
  literals : are_literal_fields (record_fields ps) ≡ true
  mean : (I : Interpretation) → field_meanings I (record_fields ps) ≡ ws

abbrev GivesPairs : List (List ℕ) → AttributeTypes → FieldValues → Outcome (List (List ℕ × PlainTerm)) → Type 0
GivesPairs names types ws (Ok ps) = AreFieldsOf names types ws ps
GivesPairs names types ws (Err fault) = ⊥

-- ---- values that have one term at every type

literal_given : (l : PlainLiteral) (t : PlainType) → literal_type l ≡ t → IsLiteralOf t (literal_value l) (LiteralTerm l)
literal_given l t e = record { typed = record { parts = refl; type = e }; literal = refl; means = λ I. refl }

literal_stated : (l : PlainLiteral) (t : PlainType) (o : Stated PlainType) → o ≡ Ok (literal_type l) → o ≡ Ok t → IsLiteralOf t (literal_value l) (LiteralTerm l)
literal_stated l t o p q = literal_given l t (one_stated (literal_type l) t o p q)

-- entities of one type
one_type : (types : List (List ℕ)) (type : List ℕ) (t : PlainType) → Contains types type → type_of_entities types ≡ Ok t → type_of_entities types ≡ Ok (EntityType type)
one_type [] type t h e = cc
one_type (one ∷ []) type t h e = ap (λ x. Ok (EntityType x)) (All-contains (λ x. one ≡ x) (one ∷ []) type (All-from_recursion (λ x. one ≡ x) (one ∷ []) (refl, tt)) h)
one_type (one ∷ other ∷ types) type t h e = cc

extension_given : (part : List ℕ) (v : PlainValue) (o : Option PlainExtension) (t : PlainType) → IsOfExtension part o → type_of_kind part (extension_named part) ≡ Ok t → Gives t (extension_meaning o) (extension_term v o)
extension_given part v (Some x) t h e = literal_stated (ExtensionLiteral x) t (type_of_kind part (extension_named part)) (ap (type_of_kind part) h) e
extension_given part v None t h e = elim h [ ]

-- ---- sets

one_more_given : (t : PlainType) (w : Value) (ws : List Value) (o : Outcome PlainTerm) (os : Outcome (List PlainTerm)) → Gives t w o → GivesAll t ws os → GivesAll t (w ∷ ws) (o >>= λ u. os >>= λ us. Ok (u ∷ us))
one_more_given t w ws (Ok u) (Ok us) h g = record {
  types = (h.typed, g.types);
  literals = (h.literal, g.literals);
  mean = λ I. (let p : term_value I u ≡ w = h.means I in let q : map (term_value I) us ≡ ws = g.mean I in λ i. p i ∷ q i);
}
one_more_given t w ws (Ok u) (Err fault) h g = elim g [ ]
one_more_given t w ws (Err fault) os h g = elim h [ ]

elements_given : (element : PlainCedar) (own : PlainType) → ((v : PlainValue) → IsOfType element v → Gives own (cedar_value element v) (term_of_value element v))
    → (vs : PlainValues) → AllByRecursion (IsOfType element) (elements_of vs) → GivesAll own (map (cedar_value element) (elements_of vs)) (terms_of_elements (term_of_value element) vs)
elements_given element own each no_values h = record { types = tt; literals = tt; mean = λ I. refl }
elements_given element own each (one_value v vs) h =
    one_more_given own (cedar_value element v) (map (cedar_value element) (elements_of vs)) (term_of_value element v) (terms_of_elements (term_of_value element) vs) (each v h.0) (elements_given element own each vs h.1)

all_literals : (us : List PlainTerm) → AllByRecursion (λ u. is_literal u ≡ true) us → are_literals (terms us) ≡ true
all_literals [] h = refl
all_literals (u ∷ us) h = both_true h.0 (all_literals us h.1)

set_literal : (own t : PlainType) (ws : List Value) (us : List PlainTerm) → SetType own ≡ t → AreLiteralsOf own ws us → IsLiteralOf t (set_of ws) (set_term own us)
set_literal own t ws us same h =
    let s : IsSetOf own us (set_term own us) = set_of_elements own us (set_term own us) refl h.types in
    record {
      typed = record { parts = s.type.parts; type = s.type.type ∙ same };
      literal = all_literals (sorted_terms us) (all-terms (λ u. is_literal u ≡ true) us h.literals);
      means = λ I. s.value I ∙ ap set_of (h.mean I);
    }

set_given : (element : PlainCedar) (own t : PlainType) (ws : List Value) (os : Outcome (List PlainTerm)) → type_of_cedar element ≡ Ok own → SetType own ≡ t → GivesAll own ws os
    → Gives t (set_of ws) (os >>= λ us. converted (type_of_cedar element) >>= λ type. Ok (set_term type us))
set_given element own t ws (Ok us) stated same h = subst (λ (o : Stated PlainType). Gives t (set_of ws) (converted o >>= λ type. Ok (set_term type us))) (sym stated) (set_literal own t ws us same h)
set_given element own t ws (Err fault) stated same h = elim h [ ]

-- ---- records

some_literal : (own : PlainType) (w : Value) (u : PlainTerm) → IsLiteralOf own w u → IsLiteralOf (OptionType own) (SomeValue w) (SomeTerm u)
some_literal own w u h = record {
  typed = record { parts = h.typed.parts; type = ap OptionType h.typed.type };
  literal = h.literal;
  means = λ I. valued I (SomeTerm u) h.typed.parts ∙ ap SomeValue (sym (valued I u h.typed.parts) ∙ h.means I);
}

held_given : (required : Bool) (own : PlainType) (meaning_of : PlainValue → Value) (v : PlainValue) (o : Outcome PlainTerm) → Gives own (meaning_of v) o
    → Gives (type_as_held required own) (attribute_meaning meaning_of required (Some v)) (o >>= λ u. Ok (term_held required u))
held_given true own meaning_of v (Ok u) h = h
held_given false own meaning_of v (Ok u) h = some_literal own (meaning_of v) u h
held_given required own meaning_of v (Err fault) h = elim h [ ]

none_given : (type : PlainCedar) (own : PlainType) → type_of_cedar type ≡ Ok own → Gives (OptionType own) NoneValue (converted (type_of_cedar type) >>= λ t. Ok (NoneTerm t))
none_given type own stated =
    subst (λ (o : Stated PlainType). Gives (OptionType own) NoneValue (converted o >>= λ t. Ok (NoneTerm t))) (sym stated) (record { typed = record { parts = refl; type = refl }; literal = refl; means = λ I. refl })

attribute_given : (type : PlainCedar) (own : PlainType) → type_of_cedar type ≡ Ok own → ((v : PlainValue) → IsOfType type v → Gives own (cedar_value type v) (term_of_value type v))
    → (required : Bool) (held : PlainFields) (o : Option PlainValue) → IsOfAttribute (IsOfType type) required o
    → Gives (type_as_held required own) (attribute_meaning (cedar_value type) required o) (term_of_attribute (term_of_value type) type required held o)
attribute_given type own stated each required held (Some v) h = held_given required own (cedar_value type) v (term_of_value type v) (each v h)
attribute_given type own stated each true held None h = cc
attribute_given type own stated each false held None h = none_given type own stated

-- an attribute's value as the meaning reads it, and as the term does
same_field : (name : List ℕ) (held : PlainFields) → value_named name held ≡ field_named name held
same_field name no_fields = refl
same_field name (one_field other v held) = ap (λ o. if bytes_eq name other then Some v else o) (same_field name held)

attribute_read : (type : PlainCedar) (own : PlainType) → type_of_cedar type ≡ Ok own → ((v : PlainValue) → IsOfType type v → Gives own (cedar_value type v) (term_of_value type v))
    → (name : List ℕ) (required : Bool) (held : PlainFields) → IsOfAttribute (IsOfType type) required (value_named name held)
    → Gives (type_as_held required own) (attribute_meaning (cedar_value type) required (value_named name held)) (term_of_attribute (term_of_value type) type required held (field_named name held))
attribute_read type own stated each name required held h =
    subst (λ (o : Option PlainValue). Gives (type_as_held required own) (attribute_meaning (cedar_value type) required (value_named name held)) (term_of_attribute (term_of_value type) type required held o)) (same_field name held)
    (attribute_given type own stated each required held (value_named name held) h)

pair_given : (name : List ℕ) (names : List (List ℕ)) (own : PlainType) (rest types : AttributeTypes) (w : Value) (ws : FieldValues) (o : Outcome PlainTerm) (os : Outcome (List (List ℕ × PlainTerm)))
    → attribute name own rest ≡ types → Gives own w o → GivesPairs names rest ws os → GivesPairs (name ∷ names) types (one_field_value name w ws) (o >>= λ u. os >>= λ ps. Ok ((name, u) ∷ ps))
pair_given name names own rest types w ws (Ok u) (Ok ps) same h g = record {
  named = ap (λ l. name ∷ l) g.named;
  parts = both_true h.typed.parts g.parts;
  same = (let p : type_of u ≡ own = h.typed.type in let q : field_types (record_fields ps) ≡ rest = g.same in let r : attribute name (type_of u) (field_types (record_fields ps)) ≡ attribute name own rest = (λ i. attribute name (p i) (q i)) in r ∙ same);
  literals = both_true h.literal g.literals;
  mean = λ I. (let p : meaning I u ≡ w = sym (valued I u h.typed.parts) ∙ h.means I in let q : field_meanings I (record_fields ps) ≡ ws = g.mean I in λ i. one_field_value name (p i) (q i));
}
pair_given name names own rest types w ws (Ok u) (Err fault) same h g = elim g [ ]
pair_given name names own rest types w ws (Err fault) os same h g = elim h [ ]

record_literal : (names : List (List ℕ)) (types : AttributeTypes) (t : PlainType) (ws : FieldValues) (ps : List (List ℕ × PlainTerm)) → ascends text_cmp names ≡ true → RecordType types ≡ t → AreFieldsOf names types ws ps
    → IsLiteralOf t (ValueOfRecord ws) (record_of_pairs ps)
record_literal names types t ws ps up same h =
    let sorted_same : sorted_fields ps ≡ ps = pairs_in_order text_cmp ps (ap (λ l. ascends text_cmp l) h.named ∙ up) in
    subst (λ (l : List (List ℕ × PlainTerm)). IsLiteralOf t (ValueOfRecord ws) (RecordTerm (record_fields l))) (sym sorted_same) (record {
      typed = record { parts = h.parts; type = ap RecordType h.same ∙ same };
      literal = h.literals;
      means = λ I. valued I (RecordTerm (record_fields ps)) h.parts ∙ ap ValueOfRecord (h.mean I);
    })

record_given : (names : List (List ℕ)) (types : AttributeTypes) (t : PlainType) (ws : FieldValues) (os : Outcome (List (List ℕ × PlainTerm))) → ascends text_cmp names ≡ true → RecordType types ≡ t → GivesPairs names types ws os
    → Gives t (ValueOfRecord ws) (os >>= λ ps. Ok (record_of_pairs ps))
record_given names types t ws (Ok ps) up same h = record_literal names types t ws ps up same h
record_given names types t ws (Err fault) up same h = elim h [ ]

-- ---- all values

mutual
  value_given : (type : PlainCedar) (v : PlainValue) (t : PlainType) → IsInOrder type → IsOfType type v → type_of_cedar type ≡ Ok t → Gives t (cedar_value type v) (term_of_value type v)
  value_given AnyBoolType (LiteralValue (TruthOf b)) t o h e = literal_stated (BoolLiteral b) t (type_of_cedar AnyBoolType) refl e
  value_given LongType (LiteralValue (LongOf n)) t o h e = literal_stated (BitVecLiteral 64 (bits_of 64 n)) t (type_of_cedar LongType) refl e
  value_given TextType (LiteralValue (TextOf text)) t o h e = literal_stated (StringLiteral text) t (type_of_cedar TextType) refl e
  value_given (EntityOfType types) (LiteralValue (EntityOf type id)) t o h e = literal_stated (EntityLiteral type id) t (type_of_entities types) (one_type types type t h e) e
  value_given (ExtensionNamed name) (ExtensionValue x) t o h e = extension_given (last_name name) (ExtensionValue x) (value_of_expression x) t h e
  value_given (CedarSetType element) (SetValue vs) t o h e =
      let s : IsSetOfType element t = set_stated element t e in
      set_given element s.own t (map (cedar_value element) (elements_of vs)) (terms_of_elements (term_of_value element) vs) s.stated s.same
      (elements_given element s.own (λ v g. value_given element v s.own o g s.stated) vs h)
  value_given (ClosedRecordType named) (RecordValue held) t o h e =
      let s : IsRecordOfTypes named t = record_stated named t e in
      record_given (names_of_type named) s.types t (attribute_meanings named held) (terms_of_attributes named held) o.0 s.same (attributes_given named held s.types o.1 h.0 s.stated)
  value_given (OneBoolType a) v t o h e = cc
  value_given EmptySetType v t o h e = cc
  value_given AnyEntityType v t o h e = cc
  value_given (OpenRecordType named) v t o h e = cc
  value_given type v t o h e = elim h [ ]

  attributes_given : (named : CedarAttributes) (held : PlainFields) (types : AttributeTypes) → AreInOrder named → HasAttributes named held → types_of_attributes named ≡ Ok types
      → GivesPairs (names_of_type named) types (attribute_meanings named held) (terms_of_attributes named held)
  attributes_given no_attributes held types o h e = record { named = refl; parts = refl; same = one_stated _ types (types_of_attributes no_attributes) refl e; literals = refl; mean = λ I. refl }
  attributes_given (cedar_attribute name type required others) held types o h e =
      let s : IsAttributeBefore name type required others types = attribute_stated name type required others types e in
      pair_given name (names_of_type others) (type_as_held required s.own) s.rest types
      (attribute_meaning (cedar_value type) required (value_named name held)) (attribute_meanings others held)
      (term_of_attribute (term_of_value type) type required held (field_named name held)) (terms_of_attributes others held)
      s.same
      (attribute_read type s.own s.stated (λ v g. value_given type v s.own o.0 g s.stated) name required held h.0)
      (attributes_given others held s.rest o.1 h.1 s.others_stated)

-- what is given is stated
given : (t : PlainType) (w : Value) (o : Outcome PlainTerm) → Gives t w o → (u : PlainTerm) × (o ≡ Ok u) × IsLiteralOf t w u
given t w (Ok u) h = (u, refl, h)
given t w (Err fault) h = elim h [ ]

pub terms_have_meanings : TermsHaveMeanings
terms_have_meanings type v t o h e = given t (cedar_value type v) (term_of_value type v) (value_given type v t o h e)
