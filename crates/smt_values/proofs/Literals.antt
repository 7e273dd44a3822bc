-- Every term of a value is a literal.
use Rattle.std.proofs.Common.{◌≡◌, ℕ, Bool, true, false, List, [], ◌∷◌, Option, Some, None, Ok, Err, refl, subst}
use Rattle.std.specs.Prelude.{◌&&◌}
use Rattle.std.specs.List.{AllByRecursion}
use Rattle.law_numbers.specs.Extensions.{PlainExtension}
use Rattle.law_folding.specs.FoldRecords.{record_of_pairs, sorted_fields}
use Rattle.law_terms.specs.Literals.{are_literal_fields, are_literals, is_literal}
use Rattle.law_terms.specs.Plain.{PlainType, PlainTerm, NoneTerm, terms, record_fields}
use Rattle.law_terms.specs.TermSets.{set_term, sorted_terms}
use Rattle.law_terms.specs.ValueOrder.{text_cmp}
use Rattle.law_terms.proofs.Sorted.{all-sorted}
use Rattle.law_terms.proofs.SortedSets.{all-terms}
use Rattle.smt_values.specs.Cedar.{PlainCedar, SetType, ClosedRecordType, CedarAttributes, no_attributes, attribute}
use Rattle.smt_values.specs.TypeOfCedar.{type_of_cedar}
use Rattle.smt_values.specs.Constructors.{value_of_value}
use Rattle.smt_values.specs.PlainValues.{CedarLiteral, TruthOf, LongOf, TextOf, EntityOf, PlainValue, LiteralValue, SetValue, RecordValue, ExtensionValue, PlainValues, no_values, one_value, PlainFields}
use Rattle.smt_values.specs.Literals.{TermsAreLiterals}
use Rattle.smt_values.specs.Outcomes.{Outcome, ◌>>=◌, converted}
use Rattle.smt_values.specs.TermOfValue.{extension_term, field_named, literal_term, term_at_any_type, term_held, term_lacked, term_of_attribute, term_of_value, terms_of_attributes, terms_of_elements}

abbrev IsLiteral : PlainTerm → Type 0
IsLiteral t = is_literal t ≡ true

abbrev IsPair : List ℕ × PlainTerm → Type 0
IsPair p = is_literal p.1 ≡ true

-- what is stated is a literal, or are literals
abbrev Gives : Outcome PlainTerm → Type 0
Gives (Ok t) = IsLiteral t
Gives (Err fault) = Unit {0}

abbrev GivesAll : Outcome (List PlainTerm) → Type 0
GivesAll (Ok ts) = AllByRecursion IsLiteral ts
GivesAll (Err fault) = Unit {0}

abbrev GivesPairs : Outcome (List (List ℕ × PlainTerm)) → Type 0
GivesPairs (Ok ps) = AllByRecursion IsPair ps
GivesPairs (Err fault) = Unit {0}

-- ---- values that have one term at every type

literal_given : (l : CedarLiteral) → IsLiteral (literal_term l)
literal_given (TruthOf b) = refl
literal_given (LongOf n) = refl
literal_given (TextOf text) = refl
literal_given (EntityOf type id) = refl

extension_given : (v : PlainValue) (o : Option PlainExtension) → Gives (extension_term v o)
extension_given v (Some x) = refl
extension_given v None = tt

any_given : (v : PlainValue) → Gives (term_at_any_type v)
any_given (LiteralValue l) = literal_given l
any_given (ExtensionValue e) = extension_given (ExtensionValue e) (value_of_value (ExtensionValue e))
any_given (SetValue vs) = tt
any_given (RecordValue held) = tt

-- ---- sets

one_more_given : (o : Outcome PlainTerm) (os : Outcome (List PlainTerm)) → Gives o → GivesAll os → GivesAll (o >>= λ t. os >>= λ ts. Ok (t ∷ ts))
one_more_given (Ok t) (Ok ts) h g = (h, g)
one_more_given (Ok t) (Err fault) h g = tt
one_more_given (Err fault) os h g = tt

elements_given : (term_of : PlainValue → Outcome PlainTerm) → ((v : PlainValue) → Gives (term_of v)) → (vs : PlainValues) → GivesAll (terms_of_elements term_of vs)
elements_given term_of each no_values = tt
elements_given term_of each (one_value v vs) = one_more_given (term_of v) (terms_of_elements term_of vs) (each v) (elements_given term_of each vs)

all_literals : (ts : List PlainTerm) → AllByRecursion IsLiteral ts → are_literals (terms ts) ≡ true
all_literals [] h = refl
all_literals (t ∷ ts) h = let first : is_literal t ≡ true = h.0 in let rest : are_literals (terms ts) ≡ true = all_literals ts h.1 in λ i. first i && rest i

set_given : (os : Outcome (List PlainTerm)) (type : Outcome PlainType) → GivesAll os → Gives (os >>= λ ts. type >>= λ own. Ok (set_term own ts))
set_given (Ok ts) (Ok own) h = all_literals (sorted_terms ts) (all-terms IsLiteral ts h)
set_given (Ok ts) (Err fault) h = tt
set_given (Err fault) type h = tt

-- ---- records

held_given : (required : Bool) (o : Outcome PlainTerm) → Gives o → Gives (o >>= λ t. Ok (term_held required t))
held_given true (Ok t) h = h
held_given false (Ok t) h = h
held_given required (Err fault) h = tt

none_given : (type : Outcome PlainType) → Gives (type >>= λ own. Ok (NoneTerm own))
none_given (Ok own) = refl
none_given (Err fault) = tt

lacked_given : (required : Bool) (type : PlainCedar) (held : PlainFields) → Gives (term_lacked required type held)
lacked_given true type held = tt
lacked_given false type held = none_given (converted (type_of_cedar type))

attribute_given : (term_of : PlainValue → Outcome PlainTerm) → ((v : PlainValue) → Gives (term_of v)) → (type : PlainCedar) (required : Bool) (held : PlainFields) (o : Option PlainValue) → Gives (term_of_attribute term_of type required held o)
attribute_given term_of each type required held (Some v) = held_given required (term_of v) (each v)
attribute_given term_of each type required held None = lacked_given required type held

pair_given : (name : List ℕ) (o : Outcome PlainTerm) (os : Outcome (List (List ℕ × PlainTerm))) → Gives o → GivesPairs os → GivesPairs (o >>= λ t. os >>= λ ts. Ok ((name, t) ∷ ts))
pair_given name (Ok t) (Ok ts) h g = (h, g)
pair_given name (Ok t) (Err fault) h g = tt
pair_given name (Err fault) os h g = tt

all_fields : (ps : List (List ℕ × PlainTerm)) → AllByRecursion IsPair ps → are_literal_fields (record_fields ps) ≡ true
all_fields [] h = refl
all_fields (p ∷ ps) h = let first : is_literal p.1 ≡ true = h.0 in let rest : are_literal_fields (record_fields ps) ≡ true = all_fields ps h.1 in λ i. first i && rest i

record_given : (os : Outcome (List (List ℕ × PlainTerm))) → GivesPairs os → Gives (os >>= λ ps. Ok (record_of_pairs ps))
record_given (Ok ps) h = all_fields (sorted_fields ps) (all-sorted (λ p q. text_cmp p.0 q.0) IsPair ps h)
record_given (Err fault) h = tt

-- ---- all values

mutual
  value_given : (type : PlainCedar) (v : PlainValue) → Gives (term_of_value type v)
  value_given (SetType element) (SetValue vs) =
      set_given (terms_of_elements (term_of_value element) vs) (converted (type_of_cedar element)) (elements_given (term_of_value element) (λ w. value_given element w) vs)
  value_given (ClosedRecordType named) (RecordValue held) = record_given (terms_of_attributes named held) (attributes_given named held)
  value_given type v = any_given v

  attributes_given : (named : CedarAttributes) (held : PlainFields) → GivesPairs (terms_of_attributes named held)
  attributes_given no_attributes held = tt
  attributes_given (attribute name type required others) held =
      pair_given name (term_of_attribute (term_of_value type) type required held (field_named name held)) (terms_of_attributes others held)
      (attribute_given (term_of_value type) (λ w. value_given type w) type required held (field_named name held)) (attributes_given others held)

pub terms_are_literals : TermsAreLiterals
terms_are_literals type v t e = subst (λ (o : Outcome PlainTerm). Gives o) e (value_given type v)
