use Rattle.std.proofs.Common.{◌≡◌, ℕ, true, false, List, [], ◌∷◌, ◌++◌, Option, Some, None, refl, ap, ◌∙◌}
use Rattle.std.specs.Prelude.{IsSome, is_some}
use Rattle.std.specs.Map.{lookup}
use Rattle.law_terms.specs.Plain.{PlainType, OptionType, BitVecType, BoolType, EntityType, ExtensionType, StringType, RecordType, SetType, BitVecLiteral, BoolLiteral, EntityLiteral, ExtensionLiteral, StringLiteral, Application, NoneTerm, LiteralTerm, RecordTerm, SetTerm, SomeTerm, VariableTerm, no_terms, one_term}
use Rattle.law_terms.specs.Types.{type_eq}
use Rattle.law_terms.proofs.TermTotal.{types_decided}
use Rattle.law_texts.specs.Reading.{Expression}
use Rattle.law_scripts.specs.Script.{name}
use Rattle.law_scripts.specs.Sorts.{option_sort, set_sort}
use Rattle.law_lines.specs.Lines.{Written, unless_named, encode_attributes, encode_term, encode_terms}
use Rattle.law_lines.specs.NameTables.{Tables, name_of_term, name_of_type, text_of_name}
use Rattle.law_lines.specs.Entries.{text_or_nothing}
use Rattle.law_lines.specs.TermTexts.{named_text}
use Rattle.law_lines.specs.Made.{TermListsAreMade, TextsStay, SortsStay, WrittenTypesHaveEntries}
use Rattle.law_lines.proofs.Grow.{terms_grow, names_stay}
use Rattle.law_lines.proofs.Making.{terms_are_made, lookup_new, larger_attributes, less}

named_stays : (o p : Option (List ℕ)) (e : Expression) → ((n : List ℕ) → o ≡ Some n → p ≡ Some n) → named_text o ≡ Some e → named_text p ≡ Some e
named_stays (Some n) p e k h = ap named_text (k n refl) ∙ h
named_stays None p e k h = absurd (none_is h)
  where
    none_is : None ≡ Some e → ⊥
    none_is h = cc

pub texts_stay : TextsStay
texts_stay s u (Application op ts type) e k h = named_stays (name_of_term s (Application op ts type)) (name_of_term u (Application op ts type)) e (k.terms (Application op ts type)) h
texts_stay s u (NoneTerm type) e k h = named_stays (name_of_term s (NoneTerm type)) (name_of_term u (NoneTerm type)) e (k.terms (NoneTerm type)) h
texts_stay s u (LiteralTerm (BitVecLiteral width number)) e k h = h
texts_stay s u (LiteralTerm (BoolLiteral b)) e k h = h
texts_stay s u (LiteralTerm (EntityLiteral type id)) e k h =
    named_stays (name_of_term s (LiteralTerm (EntityLiteral type id))) (name_of_term u (LiteralTerm (EntityLiteral type id))) e (k.terms (LiteralTerm (EntityLiteral type id))) h
texts_stay s u (LiteralTerm (ExtensionLiteral x)) e k h =
    named_stays (name_of_term s (LiteralTerm (ExtensionLiteral x))) (name_of_term u (LiteralTerm (ExtensionLiteral x))) e (k.terms (LiteralTerm (ExtensionLiteral x))) h
texts_stay s u (LiteralTerm (StringLiteral text)) e k h = h
texts_stay s u (RecordTerm fields) e k h = named_stays (name_of_term s (RecordTerm fields)) (name_of_term u (RecordTerm fields)) e (k.terms (RecordTerm fields)) h
texts_stay s u (SetTerm element ts) e k h = named_stays (name_of_term s (SetTerm element ts)) (name_of_term u (SetTerm element ts)) e (k.terms (SetTerm element ts)) h
texts_stay s u (SomeTerm t) e k h = named_stays (name_of_term s (SomeTerm t)) (name_of_term u (SomeTerm t)) e (k.terms (SomeTerm t)) h
texts_stay s u (VariableTerm id type) e k h = named_stays (name_of_term s (VariableTerm id type)) (name_of_term u (VariableTerm id type)) e (k.terms (VariableTerm id type)) h

pub term_lists_are_made : TermListsAreMade
term_lists_are_made enums no_terms s = refl
term_lists_are_made enums (one_term t ts) s =
    let u : Tables = (encode_term enums t s).tables in
    let w : Tables = (encode_terms enums ts u).tables in
    let k = names_stay enums u (encode_terms enums ts u).lines w (terms_grow enums ts u) in
    let a = texts_stay u w t (encode_term enums t s).made k (terms_are_made enums t s) in
    let b = term_lists_are_made enums ts u in
    λ i. text_or_nothing (a i) ∷ b i

-- ---- sorts

there : (o p : Option (List ℕ)) → ((n : List ℕ) → o ≡ Some n → p ≡ Some n) → IsSome o → name (text_of_name p) ≡ name (text_of_name o)
there (Some n) p k h = ap (λ q. name (text_of_name q)) (k n refl)
there None p k h = absurd (no h)
  where
    no : false ≡ true → ⊥
    no h = cc

pub sorts_stay : SortsStay
sorts_stay s u (OptionType t) k h = ap option_sort (sorts_stay s u t k h)
sorts_stay s u (BitVecType width) k h = refl
sorts_stay s u BoolType k h = refl
sorts_stay s u (EntityType type) k h = there (name_of_type s (EntityType type)) (name_of_type u (EntityType type)) (k.types (EntityType type)) h
sorts_stay s u (ExtensionType kind) k h = there (name_of_type s (ExtensionType kind)) (name_of_type u (ExtensionType kind)) (k.types (ExtensionType kind)) h
sorts_stay s u StringType k h = refl
sorts_stay s u (RecordType attributes) k h = there (name_of_type s (RecordType attributes)) (name_of_type u (RecordType attributes)) (k.types (RecordType attributes)) h
sorts_stay s u (SetType t) k h = ap set_sort (sorts_stay s u t k h)

stands : (t : PlainType) (s : Tables) (f : Tables → Written Expression) (o : Option (List ℕ)) → name_of_type s t ≡ o
    → (name_of_type s t ≡ None → IsSome (name_of_type (f s).tables t)) → IsSome (name_of_type (unless_named o s f).tables t)
stands t s f (Some n) e h = ap is_some e
stands t s f None e h = h e

stands_new : (t : PlainType) (n : List ℕ) (s : Tables) → name_of_type s t ≡ None → IsSome (lookup (type_eq t) (s.types ++ (t, n) ∷ []))
stands_new t n s h = ap is_some (lookup_new (type_eq t) s.types t n ((types_decided t t).1 refl) h)

pub sorts_stand : WrittenTypesHaveEntries
sorts_stand enums (OptionType t) s = sorts_stand enums t s
sorts_stand enums (BitVecType width) s = tt
sorts_stand enums BoolType s = tt
sorts_stand enums (EntityType type) s = stands (EntityType type) s _ (name_of_type s (EntityType type)) refl (stands_new (EntityType type) _ s)
sorts_stand enums (ExtensionType kind) s = stands (ExtensionType kind) s _ (name_of_type s (ExtensionType kind)) refl (stands_new (ExtensionType kind) _ s)
sorts_stand enums StringType s = tt
sorts_stand enums (RecordType x) s = stands (RecordType x) s _ (name_of_type s (RecordType x)) refl
    (λ h. stands_new (RecordType x) _ (encode_attributes enums x s).tables (larger_attributes enums x s (RecordType x) (less x) ∙ h))
sorts_stand enums (SetType t) s = sorts_stand enums t s
