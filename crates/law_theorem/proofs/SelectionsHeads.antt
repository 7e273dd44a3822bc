-- What a term leaves to the interpretation, and that no other application begins with a selector that is left open.
use Rattle.std.proofs.Common.{◌≡◌, ℕ, ◌-◌, ◌^◌, Bool, true, false, not, List, [], ◌∷◌, refl, sym, ap, subst, Option, Some, None}
use Rattle.std.specs.Prelude.{codes, IsSome}
use Rattle.std.proofs.lemmas.Bool.{and_from, false≢true}
use Rattle.law_numbers.specs.BitOperators.{bits_entry, test_entry, overflow_entry}
use Rattle.law_numbers.proofs.BitOperators.{each_bits, each_test, each_overflow}
use Rattle.law_terms.specs.Plain.{IpAddrKind, DecimalKind, DatetimeKind, DurationKind, PlainType, OptionType, BitVecType, BoolType, EntityType, ExtensionType, StringType, RecordType, SetType, PlainFunction, ExtensionOp, IpAddrV4Op, IpAddrV6Op, IpPrefixV4Op, IpPrefixV6Op, PlainOp, BvnegoOp, ExtOp, OptionGetOp, RecordGetOp, StringLikeOp, UufOp, PlainTerm, Application, PlainTerms, BitsOp, TestOp, OverflowOp}
use Rattle.law_terms.specs.Types.{extension_signature, type_eq}
use Rattle.law_terms.specs.TypeValues.{Enums}
use Rattle.law_terms.specs.Interpretations.{function_eq}
use Rattle.law_terms.proofs.TermTotal.{types_decided, functions_decided}
use Rattle.law_texts.specs.Reading.{Expression, expressions}
use Rattle.law_scripts.specs.Script.{Entry, Selects, name, is_in}
use Rattle.law_scripts.specs.Value.{Selection}
use Rattle.law_scripts.specs.Sorts.{option_sort}
use Rattle.law_lines.specs.LineForms.{operands, application_body, least_body}
use Rattle.law_lines.specs.EntryNames.{attribute_name, selector_name, stated_type_name, stated_function_name}
use Rattle.law_lines.specs.Lines.{attribute_place, bits, AsEqualsIntMin, application_rendering, first_type}
use Rattle.law_lines.specs.NameTables.{Tables, name_of_type, name_of_function, text_of_name}
use Rattle.law_lines.specs.Naming.{type_sort}
use Rattle.law_lines.specs.Entries.{EachEntry, texts_of, application_head}
use Rattle.law_lines.proofs.Known.{each_found}
use Rattle.law_theorem.specs.CarriedInterpretations.{ip_type, is_range_selector}
use Rattle.law_theorem.specs.CarriedOperators.{selector_constructor, selector_place}
use Rattle.law_theorem.proofs.SelectionsPlain.{open_selectors, is_plain_head, is_plain, each_plain, plain_append, plain_texts, plain_with_pattern}

-- ---- the selections of terms

abbrev pub option_entry : Entry
option_entry = Selects (codes "Option") (codes "X" ∷ []) (codes "some") 0 (name (codes "X"))

abbrev pub option_selection : Tables → PlainType → Selection
option_selection s type = record { selector = codes "val"; entry = option_entry; sort = option_sort (type_sort s type) }

abbrev pub range_entry : Tables → ExtensionOp → Entry
range_entry s o = Selects (codes "IPAddr") [] (selector_constructor o) (selector_place o) (type_sort s (extension_signature o).1)

abbrev pub range_selection : Tables → ExtensionOp → Selection
range_selection s o = record { selector = selector_name o; entry = range_entry s o; sort = type_sort s ip_type }

abbrev pub range_selections : Tables → ExtensionOp → Bool → List Selection
range_selections s o true = range_selection s o ∷ []
range_selections s o false = []

-- what a term leaves to the interpretation
abbrev pub op_selections : Tables → PlainOp → PlainType → List Selection
op_selections s OptionGetOp type = option_selection s type ∷ []
op_selections s (ExtOp o) type = range_selections s o (is_range_selector o)
op_selections s op type = []

abbrev pub own_selections : Tables → PlainTerm → List Selection
own_selections s (Application op ts type) = op_selections s op type
own_selections s t = []

abbrev pub is_selecting : PlainOp → Bool
is_selecting OptionGetOp = true
is_selecting (ExtOp o) = is_range_selector o
is_selecting op = false

-- ---- names of types and functions

abbrev pub AreTypesCounted : Tables → Type 0
AreTypesCounted s = EachEntry (λ t n. (k : ℕ) × (n ≡ stated_type_name t k)) s.types

abbrev pub AreFunctionsCounted : Tables → Type 0
AreFunctionsCounted s = EachEntry (λ f n. (k : ℕ) × (n ≡ stated_function_name k)) s.functions

type_is_no_selector : (t : PlainType) (k : ℕ) → is_in (stated_type_name t k) open_selectors ≡ false
type_is_no_selector (OptionType t) k = refl
type_is_no_selector (BitVecType w) k = refl
type_is_no_selector BoolType k = refl
type_is_no_selector (EntityType e) k = refl
type_is_no_selector (ExtensionType IpAddrKind) k = refl
type_is_no_selector (ExtensionType DecimalKind) k = refl
type_is_no_selector (ExtensionType DatetimeKind) k = refl
type_is_no_selector (ExtensionType DurationKind) k = refl
type_is_no_selector StringType k = refl
type_is_no_selector (RecordType x) k = refl
type_is_no_selector (SetType t) k = refl

attribute_is_no_selector : (t : PlainType) (k place : ℕ) → is_in (attribute_name (stated_type_name t k) place) open_selectors ≡ false
attribute_is_no_selector (OptionType t) k place = refl
attribute_is_no_selector (BitVecType w) k place = refl
attribute_is_no_selector BoolType k place = refl
attribute_is_no_selector (EntityType e) k place = refl
attribute_is_no_selector (ExtensionType IpAddrKind) k place = refl
attribute_is_no_selector (ExtensionType DecimalKind) k place = refl
attribute_is_no_selector (ExtensionType DatetimeKind) k place = refl
attribute_is_no_selector (ExtensionType DurationKind) k place = refl
attribute_is_no_selector StringType k place = refl
attribute_is_no_selector (RecordType x) k place = refl
attribute_is_no_selector (SetType t) k place = refl

module _ (s : Tables) (counted : AreTypesCounted s) (called : AreFunctionsCounted s) where
  -- the type of IP ranges has its own name
  pub ranges_named : (o : Option (List ℕ)) → name_of_type s ip_type ≡ o → IsSome o → text_of_name o ≡ codes "IPAddr"
  ranges_named None e h = absurd (false≢true h)
  ranges_named (Some n) e h = (each_found (λ t n. (k : ℕ) × (n ≡ stated_type_name t k)) (type_eq ip_type) ip_type (λ l q. (types_decided ip_type l).0 q) s.types n e counted).1

  pub type_apart : (t : PlainType) (o : Option (List ℕ)) → name_of_type s t ≡ o → is_in (text_of_name o) open_selectors ≡ false
  type_apart t None e = refl
  type_apart t (Some n) e =
      let p = each_found (λ t n. (k : ℕ) × (n ≡ stated_type_name t k)) (type_eq t) t (λ l q. (types_decided t l).0 q) s.types n e counted in
      subst (λ m. is_in m open_selectors ≡ false) (sym p.1) (type_is_no_selector t p.0)

  attribute_apart : (t : PlainType) (place : ℕ) (o : Option (List ℕ)) → name_of_type s t ≡ o → is_in (attribute_name (text_of_name o) place) open_selectors ≡ false
  attribute_apart t place None e = refl
  attribute_apart t place (Some n) e =
      let p = each_found (λ t n. (k : ℕ) × (n ≡ stated_type_name t k)) (type_eq t) t (λ l q. (types_decided t l).0 q) s.types n e counted in
      subst (λ m. is_in (attribute_name m place) open_selectors ≡ false) (sym p.1) (attribute_is_no_selector t p.0 place)

  function_apart : (f : PlainFunction) (o : Option (List ℕ)) → name_of_function s f ≡ o → is_in (text_of_name o) open_selectors ≡ false
  function_apart f None e = refl
  function_apart f (Some n) e =
      let p = each_found (λ f n. (k : ℕ) × (n ≡ stated_function_name k)) (function_eq f) f (λ l q. (functions_decided f l).0 q) s.functions n e called in
      subst (λ m. is_in m open_selectors ≡ false) (sym p.1) refl

  -- ---- applications without a selector that is left open

  plain_op : (enums : Enums) (op : PlainOp) (ts : PlainTerms) → is_selecting op ≡ false → is_plain_head (application_head enums s op ts) ≡ true
  plain_op enums (UufOp f) ts h = ap not (function_apart f (name_of_function s f) refl)
  plain_op enums (RecordGetOp a) ts h = ap not (attribute_apart (first_type ts) (attribute_place a (first_type ts)) (name_of_type s (first_type ts)) refl)
  plain_op enums OptionGetOp ts h = absurd (false≢true (sym h))
  plain_op enums (ExtOp IpAddrV4Op) ts h = absurd (false≢true (sym h))
  plain_op enums (ExtOp IpAddrV6Op) ts h = absurd (false≢true (sym h))
  plain_op enums (ExtOp IpPrefixV4Op) ts h = absurd (false≢true (sym h))
  plain_op enums (ExtOp IpPrefixV6Op) ts h = absurd (false≢true (sym h))
  plain_op enums (BitsOp o) ts h = each_bits (λ b. is_plain_head (name (bits_entry b).name) ≡ true) (refl, (refl, (refl, (refl, (refl, (refl, (refl, (refl, (refl, (refl, tt)))))))))) o
  plain_op enums (TestOp o) ts h = each_test (λ b. is_plain_head (name (test_entry b).name) ≡ true) (refl, (refl, (refl, (refl, tt)))) o
  plain_op enums (OverflowOp o) ts h = each_overflow (λ b. is_plain_head (name (overflow_entry b).name) ≡ true) (refl, (refl, (refl, tt))) o
  plain_op enums op ts h = refl

  plain_operands : (op : PlainOp) (es : List Expression) → each_plain (expressions es) ≡ true → each_plain (expressions (operands op es)) ≡ true
  plain_operands (StringLikeOp p) es h = plain_with_pattern p es h
  plain_operands op es h = h

  pub plain_application : (enums : Enums) (op : PlainOp) (ts : PlainTerms) → is_selecting op ≡ false → is_plain (application_body (application_head enums s op ts) op (texts_of s ts)) ≡ true
  plain_application enums op ts h =
      and_from (is_plain_head (application_head enums s op ts)) (each_plain (expressions (operands op (texts_of s ts)))) (plain_op enums op ts h) (plain_operands op (texts_of s ts) (plain_texts s ts))

  pub plain_least : (ts : PlainTerms) (w : ℕ) → is_plain (least_body w (texts_of s ts)) ≡ true
  plain_least ts w = plain_append (texts_of s ts) (bits w (2 ^ (w - 1)) ∷ []) (plain_texts s ts) refl

pub least_selects : (s : Tables) (op : PlainOp) (ts : PlainTerms) (type : PlainType) (w : ℕ) → application_rendering op ts type ≡ AsEqualsIntMin w → op_selections s op type ≡ []
least_selects s BvnegoOp ts type w e = refl
least_selects s op ts type w e = absurd cc
