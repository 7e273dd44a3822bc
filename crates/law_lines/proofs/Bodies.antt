-- The bodies of definitions are known where tables and a state fit.
use Rattle.std.proofs.Common.{◌≡◌, ℕ, zero, suc, ◌+◌, ◌-◌, ◌^◌, ◌<◌, ◌≤◌, Bool, true, false, List, [], ◌∷◌, map, length, refl, sym, subst, inl, inr, Option, Some, None, arith}
use Rattle.std.specs.Prelude.{codes, IsSome, nat_lt, eqb, bytes_eq}
use Rattle.std.specs.List.{list_all}
use Rattle.std.proofs.lemmas.Bool.{and_parts, and_from, ltb-true, false≢true, eqb-true, eqb-false}
use Rattle.law_numbers.specs.BitOperators.{BitsOperator, TestOperator, OverflowOperator, bits_entry, test_entry, overflow_entry}
use Rattle.law_numbers.specs.BitVectors.{bits_of}
use Rattle.law_numbers.proofs.BitOperators.{each_bits, each_test, each_overflow}
use Rattle.law_terms.specs.Plain.{ExtensionKind, IpAddrKind, DecimalKind, DatetimeKind, DurationKind, PlainType, OptionType, BitVecType, ExtensionType, RecordType, AttributeTypes, PlainFunction, ExtensionOp, DatetimeOfBitVecOp, DatetimeValOp, DecimalValOp, DurationOfBitVecOp, DurationValOp, IpAddrV4Op, IpAddrV6Op, IpIsV4Op, IpPrefixV4Op, IpPrefixV6Op, PatternPart, Character, Wildcard, PlainOp, BvnegoOp, ExtOp, OptionGetOp, RecordGetOp, StringLikeOp, UufOp, PlainExtension, DecimalOf, Ipv4Of, Ipv6Of, DatetimeOf, DurationOf, PlainTerms, no_terms, one_term, BitsOp, TestOp, OverflowOp}
use Rattle.law_terms.specs.TypeValues.{Enums}
use Rattle.law_terms.specs.Parts.{attribute_names}
use Rattle.law_terms.specs.Types.{kind_of}
use Rattle.law_texts.specs.Reading.{Expression, expressions}
use Rattle.law_scripts.specs.Script.{State, name, names_of, group, is_in, built_in_names, has_name, has_sort, is_sort, knows}
use Rattle.law_scripts.specs.WrittenStrings.{part_expr, pattern_expr}
use Rattle.law_scripts.specs.Written.{is_name}
use Rattle.law_scripts.proofs.Quotes.{patterns_write}
use Rattle.law_scripts.specs.Sorts.{bit_sort, option_sort}
use Rattle.law_lines.specs.LineForms.{prefix_body, extension_body, none_body, empty_set, set_body, record_body, application_body, least_body, some_body}
use Rattle.law_lines.specs.EntryNames.{attribute_name, place_of}
use Rattle.law_lines.specs.Lines.{attribute_place, bits, encode_head, encode_function, AsApplication, application_rendering, first_type}
use Rattle.law_lines.specs.NameTables.{Tables, name_of_type, name_of_function, text_of_name}
use Rattle.law_lines.specs.Naming.{type_sort}
use Rattle.law_lines.specs.Entries.{TypeHasEntries}
use Rattle.law_lines.specs.TermTexts.{named_text}
use Rattle.law_lines.proofs.Making.{functions_are_made}
use Rattle.law_lines.specs.Command.{is_written, are_written}
use Rattle.law_lines.specs.Encodable.{HasArgument, IsEncodableOp, IsLeast, AreEncodable, kind_of_op}
use Rattle.law_lines.specs.Fit.{Fit, TypeEntryIsDeclared, declares, kind_names, option_names}
use Rattle.law_lines.proofs.Known.{GoodSort, GoodText, GoodTexts, TextsAre, sort_good, text_good, texts_good, more_good, applied_good, one_passes, type_stands, function_stands, bits_good}
use Rattle.law_terms.specs.Faults.{is_pattern_part}
use Rattle.law_scripts.proofs.Results.{or_left, or_right}
use Rattle.law_lines.proofs.TypeNames.{placed, names_listed}

-- ---- entries of types

pub stands : (enums : Enums) (s : Tables) (state : State) → Fit enums s state → (t : PlainType) → (o : Option (List ℕ)) → name_of_type s t ≡ o → IsSome o → TypeEntryIsDeclared enums state t (text_of_name o)
stands enums s state fit t None e h = absurd (false≢true h)
stands enums s state fit t (Some n) e h = type_stands enums s state fit t n e

pub stands_so : (enums : Enums) (s : Tables) (state : State) → Fit enums s state → (t : PlainType) → IsSome (name_of_type s t) → TypeEntryIsDeclared enums state t (text_of_name (name_of_type s t))
stands_so enums s state fit t h = stands enums s state fit t (name_of_type s t) refl h

pub first_has_sort : (enums : Enums) (s : Tables) (state : State) → Fit enums s state → (ts : PlainTerms) → AreEncodable enums ts → (es : List Expression) → TextsAre s ts es → TypeHasEntries s (first_type ts)
first_has_sort enums s state fit no_terms f es h = tt
first_has_sort enums s state fit (one_term t ts) f [] h = absurd h
first_has_sort enums s state fit (one_term t ts) f (e ∷ es) h = (text_good enums s state fit t f.0 e h.0).1

kind_declares : (enums : Enums) (s : Tables) (state : State) → Fit enums s state → (k : ExtensionKind) → TypeHasEntries s (ExtensionType k) → (n : List ℕ) → is_in n (kind_names k) ≡ true → declares state n ≡ true
kind_declares enums s state fit k h n i = one_passes (declares state) n (kind_names k) (subst (λ ns. list_all (declares state) ns ≡ true) (names_listed enums (ExtensionType k) (text_of_name (name_of_type s (ExtensionType k)))) (stands_so enums s state fit (ExtensionType k) h).declared) i

abbrev pub one_good : State → Expression → Type 0
one_good state e = GoodTexts state (e ∷ [])

alone : (state : State) (e : Expression) → GoodText state e → GoodTexts state (e ∷ [])
alone state e g = (and_from (knows state e) true g.0 refl, and_from (is_written e) true g.1 refl)

pair : (state : State) (e f : Expression) → GoodText state e → GoodText state f → GoodTexts state (e ∷ f ∷ [])
pair state e f g h = let r = alone state f h in (and_from (knows state e) _ g.0 r.0, and_from (is_written e) _ g.1 r.1)

-- ---- operators

pub option_good : (enums : Enums) (s : Tables) (state : State) → Fit enums s state → (n : List ℕ) → is_in n option_names ≡ true → declares state n ≡ true
option_good enums s state fit n h = one_passes (declares state) n option_names fit.builds h

extension_op_good : (enums : Enums) (s : Tables) (state : State) → Fit enums s state → (x : ExtensionOp) → TypeHasEntries s (ExtensionType (kind_of_op x)) → (ts : PlainTerms) (e : Expression) (es : List Expression) → GoodTexts state (e ∷ es)
    → GoodText state (group ((encode_head enums (ExtOp x) ts s).made ∷ e ∷ es))
extension_op_good enums s state fit DatetimeOfBitVecOp h ts e es g = applied_good enums s state fit (codes "Datetime") e es (kind_declares enums s state fit DatetimeKind h (codes "Datetime") refl) refl g
extension_op_good enums s state fit DatetimeValOp h ts e es g = applied_good enums s state fit (codes "datetimeVal") e es (kind_declares enums s state fit DatetimeKind h (codes "datetimeVal") refl) refl g
extension_op_good enums s state fit DecimalValOp h ts e es g = applied_good enums s state fit (codes "decimalVal") e es (kind_declares enums s state fit DecimalKind h (codes "decimalVal") refl) refl g
extension_op_good enums s state fit DurationOfBitVecOp h ts e es g = applied_good enums s state fit (codes "Duration") e es (kind_declares enums s state fit DurationKind h (codes "Duration") refl) refl g
extension_op_good enums s state fit DurationValOp h ts e es g = applied_good enums s state fit (codes "durationVal") e es (kind_declares enums s state fit DurationKind h (codes "durationVal") refl) refl g
extension_op_good enums s state fit IpAddrV4Op h ts e es g = applied_good enums s state fit (codes "addrV4") e es (kind_declares enums s state fit IpAddrKind h (codes "addrV4") refl) refl g
extension_op_good enums s state fit IpAddrV6Op h ts e es g = applied_good enums s state fit (codes "addrV6") e es (kind_declares enums s state fit IpAddrKind h (codes "addrV6") refl) refl g
extension_op_good enums s state fit IpIsV4Op h ts e es g =
    let d : has_name state (codes "V4") ≡ true = kind_declares enums s state fit IpAddrKind h (codes "V4") refl in
    (and_from (has_name state (codes "V4")) _ d g.0, g.1)
extension_op_good enums s state fit IpPrefixV4Op h ts e es g = applied_good enums s state fit (codes "prefixV4") e es (kind_declares enums s state fit IpAddrKind h (codes "prefixV4") refl) refl g
extension_op_good enums s state fit IpPrefixV6Op h ts e es g = applied_good enums s state fit (codes "prefixV6") e es (kind_declares enums s state fit IpAddrKind h (codes "prefixV6") refl) refl g

pub placed_passes : (p : List ℕ → Bool) (f : ℕ → List ℕ) (place count i : ℕ) → list_all p (placed f place count) ≡ true → place ≤ i → i < place + count → p (f i) ≡ true
placed_passes p f place zero i h l m = absurd (impossible place i l m)
  where
    impossible : (place i : ℕ) → place ≤ i → i < place + 0 → ⊥
    impossible place i l m = omega arith
placed_passes p f place (suc count) i h l m =
    let q = and_parts (p (f place)) (list_all p (placed f (suc place) count)) h in
    go (eqb place i) refl q.0 (λ k. placed_passes p f (suc place) count i q.1 k (omega arith))
  where
    go : (b : Bool) → eqb place i ≡ b → p (f place) ≡ true → (suc place ≤ i → p (f i) ≡ true) → p (f i) ≡ true
    go true e q again = subst (λ j. p (f j) ≡ true) (eqb-true place i e) q
    go false e q again = again (next place i l (eqb-false place i e))
      where
        next : (place i : ℕ) → place ≤ i → (place ≡ i → ⊥) → suc place ≤ i
        next place i l n = omega arith

record_get_good : (enums : Enums) (s : Tables) (state : State) → Fit enums s state → (a : List ℕ) (x : AttributeTypes) (t : PlainType) → t ≡ RecordType x → TypeHasEntries s t
    → nat_lt (place_of a (attribute_names x)) (length (attribute_names x)) ≡ true → (y : Expression) (es : List Expression) → GoodTexts state (y ∷ es)
    → GoodText state (group (name (attribute_name (text_of_name (name_of_type s t)) (attribute_place a t)) ∷ y ∷ es))
record_get_good enums s state fit a x t e h l y es g =
    subst (λ u. GoodText state (group (name (attribute_name (text_of_name (name_of_type s u)) (attribute_place a u)) ∷ y ∷ es))) (sym e)
    (at (stands_so enums s state fit (RecordType x) (subst (λ u. TypeHasEntries s u) e h)))
  where
    at : TypeEntryIsDeclared enums state (RecordType x) (text_of_name (name_of_type s (RecordType x))) → GoodText state (group (name (attribute_name (text_of_name (name_of_type s (RecordType x))) (place_of a (attribute_names x))) ∷ y ∷ es))
    at z =
        let n = text_of_name (name_of_type s (RecordType x)) in
        let c = length (attribute_names x) in
        let i = place_of a (attribute_names x) in
        let k : i < 0 + c = let m = ltb-true i c l in omega arith in
        let e = names_listed enums (RecordType x) n in
        let d = (and_parts (declares state n) (list_all (declares state) (placed (attribute_name n) 0 c)) (subst (λ ns. list_all (declares state) ns ≡ true) e z.declared)).1 in
        let w = (and_parts (is_name n) (list_all is_name (placed (attribute_name n) 0 c)) (subst (λ ns. list_all is_name ns ≡ true) e z.names)).1 in
        applied_good enums s state fit (attribute_name n i) y es (placed_passes (declares state) (attribute_name n) 0 c i d (omega arith) k) (placed_passes is_name (attribute_name n) 0 c i w (omega arith) k) g

-- ---- patterns

part_written : (p : PatternPart) → is_pattern_part p ≡ true → is_written (part_expr p) ≡ true
part_written (Character c) h = rw h refl
part_written Wildcard h = refl

parts_written : (ps : List PatternPart) → list_all is_pattern_part ps ≡ true → are_written (expressions (map part_expr ps)) ≡ true
parts_written [] h = refl
parts_written (p ∷ ps) h = let q = and_parts (is_pattern_part p) (list_all is_pattern_part ps) h in and_from (is_written (part_expr p)) _ (part_written p q.0) (parts_written ps q.1)

pattern_written : (ps : List PatternPart) → list_all is_pattern_part ps ≡ true → is_written (pattern_expr ps) ≡ true
pattern_written [] h = refl
pattern_written (p ∷ []) h = part_written p (and_parts (is_pattern_part p) true h).0
pattern_written (p ∷ q ∷ ps) h = parts_written (p ∷ q ∷ ps) h

like_good : (state : State) (e : Expression) (ps : List PatternPart) → list_all is_pattern_part ps ≡ true → GoodText state e → GoodText state (group (name (codes "str.in_re") ∷ e ∷ pattern_expr ps ∷ []))
like_good state e ps h g =
    (rw (patterns_write ps h).1 g.0, and_from (is_written e) _ g.1 (and_from (is_written (pattern_expr ps)) true (pattern_written ps h) refl))

-- ---- applications

function_good : (enums : Enums) (s : Tables) (state : State) → Fit enums s state → (f : PlainFunction) (o : Option (List ℕ)) → name_of_function s f ≡ o → (head : Expression) → named_text o ≡ Some head → (e : Expression) (es : List Expression) → GoodTexts state (e ∷ es) → GoodText state (group (head ∷ e ∷ es))
function_good enums s state fit f None q head h e es g = absurd (none h)
  where
    none : None ≡ Some head → ⊥
    none h = cc
function_good enums s state fit f (Some n) q head h e es g =
    let y = function_stands enums s state fit f n q in
    let i : name n ≡ head = same h in
    subst (λ x. GoodText state (group (x ∷ e ∷ es))) i (applied_good enums s state fit n e es y.declared y.name g)
  where
    same : Some (name n) ≡ Some head → name n ≡ head
    same h = cc

-- a name that stands for an operator of a theory by itself, and begins none of the other forms of applications
record IsOperatorName (n : List ℕ) : Type 0 where
  known : is_in n built_in_names ≡ true
  no_index : bytes_eq n (codes "_") ≡ false
  no_sort : bytes_eq n (codes "as") ≡ false
  no_pattern : bytes_eq n (codes "str.in_re") ≡ false
  no_set : bytes_eq n (codes "set.insert") ≡ false
  named : is_name n ≡ true

operator_good : (state : State) (n : List ℕ) (e : Expression) (es : List Expression) → IsOperatorName n → GoodTexts state (e ∷ es) → GoodText state (group (name n ∷ e ∷ es))
operator_good state n e es o g =
    let a = o.no_index in
    let b = o.no_sort in
    let c = o.no_pattern in
    let i = o.no_set in
    let has : has_name state n ≡ true = or_left (is_in n built_in_names) (is_in n (map (λ p. p.0) (names_of state))) o.known in
    (rw (a, b, c, i) (and_from (has_name state n) _ has g.0), and_from (is_name n) _ o.named g.1)

bits_name : (o : BitsOperator) → IsOperatorName (bits_entry o).name
bits_name = each_bits (λ o. IsOperatorName (bits_entry o).name) (record { known = refl; no_index = refl; no_sort = refl; no_pattern = refl; no_set = refl; named = refl }, (record { known = refl; no_index = refl; no_sort = refl; no_pattern = refl; no_set = refl; named = refl }, (record { known = refl; no_index = refl; no_sort = refl; no_pattern = refl; no_set = refl; named = refl }, (record { known = refl; no_index = refl; no_sort = refl; no_pattern = refl; no_set = refl; named = refl }, (record { known = refl; no_index = refl; no_sort = refl; no_pattern = refl; no_set = refl; named = refl }, (record { known = refl; no_index = refl; no_sort = refl; no_pattern = refl; no_set = refl; named = refl }, (record { known = refl; no_index = refl; no_sort = refl; no_pattern = refl; no_set = refl; named = refl }, (record { known = refl; no_index = refl; no_sort = refl; no_pattern = refl; no_set = refl; named = refl }, (record { known = refl; no_index = refl; no_sort = refl; no_pattern = refl; no_set = refl; named = refl }, (record { known = refl; no_index = refl; no_sort = refl; no_pattern = refl; no_set = refl; named = refl }, tt))))))))))

test_name : (o : TestOperator) → IsOperatorName (test_entry o).name
test_name = each_test (λ o. IsOperatorName (test_entry o).name) (record { known = refl; no_index = refl; no_sort = refl; no_pattern = refl; no_set = refl; named = refl }, (record { known = refl; no_index = refl; no_sort = refl; no_pattern = refl; no_set = refl; named = refl }, (record { known = refl; no_index = refl; no_sort = refl; no_pattern = refl; no_set = refl; named = refl }, (record { known = refl; no_index = refl; no_sort = refl; no_pattern = refl; no_set = refl; named = refl }, tt))))

overflow_name : (o : OverflowOperator) → IsOperatorName (overflow_entry o).name
overflow_name = each_overflow (λ o. IsOperatorName (overflow_entry o).name) (record { known = refl; no_index = refl; no_sort = refl; no_pattern = refl; no_set = refl; named = refl }, (record { known = refl; no_index = refl; no_sort = refl; no_pattern = refl; no_set = refl; named = refl }, (record { known = refl; no_index = refl; no_sort = refl; no_pattern = refl; no_set = refl; named = refl }, tt)))

pub body_good : (enums : Enums) (s : Tables) (op : PlainOp) (ts : PlainTerms) (type : PlainType) (es : List Expression) → application_rendering op ts type ≡ AsApplication → IsEncodableOp enums op ts type → HasArgument ts → AreEncodable enums ts
    → TextsAre (encode_head enums op ts s).tables ts es → TypeHasEntries (encode_head enums op ts s).tables type
    → (state : State) → Fit enums (encode_head enums op ts s).tables state → GoodText state (application_body (encode_head enums op ts s).made op es)
body_good enums s op no_terms type es m f i a h k state fit = absurd i
body_good enums s op (one_term t ts) type [] m f i a h k state fit = absurd h
body_good enums s BvnegoOp (one_term t ts) type (e ∷ es) m f i a h k state fit = absurd (subst IsLeast m f)
body_good enums s (ExtOp x) (one_term t ts) type (e ∷ es) m (inl p) i a h k state fit =
    extension_op_good enums s state fit x (subst (λ u. TypeHasEntries s u) p (first_has_sort enums s state fit (one_term t ts) a (e ∷ es) h)) (one_term t ts) e es (texts_good enums s state fit (one_term t ts) a (e ∷ es) h)
body_good enums s (ExtOp x) (one_term t ts) type (e ∷ es) m (inr p) i a h k state fit =
    extension_op_good enums s state fit x (subst (λ u. TypeHasEntries s u) p k) (one_term t ts) e es (texts_good enums s state fit (one_term t ts) a (e ∷ es) h)
body_good enums s OptionGetOp (one_term t ts) type (e ∷ es) m f i a h k state fit = applied_good enums s state fit (codes "val") e es (option_good enums s state fit (codes "val") refl) refl (texts_good enums s state fit (one_term t ts) a (e ∷ es) h)
body_good enums s (RecordGetOp b) (one_term t ts) type (e ∷ es) m f i a h k state fit =
    record_get_good enums s state fit b f.0 (first_type (one_term t ts)) f.1 (first_has_sort enums s state fit (one_term t ts) a (e ∷ es) h) f.2 e es (texts_good enums s state fit (one_term t ts) a (e ∷ es) h)
body_good enums s (StringLikeOp p) (one_term t no_terms) type (e ∷ []) m f i a h k state fit = like_good state e p f.1 (text_good enums s state fit t a.0 e h.0).0
body_good enums s (StringLikeOp p) (one_term t no_terms) type (e ∷ d ∷ es) m f i a h k state fit = absurd h.1
body_good enums s (StringLikeOp p) (one_term t (one_term u ts)) type (e ∷ es) m f i a h k state fit = absurd f.0
body_good enums s (UufOp g) (one_term t ts) type (e ∷ es) m f i a h k state fit =
    let u : Tables = (encode_function enums g s).tables in
    function_good enums u state fit g (name_of_function u g) refl (encode_function enums g s).made (functions_are_made enums g s) e es (texts_good enums u state fit (one_term t ts) a (e ∷ es) h)
body_good enums s (BitsOp o) (one_term t ts) type (e ∷ es) m f i a h k state fit = operator_good state (bits_entry o).name e es (bits_name o) (texts_good enums s state fit (one_term t ts) a (e ∷ es) h)
body_good enums s (TestOp o) (one_term t ts) type (e ∷ es) m f i a h k state fit = operator_good state (test_entry o).name e es (test_name o) (texts_good enums s state fit (one_term t ts) a (e ∷ es) h)
body_good enums s (OverflowOp o) (one_term t ts) type (e ∷ es) m f i a h k state fit = operator_good state (overflow_entry o).name e es (overflow_name o) (texts_good enums s state fit (one_term t ts) a (e ∷ es) h)
body_good enums s op (one_term t ts) type (e ∷ es) m f i a h k state fit = texts_good enums s state fit (one_term t ts) a (e ∷ es) h

pub least_good : (state : State) (width : ℕ) (es : List Expression) → GoodTexts state es → GoodText state (least_body width es)
least_good state width [] g = alone state (bits width (2 ^ (width - 1))) (bits_good state width (2 ^ (width - 1)))
least_good state width (e ∷ es) g = more_good state (e ∷ es) (bits width (2 ^ (width - 1)) ∷ []) g (alone state (bits width (2 ^ (width - 1))) (bits_good state width (2 ^ (width - 1))))

-- ---- the other bodies

pub none_good : (enums : Enums) (s : Tables) (state : State) → Fit enums s state → (sort : Expression) → GoodSort state sort → GoodText state (none_body sort)
none_good enums s state fit sort g =
    let d : has_name state (codes "none") ≡ true = option_good enums s state fit (codes "none") refl in
    (and_from (has_name state (codes "none")) (is_sort (has_sort state) sort) d g.0, and_from (is_written sort) true g.1 refl)

pub some_good : (enums : Enums) (s : Tables) (state : State) → Fit enums s state → (e : Expression) → GoodText state e → GoodText state (some_body e)
some_good enums s state fit e g = applied_good enums s state fit (codes "some") e [] (option_good enums s state fit (codes "some") refl) refl (alone state e g)

empty_good : (state : State) (sort : Expression) → GoodSort state sort → GoodText state (empty_set sort)
empty_good state sort g = (g.0, and_from (is_written sort) true g.1 refl)

pub set_good : (state : State) (sort : Expression) (es : List Expression) → GoodSort state sort → GoodTexts state es → GoodText state (set_body sort es)
set_good state sort [] g h = empty_good state sort g
set_good state sort (e ∷ []) g h = more_good state (e ∷ []) (empty_set sort ∷ []) h (alone state (empty_set sort) (empty_good state sort g))
set_good state sort (e ∷ f ∷ es) g h = more_good state (e ∷ f ∷ es) (empty_set sort ∷ []) h (alone state (empty_set sort) (empty_good state sort g))

pub record_good : (enums : Enums) (s : Tables) (state : State) → Fit enums s state → (x : AttributeTypes) → TypeHasEntries s (RecordType x) → (es : List Expression) → GoodTexts state es → GoodText state (record_body (type_sort s (RecordType x)) es)
record_good enums s state fit x h es g = go es g (stands_so enums s state fit (RecordType x) h)
  where
    go : (es : List Expression) → GoodTexts state es → TypeEntryIsDeclared enums state (RecordType x) (text_of_name (name_of_type s (RecordType x))) → GoodText state (record_body (name (text_of_name (name_of_type s (RecordType x)))) es)
    go [] g y =
        let n = text_of_name (name_of_type s (RecordType x)) in
        (or_right (is_in n built_in_names) (declares state n) (and_parts (declares state n) _ y.declared).0, y.name)
    go (e ∷ es) g y =
        let n = text_of_name (name_of_type s (RecordType x)) in
        applied_good enums s state fit n e es (and_parts (declares state n) _ y.declared).0 y.name g

-- ---- extension literals

prefix_4_good : (enums : Enums) (s : Tables) (state : State) → Fit enums s state → (p : Option ℕ) → GoodText state (prefix_body 5 p)
prefix_4_good enums s state fit (Some p) = some_good enums s state fit (bits 5 p) (bits_good state 5 p)
prefix_4_good enums s state fit None = none_good enums s state fit (option_sort (bit_sort 5)) (sort_good enums s state fit (OptionType (BitVecType 5)) refl tt)

prefix_6_good : (enums : Enums) (s : Tables) (state : State) → Fit enums s state → (p : Option ℕ) → GoodText state (prefix_body 7 p)
prefix_6_good enums s state fit (Some p) = some_good enums s state fit (bits 7 p) (bits_good state 7 p)
prefix_6_good enums s state fit None = none_good enums s state fit (option_sort (bit_sort 7)) (sort_good enums s state fit (OptionType (BitVecType 7)) refl tt)

pub extension_good : (enums : Enums) (s : Tables) (state : State) → Fit enums s state → (x : PlainExtension) → TypeHasEntries s (ExtensionType (kind_of x)) → GoodText state (extension_body x)
extension_good enums s state fit (DecimalOf x) h = applied_good enums s state fit (codes "Decimal") (bits 64 (bits_of 64 x)) [] (kind_declares enums s state fit DecimalKind h (codes "Decimal") refl) refl (alone state (bits 64 (bits_of 64 x)) (bits_good state 64 (bits_of 64 x)))
extension_good enums s state fit (DatetimeOf x) h = applied_good enums s state fit (codes "Datetime") (bits 64 (bits_of 64 x)) [] (kind_declares enums s state fit DatetimeKind h (codes "Datetime") refl) refl (alone state (bits 64 (bits_of 64 x)) (bits_good state 64 (bits_of 64 x)))
extension_good enums s state fit (DurationOf x) h = applied_good enums s state fit (codes "Duration") (bits 64 (bits_of 64 x)) [] (kind_declares enums s state fit DurationKind h (codes "Duration") refl) refl (alone state (bits 64 (bits_of 64 x)) (bits_good state 64 (bits_of 64 x)))
extension_good enums s state fit (Ipv4Of a p) h = applied_good enums s state fit (codes "V4") (bits 32 a) (prefix_body 5 p ∷ []) (kind_declares enums s state fit IpAddrKind h (codes "V4") refl) refl (pair state (bits 32 a) (prefix_body 5 p) (bits_good state 32 a) (prefix_4_good enums s state fit p))
extension_good enums s state fit (Ipv6Of a p) h = applied_good enums s state fit (codes "V6") (bits 128 a) (prefix_body 7 p ∷ []) (kind_declares enums s state fit IpAddrKind h (codes "V6") refl) refl (pair state (bits 128 a) (prefix_body 7 p) (bits_good state 128 a) (prefix_6_good enums s state fit p))
