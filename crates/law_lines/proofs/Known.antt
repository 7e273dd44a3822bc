-- Where tables and a state fit, sorts of types and texts of terms are known.
use Rattle.std.proofs.Common.{◌≡◌, ℕ, Bool, true, false, ◌&&◌, cond, List, [], ◌∷◌, ◌++◌, map, refl, sym, ap, ◌∙◌, subst, inl, inr, Option, Some, None}
use Rattle.std.specs.Prelude.{codes, bytes_eq, IsSome, ◌==◌}
use Rattle.std.specs.List.{list_all, list_any}
use Rattle.std.specs.Map.{lookup}
use Rattle.std.proofs.lemmas.Bool.{and_parts, and_from, or_cases, cases_Bool, false≢true}
use Rattle.std.proofs.lemmas.Slice.Eq.{bytes_eq-Decides}
use Rattle.law_terms.specs.Plain.{PlainType, OptionType, BitVecType, BoolType, EntityType, ExtensionType, StringType, RecordType, SetType, PlainFunction, BitVecLiteral, BoolLiteral, EntityLiteral, ExtensionLiteral, StringLiteral, PlainTerm, Application, NoneTerm, LiteralTerm, RecordTerm, SetTerm, SomeTerm, VariableTerm, PlainTerms, no_terms, one_term}
use Rattle.law_terms.specs.TypeValues.{Enums}
use Rattle.law_terms.specs.Types.{type_eq, type_of}
use Rattle.law_terms.specs.TermOrder.{term_eq}
use Rattle.law_terms.specs.Interpretations.{function_eq}
use Rattle.law_terms.proofs.TermTotal.{types_decided, functions_decided, terms_decided}
use Rattle.law_texts.specs.Reading.{Expression, expressions}
use Rattle.law_scripts.specs.Script.{State, Entry, name, group, is_in, names_of, declared_sorts, has_name, has_sort, built_in_names, built_in_sorts, is_sort, knows, are_all, each_stated}
use Rattle.law_numbers.specs.Widths.{is_width}
use Rattle.law_scripts.specs.Written.{is_name}
use Rattle.law_lines.specs.Spelling.{numeral}
use Rattle.law_lines.specs.Lines.{bits}
use Rattle.law_lines.specs.NameTables.{Tables, name_of_term, name_of_type, name_of_function, text_of_name}
use Rattle.law_lines.specs.Naming.{type_sort}
use Rattle.law_lines.specs.Entries.{EachEntry, TypeHasEntries}
use Rattle.law_lines.specs.TermTexts.{text_of, named_text}
use Rattle.law_lines.specs.Command.{is_written, are_written}
use Rattle.law_lines.specs.Encodable.{IsEncodableType, IsEncodable, AreEncodable}
use Rattle.law_lines.specs.Fit.{Fit, TypeEntryIsDeclared, FunctionEntryIsDeclared, TermEntryIsDeclared, declares, is_old_name_in}
use Rattle.law_scripts.proofs.Results.{or_left, or_right}
use Rattle.law_scripts.proofs.Numbers.{numeral_digits, bv_name}

some_same : {A : Type 0} {a b : A} → Some a ≡ Some b → a ≡ b
some_same h = cc

none_is : {A : Type 0} {a : A} → None ≡ Some a → ⊥
none_is h = cc

-- ---- entries

pub each_found : {K : Type 0} (P : K → List ℕ → Type 0) (test : K → Bool) (k : K) → ((l : K) → test l ≡ true → k ≡ l) → (es : List (K × List ℕ)) (n : List ℕ) → lookup test es ≡ Some n → EachEntry P es → P k n
each_found P test k same [] n h a = absurd (none_is h)
each_found P test k same (e ∷ es) n h a = go (test e.0) refl (λ r. each_found P test k same es n r a.1) h
  where
    go : (b : Bool) → test e.0 ≡ b → (lookup test es ≡ Some n → P k n) → cond b (Some e.1) (lookup test es) ≡ Some n → P k n
    go true q again r = subst (λ m. P k m) (some_same r) (subst (λ l. P l e.1) (sym (same e.0 q)) a.0)
    go false q again r = again r

pub each_append : {K : Type 0} (P : K → List ℕ → Type 0) (xs ys : List (K × List ℕ)) → EachEntry P xs → EachEntry P ys → EachEntry P (xs ++ ys)
each_append P [] ys a b = b
each_append P (x ∷ xs) ys a b = (a.0, each_append P xs ys a.1 b)

pub each_map : {K : Type 0} (P Q : K → List ℕ → Type 0) → ((k : K) (n : List ℕ) → P k n → Q k n) → (xs : List (K × List ℕ)) → EachEntry P xs → EachEntry Q xs
each_map P Q f [] a = tt
each_map P Q f (x ∷ xs) a = (f x.0 x.1 a.0, each_map P Q f xs a.1)

pub type_stands : (enums : Enums) (s : Tables) (state : State) → Fit enums s state → (t : PlainType) (n : List ℕ) → name_of_type s t ≡ Some n → TypeEntryIsDeclared enums state t n
type_stands enums s state fit t n h = each_found (TypeEntryIsDeclared enums state) (type_eq t) t (λ l q. (types_decided t l).0 q) s.types n h fit.types

pub function_stands : (enums : Enums) (s : Tables) (state : State) → Fit enums s state → (f : PlainFunction) (n : List ℕ) → name_of_function s f ≡ Some n → FunctionEntryIsDeclared state f n
function_stands enums s state fit f n h = each_found (FunctionEntryIsDeclared state) (function_eq f) f (λ l q. (functions_decided f l).0 q) s.functions n h fit.functions

pub term_stands : (enums : Enums) (s : Tables) (state : State) → Fit enums s state → (t : PlainTerm) (n : List ℕ) → name_of_term s t ≡ Some n → TermEntryIsDeclared s state t n
term_stands enums s state fit t n h = each_found (TermEntryIsDeclared s state) (term_eq t) t (λ l q. (terms_decided t l).0 q) s.terms n h fit.terms

-- ---- sorts

any_behind : {X : Type 0} (p : X → Bool) (xs ys : List X) → list_any p ys ≡ true → list_any p (xs ++ ys) ≡ true
any_behind p [] ys h = h
any_behind p (x ∷ xs) ys h = or_right (p x) (list_any p (xs ++ ys)) (any_behind p xs ys h)

built_in_sort : (state : State) (n : List ℕ) (k : ℕ) → list_any (λ p. bytes_eq n p.0 && (p.1 == k)) built_in_sorts ≡ true → has_sort state n k ≡ true
built_in_sort state n k h = any_behind _ (declared_sorts state) built_in_sorts h

abbrev pub GoodSort : State → Expression → Type 0
GoodSort state e = (is_sort (has_sort state) e ≡ true) × (is_written e ≡ true)

named_sort : (t : PlainType) (enums : Enums) (s : Tables) (state : State) → Fit enums s state → (o : Option (List ℕ)) → name_of_type s t ≡ o → IsSome o → GoodSort state (name (text_of_name o))
named_sort t enums s state fit None e h = absurd (false≢true h)
named_sort t enums s state fit (Some n) e h = let p = type_stands enums s state fit t n e in (p.sort, p.name)

pub sort_good : (enums : Enums) (s : Tables) (state : State) → Fit enums s state → (t : PlainType) → IsEncodableType enums t → TypeHasEntries s t → GoodSort state (type_sort s t)
sort_good enums s state fit (OptionType t) f h =
    let g = sort_good enums s state fit t f h in (
      and_from (has_sort state (codes "Option") 1) (is_sort (has_sort state) (type_sort s t) && true) fit.option (and_from (is_sort (has_sort state) (type_sort s t)) true g.0 refl),
      and_from (is_written (type_sort s t)) true g.1 refl,
    )
sort_good enums s state fit (SetType t) f h =
    let g = sort_good enums s state fit t f h in (
      and_from (has_sort state (codes "Set") 1) (is_sort (has_sort state) (type_sort s t) && true) (built_in_sort state (codes "Set") 1 refl) (and_from (is_sort (has_sort state) (type_sort s t)) true g.0 refl),
      and_from (is_written (type_sort s t)) true g.1 refl,
    )
sort_good enums s state fit (BitVecType width) f h = (or_left (is_width width) _ f, refl)
sort_good enums s state fit BoolType f h = (built_in_sort state (codes "Bool") 0 refl, refl)
sort_good enums s state fit StringType f h = (built_in_sort state (codes "String") 0 refl, refl)
sort_good enums s state fit (EntityType type) f h = named_sort (EntityType type) enums s state fit (name_of_type s (EntityType type)) refl h
sort_good enums s state fit (ExtensionType kind) f h = named_sort (ExtensionType kind) enums s state fit (name_of_type s (ExtensionType kind)) refl h
sort_good enums s state fit (RecordType x) f h = named_sort (RecordType x) enums s state fit (name_of_type s (RecordType x)) refl h

-- ---- texts

abbrev pub GoodText : State → Expression → Type 0
GoodText state e = (knows state e ≡ true) × (is_written e ≡ true)

pub bits_good : (state : State) (width number : ℕ) → GoodText state (bits width number)
bits_good state width number = (rw (numeral_digits number) refl, and_from (is_name (codes "bv" ++ numeral number)) true (bv_name number) refl)

named_text_good : (t : PlainTerm) (enums : Enums) (s : Tables) (state : State) → Fit enums s state → (o : Option (List ℕ)) → name_of_term s t ≡ o → (e : Expression) → named_text o ≡ Some e → GoodText state e × TypeHasEntries s (type_of t)
named_text_good t enums s state fit None q e h = absurd (none_is h)
named_text_good t enums s state fit (Some n) q e h =
    let p = term_stands enums s state fit t n q in
    (subst (λ f. GoodText state f) (some_same h) (p.declared, p.name), p.sort)

pub text_good : (enums : Enums) (s : Tables) (state : State) → Fit enums s state → (t : PlainTerm) → IsEncodable enums t → (e : Expression) → text_of s t ≡ Some e → GoodText state e × TypeHasEntries s (type_of t)
text_good enums s state fit (LiteralTerm (BitVecLiteral width number)) f e h = (subst (λ x. GoodText state x) (some_same h) (bits_good state width number), tt)
text_good enums s state fit (LiteralTerm (BoolLiteral true)) f e h = (subst (λ x. GoodText state x) (some_same h) (refl, refl), tt)
text_good enums s state fit (LiteralTerm (BoolLiteral false)) f e h = (subst (λ x. GoodText state x) (some_same h) (refl, refl), tt)
text_good enums s state fit (LiteralTerm (StringLiteral text)) f e h = (subst (λ x. GoodText state x) (some_same h) (refl, f), tt)
text_good enums s state fit (LiteralTerm (EntityLiteral type id)) f e h = named_text_good (LiteralTerm (EntityLiteral type id)) enums s state fit (name_of_term s (LiteralTerm (EntityLiteral type id))) refl e h
text_good enums s state fit (LiteralTerm (ExtensionLiteral x)) f e h = named_text_good (LiteralTerm (ExtensionLiteral x)) enums s state fit (name_of_term s (LiteralTerm (ExtensionLiteral x))) refl e h
text_good enums s state fit (Application op ts type) f e h = named_text_good (Application op ts type) enums s state fit (name_of_term s (Application op ts type)) refl e h
text_good enums s state fit (NoneTerm type) f e h = named_text_good (NoneTerm type) enums s state fit (name_of_term s (NoneTerm type)) refl e h
text_good enums s state fit (RecordTerm fields) f e h = named_text_good (RecordTerm fields) enums s state fit (name_of_term s (RecordTerm fields)) refl e h
text_good enums s state fit (SetTerm element ts) f e h = named_text_good (SetTerm element ts) enums s state fit (name_of_term s (SetTerm element ts)) refl e h
text_good enums s state fit (SomeTerm t) f e h = named_text_good (SomeTerm t) enums s state fit (name_of_term s (SomeTerm t)) refl e h
text_good enums s state fit (VariableTerm id type) f e h = named_text_good (VariableTerm id type) enums s state fit (name_of_term s (VariableTerm id type)) refl e h

-- ---- texts of arguments

abbrev pub TextsAre : Tables → PlainTerms → List Expression → Type 0
TextsAre s no_terms [] = Unit {0}
TextsAre s no_terms (e ∷ es) = ⊥
TextsAre s (one_term t ts) [] = ⊥
TextsAre s (one_term t ts) (e ∷ es) = (text_of s t ≡ Some e) × TextsAre s ts es

abbrev pub GoodTexts : State → List Expression → Type 0
GoodTexts state es = (are_all (each_stated (has_sort state) (has_name state) (expressions es)) ≡ true) × (are_written (expressions es) ≡ true)

pub texts_good : (enums : Enums) (s : Tables) (state : State) → Fit enums s state → (ts : PlainTerms) → AreEncodable enums ts → (es : List Expression) → TextsAre s ts es → GoodTexts state es
texts_good enums s state fit no_terms f [] h = (refl, refl)
texts_good enums s state fit no_terms f (e ∷ es) h = absurd h
texts_good enums s state fit (one_term t ts) f [] h = absurd h
texts_good enums s state fit (one_term t ts) f (e ∷ es) h =
    let p = (text_good enums s state fit t f.0 e h.0).0 in
    let q = texts_good enums s state fit ts f.1 es h.1 in
    (and_from (knows state e) _ p.0 q.0, and_from (is_written e) _ p.1 q.1)

pub more_good : (state : State) (es fs : List Expression) → GoodTexts state es → GoodTexts state fs → GoodTexts state (es ++ fs)
more_good state [] fs g h = h
more_good state (e ∷ es) fs g h =
    let p = and_parts (knows state e) _ g.0 in
    let q = and_parts (is_written e) _ g.1 in
    let r = more_good state es fs (p.1, q.1) h in
    (and_from (knows state e) _ p.0 r.0, and_from (is_written e) _ q.0 r.1)

-- ---- heads that are declared

pub one_passes : (p : List ℕ → Bool) (n : List ℕ) (ns : List (List ℕ)) → list_all p ns ≡ true → is_in n ns ≡ true → p n ≡ true
one_passes p n [] h k = absurd (false≢true k)
one_passes p n (m ∷ ms) h k =
    let q = and_parts (p m) (list_all p ms) h in
    elim (or_cases (bytes_eq n m) (is_in n ms) k) [
      | inl e ↦ subst (λ x. p x ≡ true) (sym ((bytes_eq-Decides n m).0 e)) q.0
      | inr e ↦ one_passes p n ms q.1 e
    ]

pub all_mapped : (p : List ℕ → Bool) (xs : List (List ℕ × Entry)) → list_all (λ x. p x.0) xs ≡ true → list_all p (map (λ x. x.0) xs) ≡ true
all_mapped p [] h = refl
all_mapped p (x ∷ xs) h = let q = and_parts (p x.0) (list_all (λ y. p y.0) xs) h in and_from (p x.0) _ q.0 (all_mapped p xs q.1)

pub is_declared_old : (enums : Enums) (s : Tables) (state : State) → Fit enums s state → (n : List ℕ) → declares state n ≡ true → is_old_name_in s n ≡ true
is_declared_old enums s state fit n h = one_passes (is_old_name_in s) n (map (λ x. x.0) (names_of state)) (all_mapped (is_old_name_in s) (names_of state) fit.old) h

-- what is not old is not declared
pub is_other : (enums : Enums) (s : Tables) (state : State) → Fit enums s state → (n m : List ℕ) → declares state n ≡ true → is_old_name_in s m ≡ false → bytes_eq n m ≡ false
is_other enums s state fit n m h k = elim (cases_Bool (bytes_eq n m)) [
  | inl e ↦ absurd (false≢true (sym k ∙ ap (is_old_name_in s) (sym ((bytes_eq-Decides n m).0 e)) ∙ is_declared_old enums s state fit n h))
  | inr e ↦ e
]

pub applied_good : (enums : Enums) (s : Tables) (state : State) → Fit enums s state → (f : List ℕ) (e : Expression) (es : List Expression) → declares state f ≡ true → is_name f ≡ true → GoodTexts state (e ∷ es) → GoodText state (group (name f ∷ e ∷ es))
applied_good enums s state fit f e es d n g =
    let a = is_other enums s state fit f (codes "_") d refl in
    let b = is_other enums s state fit f (codes "as") d refl in
    let c = is_other enums s state fit f (codes "str.in_re") d refl in
    let i = is_other enums s state fit f (codes "set.insert") d refl in
    let has : has_name state f ≡ true = or_right (is_in f built_in_names) (declares state f) d in
    (rw (a, b, c, i) (and_from (has_name state f) _ has g.0), and_from (is_name f) _ n g.1)
