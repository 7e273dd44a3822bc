-- What one more declaration leaves.
use Rattle.std.proofs.Common.{◌≡◌, ℕ, ◌≤◌, Bool, true, false, not, ◌&&◌, ◌||◌, cond, List, [], ◌∷◌, ◌++◌, length, refl, sym, ap, ◌∙◌, subst, inl, inr, Option, Some, None, arith}
use Rattle.std.specs.Prelude.{codes, bytes_eq, nat_lt, is_some, if◌then◌else◌, ◌==◌}
use Rattle.std.specs.List.{list_all}
use Rattle.std.proofs.lemmas.Bool.{and_parts, and_from, or_cases, or_from, cases_Bool, false≢true, lt-ltb, ltb-true, le-ltb}
use Rattle.std.proofs.lemmas.List.{append-nil, length-append}
use Rattle.std.proofs.lemmas.Slice.Eq.{bytes_eq-Decides}
use Rattle.law_terms.specs.Plain.{ExtensionKind, IpAddrKind, DecimalKind, DatetimeKind, DurationKind, PlainType, OptionType, BitVecType, BoolType, EntityType, ExtensionType, StringType, RecordType, SetType, PlainFunction, PlainTerm}
use Rattle.law_terms.specs.TypeValues.{Enums}
use Rattle.law_terms.specs.Types.{type_eq, type_of}
use Rattle.law_terms.specs.TermOrder.{term_eq}
use Rattle.law_terms.specs.Interpretations.{function_eq}
use Rattle.law_texts.specs.Lexicon.{is_digit}
use Rattle.law_scripts.specs.Script.{State, Entry, is_in, reserved_words, is_keyword, is_for_solvers, is_reserved, is_taken, names_of, declared_sorts, has_name, has_sort, built_in_names, with_name}
use Rattle.law_lines.specs.Spelling.{numeral}
use Rattle.law_lines.specs.Line.{Line}
use Rattle.law_lines.specs.EntryNames.{kind_name}
use Rattle.law_lines.specs.Lines.{next_term, next_function, option_line}
use Rattle.law_lines.specs.NameTables.{Tables, name_of_type}
use Rattle.law_lines.specs.Entries.{EachEntry, TypeHasEntries}
use Rattle.law_lines.proofs.Grow.{lookup_append}
use Rattle.law_lines.specs.TableGrowth.{Keeps}
use Rattle.law_lines.proofs.Kept.{BuildsNone, name_builds, name_kept, line_stays, lines_stay}
use Rattle.law_lines.specs.Fit.{IsRooted, Kept, EntryOf, TypeEntry, FunctionEntry, TermEntry, Fit, TypeEntryIsDeclared, FunctionEntryIsDeclared, TermEntryIsDeclared, declares, first, behind_first, drawn_number, is_old, is_old_name_in, is_old_sort_in, of_kinds, kind_names, has_kind, names_of_type, option_names, is_name_of_entry, is_sort_of_entry}
use Rattle.law_lines.proofs.Basic.{leads_alone, digit_first}
use Rattle.law_lines.proofs.Known.{each_append, each_map, one_passes, is_declared_old}
use Rattle.law_scripts.proofs.Results.{or_left, or_right}

-- ---- tests that stay true

and_grows : (a b c d : Bool) → (a ≡ true → c ≡ true) → (b ≡ true → d ≡ true) → (a && b) ≡ true → (c && d) ≡ true
and_grows a b c d f g h = let p = and_parts a b h in and_from c d (f p.0) (g p.1)

or_grows : (a b c d : Bool) → (a ≡ true → c ≡ true) → (b ≡ true → d ≡ true) → (a || b) ≡ true → (c || d) ≡ true
or_grows a b c d f g h = elim (or_cases a b h) [ inl p ↦ or_left c d (f p) | inr p ↦ or_right c d (g p) ]

cond_grows : (b x y z w : Bool) → (x ≡ true → z ≡ true) → (y ≡ true → w ≡ true) → cond b x y ≡ true → cond b z w ≡ true
cond_grows true x y z w f g h = f h
cond_grows false x y z w f g h = g h

lt_grows : (m a b : ℕ) → a ≤ b → nat_lt m a ≡ true → nat_lt m b ≡ true
lt_grows m a b h k = let l = ltb-true m a k in lt-ltb m b (omega arith)

pub all_grow : {X : Type 0} (p q : X → Bool) → ((x : X) → p x ≡ true → q x ≡ true) → (xs : List X) → list_all p xs ≡ true → list_all q xs ≡ true
all_grow p q f [] h = refl
all_grow p q f (x ∷ xs) h = and_grows (p x) (list_all p xs) (q x) (list_all q xs) (f x) (all_grow p q f xs) h

-- ---- tables with more entries

pub record More (s u : Tables) : Type 0 where
  pub terms : length s.terms ≤ length u.terms
  pub functions : length s.functions ≤ length u.functions
  pub types : length s.types ≤ length u.types
  pub names : (t : PlainType) (n : List ℕ) → name_of_type s t ≡ Some n → name_of_type u t ≡ Some n

some_there : {A : Type 0} (o p : Option A) → ((a : A) → o ≡ Some a → p ≡ Some a) → is_some o ≡ true → is_some p ≡ true
some_there (Some a) p f h = ap is_some (f a refl)
some_there None p f h = absurd (false≢true h)

kind_stays : (s u : Tables) → More s u → (k : ExtensionKind) → has_kind s k ≡ true → has_kind u k ≡ true
kind_stays s u m k h = some_there (name_of_type s (ExtensionType k)) (name_of_type u (ExtensionType k)) (m.names (ExtensionType k)) h

kinds_grow : (test k l : ExtensionKind → Bool) → ((x : ExtensionKind) → k x ≡ true → l x ≡ true) → of_kinds test k ≡ true → of_kinds test l ≡ true
kinds_grow test k l f h =
    let one : (x : ExtensionKind) → (test x && k x) ≡ true → (test x && l x) ≡ true = λ x. and_grows (test x) (k x) (test x) (l x) (λ y. y) (f x) in
    or_grows (test IpAddrKind && k IpAddrKind) ((test DecimalKind && k DecimalKind) || ((test DatetimeKind && k DatetimeKind) || (test DurationKind && k DurationKind)))
    (test IpAddrKind && l IpAddrKind) ((test DecimalKind && l DecimalKind) || ((test DatetimeKind && l DatetimeKind) || (test DurationKind && l DurationKind))) (one IpAddrKind)
    (or_grows (test DecimalKind && k DecimalKind) ((test DatetimeKind && k DatetimeKind) || (test DurationKind && k DurationKind))
    (test DecimalKind && l DecimalKind) ((test DatetimeKind && l DatetimeKind) || (test DurationKind && l DurationKind)) (one DecimalKind)
    (or_grows (test DatetimeKind && k DatetimeKind) (test DurationKind && k DurationKind) (test DatetimeKind && l DatetimeKind) (test DurationKind && l DurationKind) (one DatetimeKind) (one DurationKind))) h

old_stays_at : (a b c d e f : ℕ) (k l : ExtensionKind → Bool) → a ≤ d → b ≤ e → c ≤ f → ((x : ExtensionKind) → k x ≡ true → l x ≡ true) → (n : List ℕ) → is_old a b c k n ≡ true → is_old d e f l n ≡ true
old_stays_at a b c d e f k l p q r g n h =
    let test : ExtensionKind → Bool = λ x. is_in n (kind_names x) in
    cond_grows (first n == 116) (nat_lt (drawn_number n) a)
    (if first n == 102 then nat_lt (drawn_number n) b else (if (first n == 69) || (first n == 82) then nat_lt (drawn_number n) c else (is_in n option_names || of_kinds test k)))
    (nat_lt (drawn_number n) d)
    (if first n == 102 then nat_lt (drawn_number n) e else (if (first n == 69) || (first n == 82) then nat_lt (drawn_number n) f else (is_in n option_names || of_kinds test l)))
    (lt_grows (drawn_number n) a d p)
    (cond_grows (first n == 102) (nat_lt (drawn_number n) b) (if (first n == 69) || (first n == 82) then nat_lt (drawn_number n) c else (is_in n option_names || of_kinds test k))
    (nat_lt (drawn_number n) e) (if (first n == 69) || (first n == 82) then nat_lt (drawn_number n) f else (is_in n option_names || of_kinds test l))
    (lt_grows (drawn_number n) b e q)
    (cond_grows ((first n == 69) || (first n == 82)) (nat_lt (drawn_number n) c) (is_in n option_names || of_kinds test k) (nat_lt (drawn_number n) f) (is_in n option_names || of_kinds test l)
    (lt_grows (drawn_number n) c f r)
    (or_grows (is_in n option_names) (of_kinds test k) (is_in n option_names) (of_kinds test l) (λ x. x) (kinds_grow test k l g)))) h

pub old_stays : (s u : Tables) → More s u → (n : List ℕ) → is_old_name_in s n ≡ true → is_old_name_in u n ≡ true
old_stays s u m n h = old_stays_at _ _ _ _ _ _ (has_kind s) (has_kind u) m.terms m.functions m.types (kind_stays s u m) n h

pub old_sort_stays : (s u : Tables) → More s u → (n : List ℕ) → is_old_sort_in s n ≡ true → is_old_sort_in u n ≡ true
old_sort_stays s u m n h =
    let test : ExtensionKind → Bool = λ x. bytes_eq n (kind_name x) in
    cond_grows ((first n == 69) || (first n == 82)) (nat_lt (drawn_number n) (length s.types)) (bytes_eq n (codes "Option") || of_kinds test (has_kind s))
    (nat_lt (drawn_number n) (length u.types)) (bytes_eq n (codes "Option") || of_kinds test (has_kind u))
    (lt_grows (drawn_number n) (length s.types) (length u.types) m.types)
    (or_grows (bytes_eq n (codes "Option")) (of_kinds test (has_kind s)) (bytes_eq n (codes "Option")) (of_kinds test (has_kind u)) (λ x. x) (kinds_grow test (has_kind s) (has_kind u) (kind_stays s u m))) h

abbrev pub TypeNamesStay : Tables → Tables → Type 0
TypeNamesStay s u = (t : PlainType) (n : List ℕ) → name_of_type s t ≡ Some n → name_of_type u t ≡ Some n

pub has_stays : (s u : Tables) → TypeNamesStay s u → (t : PlainType) → TypeHasEntries s t → TypeHasEntries u t
has_stays s u m (OptionType t) h = has_stays s u m t h
has_stays s u m (BitVecType width) h = tt
has_stays s u m BoolType h = tt
has_stays s u m (EntityType type) h = some_there _ _ (m (EntityType type)) h
has_stays s u m (ExtensionType kind) h = some_there _ _ (m (ExtensionType kind)) h
has_stays s u m StringType h = tt
has_stays s u m (RecordType x) h = some_there _ _ (m (RecordType x)) h
has_stays s u m (SetType t) h = has_stays s u m t h

pub sort_stays : (s u : Tables) → More s u → (t : PlainType) → TypeHasEntries s t → TypeHasEntries u t
sort_stays s u m t h = has_stays s u m.names t h

-- ---- states with more

pub record Grows (state after : State) : Type 0 where
  pub ended : after.ended ≡ state.ended
  pub kept : Kept state after
  pub names : (n : List ℕ) → declares state n ≡ true → declares after n ≡ true
  pub sorts : (n : List ℕ) (k : ℕ) → has_sort state n k ≡ true → has_sort after n k ≡ true
  pub rooted : IsRooted state → IsRooted after

type_stays : (enums : Enums) (state after : State) → Grows state after → (t : PlainType) (n : List ℕ) → TypeEntryIsDeclared enums state t n → TypeEntryIsDeclared enums after t n
type_stays enums state after g t n h = record {
  sort = g.sorts n 0 h.sort;
  name = h.name;
  declared = all_grow (declares state) (declares after) g.names (names_of_type enums t n) h.declared;
  names = h.names;
  kind = h.kind;
}

function_stays : (state after : State) → Grows state after → (f : PlainFunction) (n : List ℕ) → FunctionEntryIsDeclared state f n → FunctionEntryIsDeclared after f n
function_stays state after g f n h = record { declared = g.names n h.declared; name = h.name }

term_stays : (s u : Tables) → More s u → (state after : State) → Grows state after → (t : PlainTerm) (n : List ℕ) → TermEntryIsDeclared s state t n → TermEntryIsDeclared u after t n
term_stays s u m state after g t n h = record {
  declared = or_grows (is_in n built_in_names) (declares state n) (is_in n built_in_names) (declares after n) (λ x. x) (g.names n) h.declared;
  name = h.name;
  sort = sort_stays s u m (type_of t) h.sort;
}

-- entries that are behind those of a table
pub record Behind (enums : Enums) (s u : Tables) (after : State) : Type 0 where
  pub new_types : List (PlainType × List ℕ)
  pub types_are : u.types ≡ s.types ++ new_types
  pub types : EachEntry (TypeEntryIsDeclared enums after) new_types
  pub type_entries : EachEntry (TypeEntry enums u after) new_types
  pub new_functions : List (PlainFunction × List ℕ)
  pub functions_are : u.functions ≡ s.functions ++ new_functions
  pub functions : EachEntry (FunctionEntryIsDeclared after) new_functions
  pub function_entries : EachEntry (FunctionEntry u after) new_functions
  pub new_terms : List (PlainTerm × List ℕ)
  pub terms_are : u.terms ≡ s.terms ++ new_terms
  pub terms : EachEntry (TermEntryIsDeclared u after) new_terms
  pub term_entries : EachEntry (TermEntry enums u after) new_terms

longer : {X : Type 0} (xs ys zs : List X) → zs ≡ xs ++ ys → length xs ≤ length zs
longer xs ys zs e = let a = ap length e in let b = length-append xs ys in omega arith

pub more_from : (enums : Enums) (s u : Tables) (after : State) → Behind enums s u after → More s u
more_from enums s u after b = record {
  terms = longer s.terms b.new_terms u.terms b.terms_are;
  functions = longer s.functions b.new_functions u.functions b.functions_are;
  types = longer s.types b.new_types u.types b.types_are;
  names = λ t n h. rw b.types_are (lookup_append (type_eq t) s.types b.new_types n h);
}

pub keeps_from : (enums : Enums) (s u : Tables) (after : State) → Behind enums s u after → Keeps s u
keeps_from enums s u after b = record {
  terms = λ t n h. rw b.terms_are (lookup_append (term_eq t) s.terms b.new_terms n h);
  types = λ t n h. rw b.types_are (lookup_append (type_eq t) s.types b.new_types n h);
  functions = λ t n h. rw b.functions_are (lookup_append (function_eq t) s.functions b.new_functions n h);
}

pub keeps_then : (s u v : Tables) → Keeps s u → Keeps u v → Keeps s v
keeps_then s u v a b = record {
  terms = λ t n h. b.terms t n (a.terms t n h);
  types = λ t n h. b.types t n (a.types t n h);
  functions = λ t n h. b.functions t n (a.functions t n h);
}

entry_stays : (lines_of : Tables → List Line) (Parts : Tables → Type 0) (s u : Tables) (state after : State) → Keeps s u → Kept state after → EntryOf lines_of Parts s state → EntryOf lines_of Parts u after
entry_stays lines_of Parts s u state after k g e = record {
  tables = e.tables;
  keeps = keeps_then e.tables s u e.keeps k;
  parts = e.parts;
  lines = lines_stay state after g (lines_of e.tables) e.lines;
}

-- Where more is declared and entered, tables and state still fit.
pub fit_grows : (enums : Enums) (s u : Tables) (state after : State) → Fit enums s state → Grows state after → Behind enums s u after
    → list_all (λ p. is_old_name_in u p.0) (names_of after) ≡ true → list_all (λ p. is_old_sort_in u p.0) (declared_sorts after) ≡ true
    → list_all (λ p. is_name_of_entry enums u p.0) (names_of after) ≡ true → list_all (λ p. is_sort_of_entry u p.0) (declared_sorts after) ≡ true → Fit enums u after
fit_grows enums s u state after fit g b old sorts only_names only_sorts =
    let m = more_from enums s u after b in
    let k = keeps_from enums s u after b in
    record {
      running = g.ended ∙ fit.running;
      option = g.sorts (codes "Option") 1 fit.option;
      builds = all_grow (declares state) (declares after) g.names option_names fit.builds;
      types = rw b.types_are (each_append (TypeEntryIsDeclared enums after) s.types b.new_types (each_map (TypeEntryIsDeclared enums state) (TypeEntryIsDeclared enums after) (type_stays enums state after g) s.types fit.types) b.types);
      functions = rw b.functions_are (each_append (FunctionEntryIsDeclared after) s.functions b.new_functions (each_map (FunctionEntryIsDeclared state) (FunctionEntryIsDeclared after) (function_stays state after g) s.functions fit.functions) b.functions);
      terms = subst (λ es. EachEntry (TermEntryIsDeclared u after) es) (sym b.terms_are)
          (each_append (TermEntryIsDeclared u after) s.terms b.new_terms (each_map (TermEntryIsDeclared s state) (TermEntryIsDeclared u after) (term_stays s u m state after g) s.terms fit.terms) b.terms);
      type_entries = subst (λ es. EachEntry (TypeEntry enums u after) es) (sym b.types_are) (each_append (TypeEntry enums u after) s.types b.new_types
          (each_map (TypeEntry enums s state) (TypeEntry enums u after) (λ t n e. entry_stays _ _ s u state after k g.kept e) s.types fit.type_entries) b.type_entries);
      function_entries = subst (λ es. EachEntry (FunctionEntry u after) es) (sym b.functions_are) (each_append (FunctionEntry u after) s.functions b.new_functions
          (each_map (FunctionEntry s state) (FunctionEntry u after) (λ t n e. entry_stays _ _ s u state after k g.kept e) s.functions fit.function_entries) b.function_entries);
      term_entries = subst (λ es. EachEntry (TermEntry enums u after) es) (sym b.terms_are) (each_append (TermEntry enums u after) s.terms b.new_terms
          (each_map (TermEntry enums s state) (TermEntry enums u after) (λ t n e. entry_stays _ _ s u state after k g.kept e) s.terms fit.term_entries) b.term_entries);
      option_is_declared = line_stays state after g.kept option_line fit.option_is_declared;
      rooted = g.rooted fit.rooted;
      old = old;
      old_sorts = sorts;
      only_names = only_names;
      only_sorts = only_sorts;
    }

-- ---- one more name

pub with_name_grows : (state : State) (n : List ℕ) (entry : Entry) → BuildsNone entry → is_taken state n ≡ false → Grows state (with_name n entry state)
with_name_grows state n entry none free = record {
  ended = refl;
  kept = name_kept state n entry none free;
  names = λ m h. or_right (bytes_eq m n) (declares state m) h;
  sorts = λ m k h. h;
  rooted = λ r d c qs place fields e. r d c qs place fields (name_builds state n entry none d c qs place fields e);
}

-- a name that is not old, nor built in, nor reserved
pub fresh_from : (enums : Enums) (s : Tables) (state : State) → Fit enums s state → (n : List ℕ) → is_old_name_in s n ≡ false → is_in n built_in_names ≡ false → is_reserved n ≡ false → is_taken state n ≡ false
fresh_from enums s state fit n old built reserved =
    or_from (has_name state n) (is_reserved n) (or_from (is_in n built_in_names) (declares state n) built (elim (cases_Bool (declares state n)) [
      | inl h ↦ absurd (false≢true (sym old ∙ is_declared_old enums s state fit n h))
      | inr h ↦ h
    ])) reserved

-- the byte behind the first is no digit
abbrev pub plain : List ℕ → Bool
plain n = not (is_digit (first (behind_first n)))

pub apart : (n : List ℕ) (ns : List (List ℕ)) → list_all plain ns ≡ true → is_digit (first (behind_first n)) ≡ true → is_in n ns ≡ false
apart n ns h d = elim (cases_Bool (is_in n ns)) [
  | inl k ↦ absurd (false≢true (ap not (sym d) ∙ one_passes plain n ns h k))
  | inr k ↦ k
]

-- a name with a digit behind its first byte is no reserved word, and one that begins with a letter is none of the others
pub unreserved : (n : List ℕ) → is_digit (first (behind_first n)) ≡ true → (is_keyword n || is_for_solvers n) ≡ false → is_reserved n ≡ false
unreserved n d c = or_from (is_in n reserved_words) (is_keyword n || is_for_solvers n) (apart n reserved_words refl d) c

pub fresh_drawn : (enums : Enums) (s : Tables) (state : State) → Fit enums s state → (n : List ℕ) → is_old_name_in s n ≡ false → is_digit (first (behind_first n)) ≡ true → (is_keyword n || is_for_solvers n) ≡ false → is_taken state n ≡ false
fresh_drawn enums s state fit n old d c = fresh_from enums s state fit n old (apart n built_in_names refl d) (unreserved n d c)

below : (n : ℕ) → nat_lt n n ≡ false
below n = le-ltb n n (omega arith)

pub fresh_term : (enums : Enums) (s : Tables) (state : State) → Fit enums s state → is_taken state (next_term s) ≡ false
fresh_term enums s state fit =
    fresh_drawn enums s state fit (next_term s) (ap (λ k. nat_lt k (length s.terms)) (leads_alone (length s.terms)) ∙ below (length s.terms))
    (ap (λ ds. is_digit (first ds)) (sym (append-nil (numeral (length s.terms)))) ∙ digit_first (length s.terms) []) refl

pub fresh_function : (enums : Enums) (s : Tables) (state : State) → Fit enums s state → is_taken state (next_function s) ≡ false
fresh_function enums s state fit =
    fresh_drawn enums s state fit (next_function s) (ap (λ k. nat_lt k (length s.functions)) (leads_alone (length s.functions)) ∙ below (length s.functions))
    (ap (λ ds. is_digit (first ds)) (sym (append-nil (numeral (length s.functions)))) ∙ digit_first (length s.functions) []) refl

pub in_longer : {X : Type 0} (xs : List X) (x : X) (k : ℕ) → k ≡ length xs → nat_lt k (length (xs ++ x ∷ [])) ≡ true
in_longer xs x k e = let a = length-append xs (x ∷ []) in let b : length (x ∷ []) ≡ 1 = refl in lt-ltb k (length (xs ++ x ∷ [])) (omega arith)

self_there : (n : List ℕ) (rest : Bool) → (bytes_eq n n || rest) ≡ true
self_there n rest = or_left (bytes_eq n n) rest ((bytes_eq-Decides n n).1 refl)
