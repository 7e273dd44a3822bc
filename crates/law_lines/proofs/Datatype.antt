-- What a datatype's declaration leaves.
use Rattle.std.proofs.Common.{◌≡◌, ℕ, suc, Bool, true, false, not, ◌&&◌, ◌||◌, List, [], ◌∷◌, ◌++◌, map, refl, sym, ap, ◌∙◌, subst, inl, inr, arith}
use Rattle.std.specs.Prelude.{codes, bytes_eq, ◌==◌}
use Rattle.std.specs.List.{list_all}
use Rattle.std.proofs.lemmas.Bool.{and_parts, and_from, or_from, cases_Bool, false≢true, not-true}
use Rattle.std.proofs.lemmas.List.{append-nil, length-append}
use Rattle.std.proofs.lemmas.List.Folds.{list_all-append, list_any-append}
use Rattle.std.proofs.lemmas.Slice.Eq.{bytes_eq-Decides}
use Rattle.law_terms.specs.Plain.{PlainType}
use Rattle.law_terms.specs.TypeValues.{Enums}
use Rattle.law_terms.specs.Types.{type_eq}
use Rattle.law_texts.specs.Reading.{Expression}
use Rattle.law_scripts.specs.Script as script
use Rattle.law_scripts.specs.Script.{Constructor, Entry, Builds, Selects, State, are_distinct, has_constructor, is_in, is_reserved, is_taken, is_taken_sort, names_of, names_below, declared_sorts, has_sort, is_sort, built_in_names, built_in_sorts}
use Rattle.law_scripts.specs.Meanings.{names_in, selectors_named, constructors_named, are_new, are_fields}
use Rattle.law_scripts.specs.DeclarationLines.{with_datatype}
use Rattle.law_scripts.specs.Written.{is_name}
use Rattle.law_scripts.proofs.Grown.{constructors_append, datatypes_declare}
use Rattle.law_lines.proofs.Kept.{datatype_kept, datatype_only, datatype_rooted}
use Rattle.law_scripts.proofs.Keeps.{sort_still_known}
use Rattle.law_scripts.proofs.Datatypes.{datatypes_leave}
use Rattle.law_lines.specs.Line as line
use Rattle.law_lines.specs.Line.{Line, Comment, DeclareDatatype}
use Rattle.law_lines.specs.Entries.{TypePartsHaveEntries, type_lines}
use Rattle.law_lines.specs.NameTables.{Tables}
use Rattle.law_lines.proofs.Grow.{lookup_append}
use Rattle.law_lines.specs.Command.{all_built, is_written_constructor}
use Rattle.law_lines.specs.Fit.{IsKindNamed, EachLine, LineIsDeclared, Fit, AreObeyable, declares, declares_sort, names_of_type, is_old_name_in, is_old_sort_in, is_name_of_entry, is_sort_of_entry}
use Rattle.law_lines.proofs.Known.{one_passes}
use Rattle.law_lines.proofs.OnlyEntries.{as_is, name_stays, sort_stays_so, names_are_entrys, sort_is_entrys}
use Rattle.law_lines.proofs.Enter.{More, fit_grows, all_grow, old_stays, old_sort_stays, fresh_from}
use Rattle.law_lines.proofs.Single.{step_runs}
use Rattle.law_scripts.proofs.Results.{or_left, or_right}

abbrev names_in_entries : List (List ℕ × Entry) → List (List ℕ)
names_in_entries ds = map (λ p. p.0) ds

-- ---- the names that are there then

sel_keeps : (n d : List ℕ) (ps : List (List ℕ)) (c : List ℕ) (place : ℕ) (xs : List (List ℕ × Expression)) (ds : List (List ℕ × Entry)) → is_in n (names_in_entries ds) ≡ true → is_in n (names_in_entries (selectors_named d ps c place xs ds)) ≡ true
sel_keeps n d ps c place [] ds h = h
sel_keeps n d ps c place (x ∷ xs) ds h = sel_keeps n d ps c (suc place) xs ((x.0, Selects d ps c place x.1) ∷ ds) (or_right (bytes_eq n x.0) (is_in n (names_in_entries ds)) h)

con_keeps : (n d : List ℕ) (ps : List (List ℕ)) (place : ℕ) (cs : List Constructor) (ds : List (List ℕ × Entry)) → is_in n (names_in_entries ds) ≡ true → is_in n (names_in_entries (constructors_named d ps place cs ds)) ≡ true
con_keeps n d ps place [] ds h = h
con_keeps n d ps place (c ∷ cs) ds h =
    con_keeps n d ps (suc place) cs _ (sel_keeps n d ps c.name 0 c.selectors ((c.name, Builds d ps place (map (λ x. x.1) c.selectors)) ∷ ds) (or_right (bytes_eq n c.name) (is_in n (names_in_entries ds)) h))

sel_all : (p : List ℕ → Bool) (d : List ℕ) (ps : List (List ℕ)) (c : List ℕ) (place : ℕ) (xs : List (List ℕ × Expression)) (ds : List (List ℕ × Entry)) → list_all p (map (λ x. x.0) xs) ≡ true → list_all (λ x. p x.0) ds ≡ true → list_all (λ x. p x.0) (selectors_named d ps c place xs ds) ≡ true
sel_all p d ps c place [] ds h k = k
sel_all p d ps c place (x ∷ xs) ds h k =
    let q = and_parts (p x.0) (list_all p (map (λ y. y.0) xs)) h in
    sel_all p d ps c (suc place) xs ((x.0, Selects d ps c place x.1) ∷ ds) q.1 (and_from (p x.0) (list_all (λ y. p y.0) ds) q.0 k)

con_all : (p : List ℕ → Bool) (d : List ℕ) (ps : List (List ℕ)) (place : ℕ) (cs : List Constructor) (ds : List (List ℕ × Entry)) → list_all p (names_in cs) ≡ true → list_all (λ x. p x.0) ds ≡ true → list_all (λ x. p x.0) (constructors_named d ps place cs ds) ≡ true
con_all p d ps place [] ds h k = k
con_all p d ps place (c ∷ cs) ds h k =
    let q = and_parts (p c.name) (list_all p (map (λ x. x.0) c.selectors ++ names_in cs)) h in
    let r = and_parts (list_all p (map (λ x. x.0) c.selectors)) (list_all p (names_in cs)) (sym (list_all-append p (map (λ x. x.0) c.selectors) (names_in cs)) ∙ q.1) in
    con_all p d ps (suc place) cs _ r.1 (sel_all p d ps c.name 0 c.selectors ((c.name, Builds d ps place (map (λ x. x.1) c.selectors)) ∷ ds) r.0 (and_from (p c.name) (list_all (λ y. p y.0) ds) q.0 k))

sel_each : (final : List (List ℕ × Entry)) (d : List ℕ) (ps : List (List ℕ)) (c : List ℕ) (place : ℕ) (xs : List (List ℕ × Expression)) (ds : List (List ℕ × Entry))
    → ((n : List ℕ) → is_in n (names_in_entries (selectors_named d ps c place xs ds)) ≡ true → is_in n (names_in_entries final) ≡ true)
    → list_all (λ n. is_in n (names_in_entries final)) (map (λ x. x.0) xs) ≡ true
sel_each final d ps c place [] ds f = refl
sel_each final d ps c place (x ∷ xs) ds f =
    let e = Selects d ps c place x.1 in
    and_from (is_in x.0 (names_in_entries final)) _
    (f x.0 (sel_keeps x.0 d ps c (suc place) xs ((x.0, e) ∷ ds) (or_left (bytes_eq x.0 x.0) (is_in x.0 (names_in_entries ds)) ((bytes_eq-Decides x.0 x.0).1 refl))))
    (sel_each final d ps c (suc place) xs ((x.0, e) ∷ ds) f)

con_each : (final : List (List ℕ × Entry)) (d : List ℕ) (ps : List (List ℕ)) (place : ℕ) (cs : List Constructor) (ds : List (List ℕ × Entry))
    → ((n : List ℕ) → is_in n (names_in_entries (constructors_named d ps place cs ds)) ≡ true → is_in n (names_in_entries final) ≡ true)
    → list_all (λ n. is_in n (names_in_entries final)) (names_in cs) ≡ true
con_each final d ps place [] ds f = refl
con_each final d ps place (c ∷ cs) ds f =
    let here = (c.name, Builds d ps place (map (λ x. x.1) c.selectors)) ∷ ds in
    let inner = selectors_named d ps c.name 0 c.selectors here in
    let g : (n : List ℕ) → is_in n (names_in_entries inner) ≡ true → is_in n (names_in_entries final) ≡ true = λ n h. f n (con_keeps n d ps (suc place) cs inner h) in
    and_from (is_in c.name (names_in_entries final)) _
    (g c.name (sel_keeps c.name d ps c.name 0 c.selectors here (or_left (bytes_eq c.name c.name) (is_in c.name (names_in_entries ds)) ((bytes_eq-Decides c.name c.name).1 refl))))
    (list_all-append (λ n. is_in n (names_in_entries final)) (map (λ x. x.0) c.selectors) (names_in cs)
    ∙ and_from (list_all (λ n. is_in n (names_in_entries final)) (map (λ x. x.0) c.selectors)) _
    (sel_each final d ps c.name 0 c.selectors here g) (con_each final d ps (suc place) cs inner f))

-- ---- entering a type

abbrev pub with_type : PlainType → List ℕ → Tables → Tables
with_type t n s = record s { types = s.types ++ (t, n) ∷ [] }

pub more_type : (s : Tables) (t : PlainType) (n : List ℕ) → More s (with_type t n s)
more_type s t n = record {
  terms = omega arith;
  functions = omega arith;
  types = let a = length-append s.types ((t, n) ∷ []) in omega arith;
  names = λ u m h. lookup_append (type_eq u) s.types ((t, n) ∷ []) m h;
}

-- neither built in nor reserved
abbrev pub is_free : List ℕ → Bool
is_free n = not (is_in n built_in_names) && not (is_reserved n)

abbrev pub sort_names : List (List ℕ)
sort_names = codes "BitVec" ∷ map (λ p. p.0) built_in_sorts

-- A name for a type, and names for its constructors and selectors, that nothing has yet.
pub record IsNew (enums : Enums) (s : Tables) (t : PlainType) (d : List ℕ) : Type 0 where
  pub name : is_name d ≡ true
  pub sort_free : is_in d sort_names ≡ false
  pub sort_unreserved : is_reserved d ≡ false
  pub sort_new : is_old_sort_in s d ≡ false
  pub sort_old : is_old_sort_in (with_type t d s) d ≡ true
  pub names : list_all is_name (names_of_type enums t d) ≡ true
  pub free : list_all is_free (names_of_type enums t d) ≡ true
  pub new : list_all (λ n. not (is_old_name_in s n)) (names_of_type enums t d) ≡ true
  pub old : list_all (is_old_name_in (with_type t d s)) (names_of_type enums t d) ≡ true
  pub distinct : are_distinct (names_of_type enums t d) ≡ true
  pub kind : IsKindNamed t d

all_new : (enums : Enums) (s : Tables) (state : State) → Fit enums s state → (ns : List (List ℕ)) → list_all is_free ns ≡ true → list_all (λ n. not (is_old_name_in s n)) ns ≡ true → are_distinct ns ≡ true → are_new state ns ≡ true
all_new enums s state fit [] f n d = refl
all_new enums s state fit (x ∷ xs) f n d =
    let a = and_parts (is_free x) (list_all is_free xs) f in
    let b = and_parts (not (is_old_name_in s x)) (list_all (λ y. not (is_old_name_in s y)) xs) n in
    let c = and_parts (not (is_in x xs)) (are_distinct xs) d in
    let e = and_parts (not (is_in x built_in_names)) (not (is_reserved x)) a.0 in
    and_from (not (is_taken state x)) (not (is_in x xs) && are_new state xs)
    (ap not (fresh_from enums s state fit x (not-true (is_old_name_in s x) b.0) (not-true (is_in x built_in_names) e.0) (not-true (is_reserved x) e.1)))
    (and_from (not (is_in x xs)) (are_new state xs) c.0 (all_new enums s state fit xs a.1 b.1 c.1))

-- sorts that are there are old
mapped_sorts : (p : List ℕ → Bool) (xs : List (List ℕ × ℕ)) → list_all (λ x. p x.0) xs ≡ true → list_all p (map (λ x. x.0) xs) ≡ true
mapped_sorts p [] h = refl
mapped_sorts p (x ∷ xs) h = let q = and_parts (p x.0) (list_all (λ y. p y.0) xs) h in and_from (p x.0) _ q.0 (mapped_sorts p xs q.1)

map_append : (xs ys : List (List ℕ × ℕ)) → map (λ p. p.0) (xs ++ ys) ≡ map (λ p. p.0) xs ++ map (λ p. p.0) ys
map_append [] ys = refl
map_append (x ∷ xs) ys = ap (λ (t : List (List ℕ)). x.0 ∷ t) (map_append xs ys)

pub undeclared : (enums : Enums) (s : Tables) (state : State) → Fit enums s state → (d : List ℕ) → is_old_sort_in s d ≡ false → declares_sort state d ≡ false
undeclared enums s state fit d new = elim (cases_Bool (declares_sort state d)) [
  | inl h ↦ absurd (false≢true (sym new ∙ one_passes (is_old_sort_in s) d (map (λ p. p.0) (declared_sorts state)) (mapped_sorts (is_old_sort_in s) (declared_sorts state) fit.old_sorts) h))
  | inr h ↦ h
]

fresh_sort : (enums : Enums) (s : Tables) (state : State) → Fit enums s state → (d : List ℕ) → is_in d sort_names ≡ false → is_reserved d ≡ false → is_old_sort_in s d ≡ false → is_taken_sort state d ≡ false
fresh_sort enums s state fit d free unreserved new =
    let there : is_in d (map (λ p. p.0) (declared_sorts state)) ≡ false = undeclared enums s state fit d new in
    let parts = or_false (bytes_eq d (codes "BitVec")) (is_in d (map (λ p. p.0) built_in_sorts)) free in
    or_from (is_in d (codes "BitVec" ∷ map (λ p. p.0) (declared_sorts state ++ built_in_sorts))) (is_reserved d)
    (or_from (bytes_eq d (codes "BitVec")) _ parts.0
    (ap (is_in d) (map_append (declared_sorts state) built_in_sorts) ∙ list_any-append (bytes_eq d) (map (λ p. p.0) (declared_sorts state)) (map (λ p. p.0) built_in_sorts)
    ∙ or_from (is_in d (map (λ p. p.0) (declared_sorts state))) _ there parts.1)) unreserved
  where
    or_false : (a b : Bool) → (a || b) ≡ false → (a ≡ false) × (b ≡ false)
    or_false true b h = absurd (false≢true (sym h))
    or_false false b h = (refl, h)

type_fits : (enums : Enums) (s : Tables) (state : State) → Fit enums s state → (t : PlainType) (d : List ℕ) → IsNew enums s t d → (cs : List Constructor) → names_in cs ≡ names_of_type enums t d
    → are_new state (names_in cs) ≡ true → TypePartsHaveEntries s t → EachLine (LineIsDeclared (with_datatype d cs state)) (type_lines enums s t d)
    → Fit enums (with_type t d s) (with_datatype d cs state)
type_fits enums s state fit t d new cs e news parts own =
    let u = with_type t d s in
    let m = more_type s t d in
    let after = with_datatype d cs state in
    let here = constructors_named d [] 0 cs (names_of state) in
    let same : names_of after ≡ here = constructors_append d [] 0 cs state.last.names (names_below state.below) in
    let kept : (n : List ℕ) → declares state n ≡ true → declares after n ≡ true =
    λ n h. ap (λ (t : List (List ℕ × Entry)). is_in n (names_in_entries t)) same ∙ con_keeps n d [] 0 cs (names_of state) h in
    let declared : list_all (declares after) (names_of_type enums t d) ≡ true =
    subst (λ ns. list_all (declares after) ns ≡ true) e
    (con_each (names_of after) d [] 0 cs (names_of state) (λ n h. ap (λ (t : List (List ℕ × Entry)). is_in n (names_in_entries t)) same ∙ h)) in
    fit_grows enums s u state after fit
    (record { ended = refl; kept = datatype_kept state d cs (undeclared enums s state fit d new.sort_new) news; names = kept; sorts = λ n k h. or_right (bytes_eq n d && (0 == k)) (has_sort state n k) h; rooted = datatype_rooted state d cs })
    (record {
      new_types = (t, d) ∷ [];
      types_are = refl;
      types = (
        record {
          sort = or_left (bytes_eq d d && true) (has_sort state d 0) (and_from (bytes_eq d d) true ((bytes_eq-Decides d d).1 refl) refl);
          name = new.name;
          declared = declared;
          names = new.names;
          kind = new.kind;
        },
        tt,
      );
      type_entries = (
        record {
          tables = s;
          keeps = record { terms = λ x n h. h; types = λ x n h. lookup_append (type_eq x) s.types ((t, d) ∷ []) n h; functions = λ x n h. h };
          parts = parts;
          lines = own;
        },
        tt,
      );
      new_functions = [];
      functions_are = rw append-nil;
      functions = tt;
      function_entries = tt;
      new_terms = [];
      terms_are = rw append-nil;
      terms = tt;
      term_entries = tt;
    })
    (ap (list_all (λ p. is_old_name_in u p.0)) same
    ∙ con_all (is_old_name_in u) d [] 0 cs (names_of state) (subst (λ ns. list_all (is_old_name_in u) ns ≡ true) (sym e) new.old) (all_grow _ _ (λ x. old_stays s u m x.0) (names_of state) fit.old))
    (and_from (is_old_sort_in u d) _ new.sort_old (all_grow _ _ (λ x. old_sort_stays s u m x.0) (declared_sorts state) fit.old_sorts))
    (ap (list_all (λ p. is_name_of_entry enums u p.0)) same
    ∙ con_all (is_name_of_entry enums u) d [] 0 cs (names_of state) (subst (λ ns. list_all (is_name_of_entry enums u) ns ≡ true) (sym e) (names_are_entrys enums s t d))
    (all_grow _ _ (λ x. name_stays enums s u ((t, d) ∷ [], refl) (as_is s.functions) (as_is s.terms) x.0) (names_of state) fit.only_names))
    (and_from (is_sort_of_entry u d) _ (sort_is_entrys s t d) (all_grow _ _ (λ x. sort_stays_so s u ((t, d) ∷ [], refl) x.0) (declared_sorts state) fit.only_sorts))

-- ---- its line

pub type_line : (enums : Enums) (s : Tables) (t : PlainType) (d : List ℕ) → IsNew enums s t d → (cs : List line.Constructor) → names_in (all_built cs) ≡ names_of_type enums t d → has_constructor (all_built cs) ≡ true
    → ((state : State) → Fit enums s state → (list_all (λ c. are_fields state [] c.selectors) (all_built cs) ≡ true) × (list_all is_written_constructor cs ≡ true))
    → TypePartsHaveEntries s t → ((P : Line → Type 0) → ((text : List ℕ) → P (Comment text)) → P (DeclareDatatype d [] cs) → EachLine P (type_lines enums s t d))
    → AreObeyable enums s (DeclareDatatype d [] cs ∷ []) (with_type t d s)
type_line enums s t d new cs e some good parts own state fit =
    let g = good state fit in
    let after = with_datatype d (all_built cs) state in
    let news : are_new state (names_in (all_built cs)) ≡ true = ap (are_new state) e ∙ all_new enums s state fit (names_of_type enums t d) new.free new.new new.distinct in
    let here : LineIsDeclared after (DeclareDatatype d [] cs) =
    (or_left (bytes_eq d d && true) (has_sort state d 0) (and_from (bytes_eq d d) true ((bytes_eq-Decides d d).1 refl) refl), datatypes_declare d [] (all_built cs) state news, or_left (bytes_eq d d) (declares_sort state d) ((bytes_eq-Decides d d).1 refl), datatype_only state d (all_built cs) fit.rooted (undeclared enums s state fit d new.sort_new)) in
    record {
      after = after;
      runs = step_runs (script.DeclareDatatype d [] (all_built cs)) state after fit.running
          (datatypes_leave d [] (all_built cs) state
          (and_from (not (is_taken_sort state d || false)) (true && has_constructor (all_built cs))
          (ap not (or_from (is_taken_sort state d) false (fresh_sort enums s state fit d new.sort_free new.sort_unreserved new.sort_new) refl)) some)
          news g.0);
      fits = type_fits enums s state fit t d new (all_built cs) e news parts (own (LineIsDeclared after) (λ text. tt) here);
      written = and_from (is_name d && list_all is_written_constructor cs) true (and_from (is_name d) (list_all is_written_constructor cs) new.name g.1) refl;
      kept = datatype_kept state d (all_built cs) (undeclared enums s state fit d new.sort_new) news;
      lines_are_declared = (here, tt);
      same_below = refl;
      same_assertions = refl;
    }

-- a field's sort, where no parameter is there
pub field_sort : (state : State) (e : Expression) → is_sort (has_sort state) e ≡ true → is_sort (λ n k. has_sort state n k || (is_in n [] && (k == 0))) e ≡ true
field_sort state e h = sort_still_known (has_sort state) (λ n k. has_sort state n k || (is_in n [] && (k == 0))) (λ n k x. or_left (has_sort state n k) (is_in n [] && (k == 0)) x) e h
