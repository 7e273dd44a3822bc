-- Tables that stand for a state stand for what a command leaves of it.
use Rattle.std.proofs.Common.{◌≡◌, ℕ, Bool, true, false, ◌&&◌, ◌||◌, not, cond, List, [], ◌∷◌, ◌++◌, Option, Some, None, length, map, bytes_eq, get_or, codes, is_some, refl, sym, ap, ◌∙◌, subst, inl, inr, arith, append_assoc}
use Rattle.std.specs.Prelude.{if◌then◌else◌, nat_eq}
use Rattle.std.specs.List.{list_any}
use Rattle.std.proofs.lemmas.Bool.{and_parts, and_from, cases_Bool, cond-false, cond-true, false≢true, or_parts}
use Rattle.std.proofs.lemmas.List.{append-nil, get_or_append_left, length-append, reverse-append}
use Rattle.std.proofs.lemmas.Slice.Eq.{bytes_eq-Decides}
use Rattle.law_texts.specs.Reading.{Expression}
use Rattle.law_scripts.specs.ScriptValues.{TruthOf}
use Rattle.law_scripts.specs.Script as script
use Rattle.law_scripts.specs.Script.{Builds, Constant, Constructor, Defined, Entry, Selects, State, are_distinct, assertions_below, assertions_of, built_in_names, built_in_sorts, declared_sorts, has_name, has_sort, is_in, is_reserved, is_sort, is_taken, knows, look_up, name, names_of, with_level, with_sort}
use Rattle.law_scripts.specs.Sorts.{bool_sort, entries}
use Rattle.law_scripts.proofs.CommandInduction.{AddsName, AddsSort, Change, IsAllowed, changed}
use Rattle.law_scripts.proofs.Keeps.{changes_keep_values, new_name}
use Rattle.law_verdicts.specs.FirstModel.{constants_in, constants_of}
use Rattle.smt_mini.specs.Tables.{Agrees, Fits, FitsEntry, HasValue, HaveValues, Table, by_name, found_in, gained, with_assertion, with_constant, with_name, with_options}
use Rattle.smt_mini.specs.declared.gate.Gate.TheVariants.{Input}
use Rattle.smt_mini.proofs.Building.{each_kept, one_behind, value_kept}
use Rattle.smt_mini.proofs.Formulas.{name_is}
use Rattle.smt_mini.proofs.Gates.{truth_of_last}

-- ---- names that are taken

found_where_declared : (o : Option (Option ℕ)) (x : Option Entry) → FitsEntry o x → is_some o ≡ is_some x
found_where_declared None x h = sym (ap is_some h)
found_where_declared (Some None) x h = sym h.0
found_where_declared (Some (Some p)) (Some x) h = refl
found_where_declared (Some (Some p)) None h = absurd (false≢true h)

pub name_by : (t : Table) (s : State) (n : List ℕ) → Fits t s → (is_in n built_in_names || is_some (found_in t n)) ≡ has_name s n
name_by t s n f = ap (λ b. is_in n built_in_names || b) (found_where_declared (found_in t n) (entries s n) (f.names n)) ∙ sym (name_is s n)

-- ---- what is there keeps its value

-- a change of the state
value_behind : (t : Table) (s : State) (x : Change) (e : Expression) (p : ℕ) → IsAllowed s x → HasValue t s e p → HasValue t (changed x s) e p
value_behind t s x e p a h = record {
  within = h.within;
  known = (changes_keep_values (by_name (λ n. false)) x s e a h.known).0;
  value = λ f at g. (changes_keep_values (by_name f) x s e a h.known).1 ∙ h.value f at g;
}

values_behind_change : (t : Table) (s : State) (x : Change) (es : List Expression) (ps : List ℕ) → IsAllowed s x → HaveValues t s es ps → HaveValues t (changed x s) es ps
values_behind_change t s x es ps a h = each_kept t t s (changed x s) (λ e p k. value_behind t s x e p a k) es ps h

-- a constant more
abbrev with_input : Table → List ℕ → Table
with_input t n = record (gained t (Input (length t.constants) ∷ [])) { constants = t.constants ++ n ∷ [] }

agrees_in_front : (f : List ℕ → Bool) (at : ℕ → Bool) (cs : List (List ℕ)) (n : List ℕ) → Agrees f at (cs ++ n ∷ []) → Agrees f at cs
agrees_in_front f at cs n a k l = ap f (sym (get_or_append_left cs (n ∷ []) [] k l)) ∙ a k (omega (arith, l, length-append cs (n ∷ [])))

value_with_input : (t : Table) (s : State) (n : List ℕ) (e : Expression) (p : ℕ) → HasValue t s e p → HasValue (with_input t n) s e p
value_with_input t s n e p h =
    let k = value_kept t (Input (length t.constants) ∷ []) s e p h in
    record { within = k.within; known = k.known; value = λ f at a. k.value f at (agrees_in_front f at t.constants n a) }

values_with_input : (t : Table) (s : State) (n : List ℕ) (es : List Expression) (ps : List ℕ) → HaveValues t s es ps → HaveValues (with_input t n) s es ps
values_with_input t s n es ps h = each_kept t (with_input t n) s s (value_with_input t s n) es ps h

-- ---- a name more

-- All but what is said of constants fits.
record Suits (t : Table) (s : State) : Type 0 where
  names : (n : List ℕ) → FitsEntry (found_in t n) (entries s n)
  values : (n : List ℕ) (p : ℕ) → found_in t n ≡ Some (Some p) → HasValue t s (name n) p
  assertions : HaveValues t s (assertions_of s) t.assertions
  sorts : declared_sorts s ≡ (if t.options then (codes "Option", 1) ∷ [] else [])

found_last : (t : Table) (n m : List ℕ) (gate : Option ℕ) → found_in (with_name t n gate) m ≡ cond (bytes_eq m n) (Some gate) (found_in t m)
found_last t n m gate = ap (look_up m) (reverse-append t.names ((n, gate) ∷ []))

fits_entry_last : (same : Bool) (gate : Option ℕ) (x : Entry) (o : Option (Option ℕ)) (y : Option Entry) → FitsEntry (Some gate) (Some x) → FitsEntry o y → FitsEntry (cond same (Some gate) o) (cond same (Some x) y)
fits_entry_last true gate x o y h k = h
fits_entry_last false gate x o y h k = k

some_gate : (g : Option ℕ) (p : ℕ) → Some g ≡ Some (Some p) → g ≡ Some p
some_gate g p h = cc

suits_named : (t : Table) (s : State) (n : List ℕ) (gate : Option ℕ) (x : Entry) → Suits t s → IsAllowed s (AddsName n x) → FitsEntry (Some gate) (Some x)
    → ((p : ℕ) → gate ≡ Some p → HasValue t (script.with_name n x s) (name n) p) → Suits (with_name t n gate) (script.with_name n x s)
suits_named t s n gate x h a k v = record {
  names = λ m. subst (λ o. FitsEntry o (entries (script.with_name n x s) m)) (sym (found_last t n m gate)) (fits_entry_last (bytes_eq m n) gate x (found_in t m) (entries s m) k (h.names m));
  values = λ m p e. new_or_old m p (sym (found_last t n m gate) ∙ e);
  assertions = each_kept t (with_name t n gate) (script.with_name n x s) (script.with_name n x s) widened (assertions_of s) t.assertions (values_behind_change t s (AddsName n x) (assertions_of s) t.assertions a h.assertions);
  sorts = h.sorts;
}
  where
    widened : (e : Expression) (p : ℕ) → HasValue t (script.with_name n x s) e p → HasValue (with_name t n gate) (script.with_name n x s) e p
    widened e p q = record { within = q.within; known = q.known; value = q.value }

    new_or_old : (m : List ℕ) (p : ℕ) → cond (bytes_eq m n) (Some gate) (found_in t m) ≡ Some (Some p) → HasValue (with_name t n gate) (script.with_name n x s) (name m) p
    new_or_old m p e = elim (cases_Bool (bytes_eq m n)) [
      | inl same ↦ widened (name m) p (subst (λ y. HasValue t (script.with_name n x s) (name y) p) (sym ((bytes_eq-Decides m n).0 same))
          (v p (some_gate gate p (sym (cond-true (bytes_eq m n) (Some gate) (found_in t m) same) ∙ e))))
      | inr other ↦ widened (name m) p (value_behind t s (AddsName n x) (name m) p a (h.values m p (sym (cond-false (bytes_eq m n) (Some gate) (found_in t m) other) ∙ e)))
    ]

suits : (t : Table) (s : State) → Fits t s → Suits t s
suits t s h = record { names = h.names; values = h.values; assertions = h.assertions; sorts = h.sorts }

fits : (t : Table) (s : State) → Suits t s → t.constants ≡ constants_of s → are_distinct t.constants ≡ true → Fits t s
fits t s h c d = record { names = h.names; values = h.values; assertions = h.assertions; constants = c; distinct = d; sorts = h.sorts }

-- ---- a definition

pub defined_fits : (t : Table) (s : State) (n : List ℕ) (body : Expression) (p : ℕ) → Fits t s → is_taken s n ≡ false → is_sort (has_sort s) bool_sort ≡ true → HasValue t s body p
    → Fits (with_name t n (Some p)) (script.with_name n (Defined bool_sort body) s)
defined_fits t s n body p h a b v =
    let x = Defined bool_sort body in
    let gate : (q : ℕ) → Some p ≡ Some q → HasValue t (script.with_name n x s) (name n) q = λ q e. subst (HasValue t (script.with_name n x s) (name n)) (same_gate q e) (record {
      within = v.within;
      known = (new_name (by_name (λ m. false)) n x s a).there;
      value = λ f at g. (new_name (by_name f) n x s a).value ∙ v.value f at g;
    }) in
    fits (with_name t n (Some p)) (script.with_name n x s) (suits_named t s n (Some p) x (suits t s h) (a, (b, v.known)) refl gate) h.constants h.distinct
  where
    same_gate : (q : ℕ) → Some p ≡ Some q → p ≡ q
    same_gate q e = cc

-- ---- a constant

suits_with_input : (t : Table) (s : State) (n : List ℕ) → Suits t s → Suits (with_input t n) s
suits_with_input t s n h = record {
  names = h.names;
  values = λ m p e. value_with_input t s n (name m) p (h.values m p e);
  assertions = values_with_input t s n (assertions_of s) t.assertions h.assertions;
  sorts = h.sorts;
}

last_of : (cs : List (List ℕ)) (n : List ℕ) → get_or (cs ++ n ∷ []) (length cs) [] ≡ n
last_of [] n = refl
last_of (c ∷ cs) n = last_of cs n

is_in_append : (n : List ℕ) (cs ds : List (List ℕ)) → is_in n (cs ++ ds) ≡ (is_in n cs || is_in n ds)
is_in_append n [] ds = refl
is_in_append n (c ∷ cs) ds = ap (λ b. bytes_eq n c || b) (is_in_append n cs ds) ∙ or_assoc (bytes_eq n c) (is_in n cs) (is_in n ds)
  where
    or_assoc : (a b c : Bool) → (a || (b || c)) ≡ ((a || b) || c)
    or_assoc true b c = refl
    or_assoc false b c = refl

or_false : (b : Bool) → (b || false) ≡ b
or_false true = refl
or_false false = refl

pub not_same : (m n : List ℕ) → bytes_eq n m ≡ false → bytes_eq m n ≡ false
not_same m n h = elim (cases_Bool (bytes_eq m n)) [
  | inl e ↦ absurd (false≢true (sym h ∙ (bytes_eq-Decides n m).1 (sym ((bytes_eq-Decides m n).0 e))))
  | inr e ↦ e
]

one_more_distinct : (cs : List (List ℕ)) (n : List ℕ) → are_distinct cs ≡ true → is_in n cs ≡ false → are_distinct (cs ++ n ∷ []) ≡ true
one_more_distinct [] n h k = refl
one_more_distinct (c ∷ cs) n h k =
    let p = and_parts (not (is_in c cs)) (are_distinct cs) h in
    let q = or_parts (bytes_eq n c) (is_in n cs) k in
    and_from (not (is_in c (cs ++ n ∷ []))) (are_distinct (cs ++ n ∷ []))
    (ap not (is_in_append c cs (n ∷ []) ∙ ap (λ b. is_in c cs || (b || false)) (not_same c n q.0) ∙ or_false (is_in c cs)) ∙ p.0)
    (one_more_distinct cs n p.1 q.1)

either_false : (a b : Bool) → a ≡ false → b ≡ false → (a || b) ≡ false
either_false a b h k = rw (h, k) refl

-- constants are among the names
no_constant : (n : List ℕ) (ds : List (List ℕ × Entry)) → is_in n (map (λ d. d.0) ds) ≡ false → is_in n (constants_in ds) ≡ false
no_constant n [] h = refl
no_constant n ((m, Constant sort) ∷ ds) h =
    let p = or_parts (bytes_eq n m) (is_in n (map (λ d. d.0) ds)) h in
    is_in_append n (constants_in ds) (m ∷ []) ∙ either_false (is_in n (constants_in ds)) (bytes_eq n m || false) (no_constant n ds p.1) (or_false (bytes_eq n m) ∙ p.0)
no_constant n ((m, script.Function argument sort) ∷ ds) h = no_constant n ds (or_parts (bytes_eq n m) (is_in n (map (λ d. d.0) ds)) h).1
no_constant n ((m, Defined sort body) ∷ ds) h = no_constant n ds (or_parts (bytes_eq n m) (is_in n (map (λ d. d.0) ds)) h).1
no_constant n ((m, Builds d ps place fields) ∷ ds) h = no_constant n ds (or_parts (bytes_eq n m) (is_in n (map (λ x. x.0) ds)) h).1
no_constant n ((m, Selects d ps c place field) ∷ ds) h = no_constant n ds (or_parts (bytes_eq n m) (is_in n (map (λ x. x.0) ds)) h).1

pub constant_fits : (t : Table) (s : State) (n : List ℕ) → Fits t s → is_taken s n ≡ false → is_sort (has_sort s) bool_sort ≡ true
    → Fits (with_constant t n) (script.with_name n (Constant bool_sort) s)
constant_fits t s n h a b =
    let x = Constant bool_sort in
    let u = with_input t n in
    let here : HasValue u (script.with_name n x s) (name n) (length t.gates) = record {
      within = omega (arith, length-append t.gates (Input (length t.constants) ∷ []));
      known = (new_name (by_name (λ m. false)) n x s a).there;
      value = λ f at g.
          (new_name (by_name f) n x s a).value
          ∙ ap (λ b. Some (TruthOf b)) (ap f (sym (last_of t.constants n)) ∙ g (length t.constants) (omega (arith, length-append t.constants (n ∷ []))) ∙ sym (truth_of_last at t.gates (Input (length t.constants))));
    } in
    let gate : (q : ℕ) → Some (length t.gates) ≡ Some q → HasValue u (script.with_name n x s) (name n) q = λ q e. subst (HasValue u (script.with_name n x s) (name n)) (same_gate q e) here in
    fits (with_constant t n) (script.with_name n x s) (suits_named u s n (Some (length t.gates)) x (suits_with_input t s n (suits t s h)) (a, b) refl gate)
    (ap (λ cs. cs ++ n ∷ []) h.constants)
    (one_more_distinct t.constants n h.distinct (ap (is_in n) h.constants ∙ no_constant n (names_of s) (or_parts (is_in n built_in_names) (is_in n (map (λ d. d.0) (names_of s))) (or_parts (has_name s n) (is_reserved n) a).0).1))
  where
    same_gate : (q : ℕ) → Some (length t.gates) ≡ Some q → length t.gates ≡ q
    same_gate q e = cc

-- ---- an assertion

pub asserted_fits : (t : Table) (s : State) (e : Expression) (p : ℕ) → Fits t s → HasValue t s e p → Fits (with_assertion t p) (script.with_assertion e s)
asserted_fits t s e p h v = record {
  names = h.names;
  values = λ m q k. widened (name m) q (h.values m q k);
  assertions = each_kept t (with_assertion t p) s (script.with_assertion e s) widened (assertions_of (script.with_assertion e s)) (t.assertions ++ p ∷ [])
      (subst (λ es. HaveValues t s es (t.assertions ++ p ∷ [])) (append_assoc (assertions_below s.below) s.last.assertions (e ∷ [])) (one_behind t s (assertions_of s) t.assertions e p h.assertions v));
  constants = h.constants;
  distinct = h.distinct;
  sorts = h.sorts;
}
  where
    widened : (d : Expression) (q : ℕ) → HasValue t s d q → HasValue (with_assertion t p) (script.with_assertion e s) d q
    widened d q k = record { within = k.within; known = k.known; value = k.value }

-- ---- a level

pub level_fits : (t : Table) (s : State) → Fits t s → Fits t (with_level s)
level_fits t s h = record {
  names = h.names;
  values = λ m q k. widened (name m) q (h.values m q k);
  assertions = subst (λ es. HaveValues t (with_level s) es t.assertions) (sym (append-nil (assertions_of s))) (each_kept t t s (with_level s) widened (assertions_of s) t.assertions h.assertions);
  constants = h.constants;
  distinct = h.distinct;
  sorts = h.sorts;
}
  where
    widened : (d : Expression) (q : ℕ) → HasValue t s d q → HasValue t (with_level s) d q
    widened d q k = record { within = k.within; known = k.known; value = k.value }

-- ---- sorts

-- the sort Bool is there
pub bool_is_there : (t : Table) (s : State) → Fits t s → is_sort (has_sort s) bool_sort ≡ true
bool_is_there t s h = ap (λ ds. list_any (λ p. bytes_eq (codes "Bool") p.0 && nat_eq p.1 0) (ds ++ built_in_sorts)) h.sorts ∙ by t.options
  where
    by : (b : Bool) → list_any (λ p. bytes_eq (codes "Bool") p.0 && nat_eq p.1 0) ((if b then (codes "Option", 1) ∷ [] else []) ++ built_in_sorts) ≡ true
    by true = refl
    by false = refl

-- ---- the datatype Option

-- what its constructors and its selector are declared as
abbrev pub none_entry : Entry
none_entry = Builds (codes "Option") (codes "X" ∷ []) 0 []

abbrev pub some_entry : Entry
some_entry = Builds (codes "Option") (codes "X" ∷ []) 1 (name (codes "X") ∷ [])

abbrev pub val_entry : Entry
val_entry = Selects (codes "Option") (codes "X" ∷ []) (codes "some") 0 (name (codes "X"))

abbrev pub with_none : State → State
with_none s = script.with_name (codes "none") none_entry s

abbrev pub with_some : State → State
with_some s = script.with_name (codes "some") some_entry (with_none s)

abbrev pub with_val : State → State
with_val s = script.with_name (codes "val") val_entry (with_some s)

no_gate : (t : Table) (s : State) (n : List ℕ) (p : ℕ) → None ≡ Some p → HasValue t s (name n) p
no_gate t s n p e = absurd cc

pub x_is_there : (s : State) → is_sort (λ n k. has_sort s n k || (is_in n (codes "X" ∷ []) && nat_eq k 0)) (name (codes "X")) ≡ true
x_is_there s = or_true (has_sort s (codes "X") 0)
  where
    or_true : (b : Bool) → (b || true) ≡ true
    or_true true = refl
    or_true false = refl

pub options_fit : (t : Table) (s : State) → Fits t s → t.options ≡ false → is_taken s (codes "none") ≡ false → is_taken s (codes "some") ≡ false → is_taken s (codes "val") ≡ false
    → Fits (with_options t) (with_sort (codes "Option") 1 (with_val s))
options_fit t s h o a b c =
    let t1 = with_name t (codes "none") None in
    let t2 = with_name t1 (codes "some") None in
    let t3 = with_name t2 (codes "val") None in
    let s1 = suits_named t s (codes "none") None none_entry (suits t s h) (a, tt) (refl, refl) (no_gate t (with_none s) (codes "none")) in
    let s2 = suits_named t1 (with_none s) (codes "some") None some_entry s1 (b, tt) (refl, refl) (no_gate t1 (with_some s) (codes "some")) in
    let s3 = suits_named t2 (with_some s) (codes "val") None val_entry s2 (c, x_is_there (with_some s)) (refl, refl) (no_gate t2 (with_val s) (codes "val")) in
    let change = AddsSort (codes "Option") 1 in
    record {
      names = s3.names;
      values = λ m q k. widened (name m) q (value_behind t3 (with_val s) change (name m) q tt (s3.values m q k));
      assertions = each_kept t3 (with_options t) (with_sort (codes "Option") 1 (with_val s)) (with_sort (codes "Option") 1 (with_val s)) widened (assertions_of s) t.assertions (values_behind_change t3 (with_val s) change (assertions_of s) t.assertions tt s3.assertions);
      constants = h.constants;
      distinct = h.distinct;
      sorts = ap (λ ds. (codes "Option", 1) ∷ ds) (h.sorts ∙ ap (λ b. if b then (codes "Option", 1) ∷ [] else []) o);
    }
  where
    widened : (d : Expression) (q : ℕ) → HasValue (with_name (with_name (with_name t (codes "none") None) (codes "some") None) (codes "val") None) (with_sort (codes "Option") 1 (with_val s)) d q → HasValue (with_options t) (with_sort (codes "Option") 1 (with_val s)) d q
    widened d q k = record { within = k.within; known = k.known; value = k.value }
