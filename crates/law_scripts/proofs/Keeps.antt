-- What a command leaves has the values and the sorts of what was there before it.
use Rattle.std.proofs.Common.{◌≡◌, ℕ, Bool, true, false, ◌&&◌, ◌||◌, eqb, List, [], ◌∷◌, map, refl, sym, ap, ap₂, ◌∙◌, subst, inl, inr, Option, Some, None}
use Rattle.std.specs.Prelude.{codes, bytes_eq}
use Rattle.std.proofs.lemmas.Bool.{and_parts, and_from, or_cases, or_parts, cases_Bool, false≢true}
use Rattle.std.proofs.lemmas.Slice.Eq.{bytes_eq-Decides}
use Rattle.law_terms.specs.Plain.{StringLikeOp, ZeroExtendOp}
use Rattle.law_scripts.specs.ScriptValues.{ScriptValue}
use Rattle.law_texts.specs.Lexicon.{Bits, Number, Text, Name}
use Rattle.law_texts.specs.Reading.{Expression, Leaf, Node, Expressions, Nil, Cons}
use Rattle.law_scripts.specs.Script.{Command, DeclareConst, DefineFun, obey, Entry, Constant, Defined, State, step, name, declare, with_name, with_sort, has_name, has_sort, is_taken, is_reserved, is_in, is_sort, are_sorts, is_bit_sort, count, is_first, are_all, is_stated, each_stated, knows, Shape, BitLiteral, Qualified, Applied, Extended, Tested, Matched, Unformed, shape, shape_is_known, built_in_names, names_of, look_up, operator_of}
use Rattle.law_texts.specs.Options.{◌>>=◌}
use Rattle.law_scripts.specs.Sorts.{Entries, entries, entry_sort, applied_sort, named_sort, qualified_sort, tested_sort, operator_sort, shape_sort, sort_in, sorts_in, expression_sort, each_there, first_there}
use Rattle.law_scripts.specs.Value.{ScriptInterpretation, Meaning, by_operator, applied_value, constant, qualified_value, is_built, of_one, operator_value, evaluate, evaluate_each, first_sort, shape_value, meaning, entry_meaning, body_of, expression_value, StepsKeepValues, NamesHaveValues}
use Rattle.law_scripts.proofs.CommandInduction.{Change, AddsName, AddsSort, changed, IsAllowed, Any, adds_such, step_is, stepped}
use Rattle.law_scripts.proofs.Results.{or_left, or_right, some_is, if_not, if_so, bind_same}

-- ---- an expression's sort and value are those of its names

same_shape_sort : (sorts : List ℕ → ℕ → Bool) (names : List ℕ → Bool) (f g : Entries) → ((n : List ℕ) → names n ≡ true → f n ≡ g n) → (x : Shape) (known : List Bool) (ss us : List (Option Expression)) → (are_all known ≡ true → ss ≡ us) → (is_first known ≡ true → first_there ss ≡ first_there us) → shape_is_known sorts names x known ≡ true → shape_sort f x ss ≡ shape_sort g x us
same_shape_sort sorts names f g h (BitLiteral w n) known ss us k l e = refl
same_shape_sort sorts names f g h (Qualified c sort) known ss us k l e = ap (λ (x : Option Entry). qualified_sort x c sort) (h c (and_parts (names c) (is_sort sorts sort) e).0)
same_shape_sort sorts names f g h (Applied n) known ss us k l e =
    let p = and_parts (names n) (are_all known) e in
    ap₂ (λ (x : Option Entry) (o : List (Option Expression)). each_there o >>= applied_sort x n) (h n p.0) (k p.1)
same_shape_sort sorts names f g h (Extended bits) known ss us k l e = ap (λ (o : List (Option Expression)). each_there o >>= operator_sort (ZeroExtendOp bits)) (k e)
same_shape_sort sorts names f g h (Tested c) known ss us k l e =
    let p = and_parts (names c) (are_all known) e in
    ap₂ (λ (x : Option Entry) (o : List (Option Expression)). each_there o >>= tested_sort x) (h c p.0) (k p.1)
same_shape_sort sorts names f g h (Matched p) known ss us k l e = ap (λ (o : Option Expression). o >>= λ s. operator_sort (StringLikeOp p) (s ∷ [])) (l e)
same_shape_sort sorts names f g h Unformed known ss us k l e = refl

mutual
  same_sort_in : (sorts : List ℕ → ℕ → Bool) (names : List ℕ → Bool) (f g : Entries) → ((n : List ℕ) → names n ≡ true → f n ≡ g n) → (e : Expression) → is_stated sorts names e ≡ true → sort_in f e ≡ sort_in g e
  same_sort_in sorts names f g h (Leaf (Name n)) k = ap (λ (x : Option Entry). named_sort x n) (h n k)
  same_sort_in sorts names f g h (Leaf (Bits w n)) k = refl
  same_sort_in sorts names f g h (Leaf (Number n)) k = refl
  same_sort_in sorts names f g h (Leaf (Text t)) k = refl
  same_sort_in sorts names f g h (Node Nil) k = refl
  same_sort_in sorts names f g h (Node (Cons e es)) k = same_shape_sort sorts names f g h (shape e es) (each_stated sorts names es) (sorts_in f es) (sorts_in g es) (λ p. same_sorts_in sorts names f g h es p) (λ p. same_first_in sorts names f g h es p) k

  same_sorts_in : (sorts : List ℕ → ℕ → Bool) (names : List ℕ → Bool) (f g : Entries) → ((n : List ℕ) → names n ≡ true → f n ≡ g n) → (es : Expressions) → are_all (each_stated sorts names es) ≡ true → sorts_in f es ≡ sorts_in g es
  same_sorts_in sorts names f g h Nil k = refl
  same_sorts_in sorts names f g h (Cons e es) k =
      let p = and_parts (is_stated sorts names e) (are_all (each_stated sorts names es)) k in
      ap₂ (λ (o : Option Expression) (os : List (Option Expression)). o ∷ os) (same_sort_in sorts names f g h e p.0) (same_sorts_in sorts names f g h es p.1)

  same_first_in : (sorts : List ℕ → ℕ → Bool) (names : List ℕ → Bool) (f g : Entries) → ((n : List ℕ) → names n ≡ true → f n ≡ g n) → (es : Expressions) → is_first (each_stated sorts names es) ≡ true → first_there (sorts_in f es) ≡ first_there (sorts_in g es)
  same_first_in sorts names f g h Nil k = refl
  same_first_in sorts names f g h (Cons e es) k = same_sort_in sorts names f g h e k

-- two readings of names that agree on those that are there
record Agree (names : List ℕ → Bool) (f g : Entries) (p q : Meaning) : Type 0 where
  entry : (n : List ℕ) → names n ≡ true → f n ≡ g n
  value : (n : List ℕ) → names n ≡ true → (s : Option Expression) (vs : List ScriptValue) → p n s vs ≡ q n s vs

first_sort_same : (sorts : List ℕ → ℕ → Bool) (names : List ℕ → Bool) (f g : Entries) → ((n : List ℕ) → names n ≡ true → f n ≡ g n) → (es : Expressions) → are_all (each_stated sorts names es) ≡ true → first_sort f es ≡ first_sort g es
first_sort_same sorts names f g h Nil k = refl
first_sort_same sorts names f g h (Cons e es) k = same_sort_in sorts names f g h e (and_parts (is_stated sorts names e) (are_all (each_stated sorts names es)) k).0

constant_same : (p q : Meaning) (n : List ℕ) → ((s : Option Expression) (vs : List ScriptValue) → p n s vs ≡ q n s vs) → constant p n ≡ constant q n
constant_same p q n h = ap (λ (v : Option ScriptValue). constant (λ m s vs. v) n) (h None [])

same_shape_value : (sorts : List ℕ → ℕ → Bool) (names : List ℕ → Bool) (f g : Entries) (p q : Meaning) → Agree names f g p q → (x : Shape) (known : List Bool) (s u : Option Expression) (vs ws : List (Option ScriptValue)) → (are_all known ≡ true → s ≡ u) → (are_all known ≡ true → vs ≡ ws) → (is_first known ≡ true → first_there vs ≡ first_there ws) → shape_is_known sorts names x known ≡ true → shape_value f p x s vs ≡ shape_value g q x u ws
same_shape_value sorts names f g p q h (BitLiteral w n) known s u vs ws i k l e = refl
same_shape_value sorts names f g p q h (Qualified c sort) known s u vs ws i k l e = ap (λ (v : Option ScriptValue). qualified_value (λ m x ys. v) c) (h.value c (and_parts (names c) (is_sort sorts sort) e).0 None [])
same_shape_value sorts names f g p q h (Applied n) known s u vs ws i k l e =
    let r = and_parts (names n) (are_all known) e in
    ap₂ (λ (x : Option Expression) (o : List (Option ScriptValue)). each_there o >>= applied_value p n x) (i r.1) (k r.1)
    ∙ bind_same (each_there ws) (applied_value p n u) (applied_value q n u) (λ ys. ap (λ (v : Option ScriptValue). by_operator (operator_of n) n ys v) (h.value n r.0 u ys))
same_shape_value sorts names f g p q h (Extended bits) known s u vs ws i k l e = ap (λ (o : List (Option ScriptValue)). each_there o >>= operator_value (ZeroExtendOp bits)) (k e)
same_shape_value sorts names f g p q h (Tested c) known s u vs ws i k l e =
    let r = and_parts (names c) (are_all known) e in
    ap₂ (λ (x : Option Entry) (o : List (Option ScriptValue)). each_there o >>= of_one (is_built x c)) (h.entry c r.0) (k r.1)
same_shape_value sorts names f g p q h (Matched r) known s u vs ws i k l e = ap (λ (o : Option ScriptValue). o >>= λ v. operator_value (StringLikeOp r) (v ∷ [])) (l e)
same_shape_value sorts names f g p q h Unformed known s u vs ws i k l e = refl

mutual
  same_value : (sorts : List ℕ → ℕ → Bool) (names : List ℕ → Bool) (f g : Entries) (p q : Meaning) → Agree names f g p q → (e : Expression) → is_stated sorts names e ≡ true → evaluate f p e ≡ evaluate g q e
  same_value sorts names f g p q h (Leaf (Name n)) k = constant_same p q n (h.value n k)
  same_value sorts names f g p q h (Leaf (Bits w n)) k = refl
  same_value sorts names f g p q h (Leaf (Number n)) k = refl
  same_value sorts names f g p q h (Leaf (Text t)) k = refl
  same_value sorts names f g p q h (Node Nil) k = refl
  same_value sorts names f g p q h (Node (Cons e es)) k =
      same_shape_value sorts names f g p q h (shape e es) (each_stated sorts names es) (first_sort f es) (first_sort g es) (evaluate_each f p es) (evaluate_each g q es)
      (λ x. first_sort_same sorts names f g h.entry es x) (λ x. same_values sorts names f g p q h es x) (λ x. same_first sorts names f g p q h es x) k

  same_values : (sorts : List ℕ → ℕ → Bool) (names : List ℕ → Bool) (f g : Entries) (p q : Meaning) → Agree names f g p q → (es : Expressions) → are_all (each_stated sorts names es) ≡ true → evaluate_each f p es ≡ evaluate_each g q es
  same_values sorts names f g p q h Nil k = refl
  same_values sorts names f g p q h (Cons e es) k =
      let r = and_parts (is_stated sorts names e) (are_all (each_stated sorts names es)) k in
      ap₂ (λ (o : Option ScriptValue) (os : List (Option ScriptValue)). o ∷ os) (same_value sorts names f g p q h e r.0) (same_values sorts names f g p q h es r.1)

  same_first : (sorts : List ℕ → ℕ → Bool) (names : List ℕ → Bool) (f g : Entries) (p q : Meaning) → Agree names f g p q → (es : Expressions) → is_first (each_stated sorts names es) ≡ true → first_there (evaluate_each f p es) ≡ first_there (evaluate_each g q es)
  same_first sorts names f g p q h Nil k = refl
  same_first sorts names f g p q h (Cons e es) k = same_value sorts names f g p q h e k

-- ---- what is known stays known

mutual
  pub sort_still_known : (has more : List ℕ → ℕ → Bool) → ((n : List ℕ) (k : ℕ) → has n k ≡ true → more n k ≡ true) → (e : Expression) → is_sort has e ≡ true → is_sort more e ≡ true
  sort_still_known has more h (Leaf (Name n)) k = h n 0 k
  sort_still_known has more h (Node (Cons (Leaf (Name n)) (Cons e es))) k = elim (or_cases (bytes_eq n (codes "_") && is_bit_sort (Cons e es)) (has n (count (Cons e es)) && are_sorts has (Cons e es)) k) [
    | inl p ↦ or_left (bytes_eq n (codes "_") && is_bit_sort (Cons e es)) (more n (count (Cons e es)) && are_sorts more (Cons e es)) p
    | inr p ↦ (let q = and_parts (has n (count (Cons e es))) (are_sorts has (Cons e es)) p in
        or_right (bytes_eq n (codes "_") && is_bit_sort (Cons e es)) (more n (count (Cons e es)) && are_sorts more (Cons e es))
        (and_from (more n (count (Cons e es))) (are_sorts more (Cons e es)) (h n (count (Cons e es)) q.0) (sorts_still_known has more h (Cons e es) q.1)))
  ]
  sort_still_known has more h e k = absurd (false≢true k)

  pub sorts_still_known : (has more : List ℕ → ℕ → Bool) → ((n : List ℕ) (k : ℕ) → has n k ≡ true → more n k ≡ true) → (es : Expressions) → are_sorts has es ≡ true → are_sorts more es ≡ true
  sorts_still_known has more h Nil k = refl
  sorts_still_known has more h (Cons e es) k =
      let p = and_parts (is_sort has e) (are_sorts has es) k in
      and_from (is_sort more e) (are_sorts more es) (sort_still_known has more h e p.0) (sorts_still_known has more h es p.1)

shape_still : (sorts sorts' : List ℕ → ℕ → Bool) (names names' : List ℕ → Bool) → ((n : List ℕ) (k : ℕ) → sorts n k ≡ true → sorts' n k ≡ true) → ((n : List ℕ) → names n ≡ true → names' n ≡ true) → (x : Shape) (bs cs : List Bool) → (are_all bs ≡ true → are_all cs ≡ true) → (is_first bs ≡ true → is_first cs ≡ true) → shape_is_known sorts names x bs ≡ true → shape_is_known sorts' names' x cs ≡ true
shape_still sorts sorts' names names' h k (BitLiteral w n) bs cs i l e = refl
shape_still sorts sorts' names names' h k (Qualified n sort) bs cs i l e =
    let p = and_parts (names n) (is_sort sorts sort) e in
    and_from (names' n) (is_sort sorts' sort) (k n p.0) (sort_still_known sorts sorts' h sort p.1)
shape_still sorts sorts' names names' h k (Applied n) bs cs i l e =
    let p = and_parts (names n) (are_all bs) e in and_from (names' n) (are_all cs) (k n p.0) (i p.1)
shape_still sorts sorts' names names' h k (Extended bits) bs cs i l e = i e
shape_still sorts sorts' names names' h k (Tested n) bs cs i l e =
    let p = and_parts (names n) (are_all bs) e in and_from (names' n) (are_all cs) (k n p.0) (i p.1)
shape_still sorts sorts' names names' h k (Matched p) bs cs i l e = l e
shape_still sorts sorts' names names' h k Unformed bs cs i l e = absurd (false≢true e)

mutual
  still_known : (sorts sorts' : List ℕ → ℕ → Bool) (names names' : List ℕ → Bool) → ((n : List ℕ) (k : ℕ) → sorts n k ≡ true → sorts' n k ≡ true) → ((n : List ℕ) → names n ≡ true → names' n ≡ true) → (e : Expression) → is_stated sorts names e ≡ true → is_stated sorts' names' e ≡ true
  still_known sorts sorts' names names' h k (Leaf (Name n)) e = k n e
  still_known sorts sorts' names names' h k (Leaf (Bits w n)) e = refl
  still_known sorts sorts' names names' h k (Leaf (Number n)) e = refl
  still_known sorts sorts' names names' h k (Leaf (Text t)) e = refl
  still_known sorts sorts' names names' h k (Node Nil) e = e
  still_known sorts sorts' names names' h k (Node (Cons f es)) e = shape_still sorts sorts' names names' h k (shape f es) (each_stated sorts names es) (each_stated sorts' names' es) (λ p. all_still_known sorts sorts' names names' h k es p) (λ p. first_still_known sorts sorts' names names' h k es p) e

  all_still_known : (sorts sorts' : List ℕ → ℕ → Bool) (names names' : List ℕ → Bool) → ((n : List ℕ) (k : ℕ) → sorts n k ≡ true → sorts' n k ≡ true) → ((n : List ℕ) → names n ≡ true → names' n ≡ true) → (es : Expressions) → are_all (each_stated sorts names es) ≡ true → are_all (each_stated sorts' names' es) ≡ true
  all_still_known sorts sorts' names names' h k Nil e = refl
  all_still_known sorts sorts' names names' h k (Cons f es) e =
      let p = and_parts (is_stated sorts names f) (are_all (each_stated sorts names es)) e in
      and_from (is_stated sorts' names' f) (are_all (each_stated sorts' names' es)) (still_known sorts sorts' names names' h k f p.0) (all_still_known sorts sorts' names names' h k es p.1)

  first_still_known : (sorts sorts' : List ℕ → ℕ → Bool) (names names' : List ℕ → Bool) → ((n : List ℕ) (k : ℕ) → sorts n k ≡ true → sorts' n k ≡ true) → ((n : List ℕ) → names n ≡ true → names' n ≡ true) → (es : Expressions) → is_first (each_stated sorts names es) ≡ true → is_first (each_stated sorts' names' es) ≡ true
  first_still_known sorts sorts' names names' h k Nil e = e
  first_still_known sorts sorts' names names' h k (Cons f es) e = still_known sorts sorts' names names' h k f e

-- ---- what declarations keep

-- each name of s has in t what it has in s
record Keeps (j : ScriptInterpretation) (s t : State) : Type 0 where
  there : (n : List ℕ) → has_name s n ≡ true → has_name t n ≡ true
  sorts : (n : List ℕ) (k : ℕ) → has_sort s n k ≡ true → has_sort t n k ≡ true
  same : Agree (has_name s) (entries t) (entries s) (meaning j (names_of t)) (meaning j (names_of s))

keeps_itself : (j : ScriptInterpretation) (s t : State) → names_of s ≡ names_of t → ((n : List ℕ) (k : ℕ) → has_sort s n k ≡ true → has_sort t n k ≡ true) → Keeps j s t
keeps_itself j s t e k = record {
  sorts = k;
  there = λ n h. subst (λ (names : List (List ℕ × Entry)). (is_in n built_in_names || is_in n (map (λ p. p.0) names)) ≡ true) e h;
  same = record {
    entry = λ n h. ap (λ (names : List (List ℕ × Entry)). look_up n names) (sym e);
    value = λ n h x vs. ap (λ (names : List (List ℕ × Entry)). meaning j names n x vs) (sym e);
  };
}

keeps_then : (j : ScriptInterpretation) (s t u : State) → Keeps j s t → Keeps j t u → Keeps j s u
keeps_then j s t u p q = record {
  sorts = λ n k h. q.sorts n k (p.sorts n k h);
  there = λ n h. q.there n (p.there n h);
  same = record {
    entry = λ n h. q.same.entry n (p.there n h) ∙ p.same.entry n h;
    value = λ n h x vs. q.same.value n (p.there n h) x vs ∙ p.same.value n h x vs;
  };
}

-- a name that is there is not the new one
not_new : (s : State) (m n : List ℕ) → has_name s m ≡ true → has_name s n ≡ false → bytes_eq m n ≡ false
not_new s m n h k = elim (cases_Bool (bytes_eq m n)) [
  | inl e ↦ absurd (false≢true (sym k ∙ ap (has_name s) (sym ((bytes_eq-Decides m n).0 e)) ∙ h))
  | inr e ↦ e
]

-- a name that is not taken is not there
not_there : (s : State) (n : List ℕ) → is_taken s n ≡ false → has_name s n ≡ false
not_there s n h = (or_parts (has_name s n) (is_reserved n) h).0

change_keeps : (j : ScriptInterpretation) (x : Change) (s : State) → IsAllowed s x → Keeps j s (changed x s)
change_keeps j (AddsName n entry) s allowed = record {
  sorts = λ m k e. e;
  there = λ m k. elim (or_cases (is_in m built_in_names) (is_in m (map (λ q. q.0) (names_of s))) k) [
    | inl e ↦ or_left (is_in m built_in_names) _ e
    | inr e ↦ or_right (is_in m built_in_names) (bytes_eq m n || is_in m (map (λ q. q.0) (names_of s))) (or_right (bytes_eq m n) (is_in m (map (λ q. q.0) (names_of s))) e)
  ];
  same = record {
    entry = λ m k. rw (not_new s m n k (not_there s n allowed.0)) refl;
    value = λ m k x vs. rw (not_new s m n k (not_there s n allowed.0)) refl;
  };
}
change_keeps j (AddsSort d parameters) s allowed = keeps_itself j s (with_sort d parameters s) refl (λ n k h. or_right (bytes_eq n d && eqb parameters k) (has_sort s n k) h)
change_keeps j x s allowed = keeps_itself j s (changed x s) refl (λ n k h. h)

-- what is kept of an expression that is known
abbrev pub KeepsValue : ScriptInterpretation → State → State → Expression → Type 0
KeepsValue j s t e = (knows t e ≡ true) × (expression_value j t e ≡ expression_value j s e) × (expression_sort t e ≡ expression_sort s e)

keeps_value : (j : ScriptInterpretation) (s t : State) (e : Expression) → Keeps j s t → knows s e ≡ true → KeepsValue j s t e
keeps_value j s t e keeps k = (
  still_known (has_sort s) (has_sort t) (has_name s) (has_name t) keeps.sorts keeps.there e k,
  same_value (has_sort s) (has_name s) (entries t) (entries s) (meaning j (names_of t)) (meaning j (names_of s)) keeps.same e k,
  same_sort_in (has_sort s) (has_name s) (entries t) (entries s) keeps.same.entry e k,
)

pub changes_keep_values : (j : ScriptInterpretation) (x : Change) (s : State) (e : Expression) → IsAllowed s x → knows s e ≡ true → KeepsValue j s (changed x s) e
changes_keep_values j x s e allowed k = keeps_value j s (changed x s) e (change_keeps j x s allowed) k

pub steps_keep_values : StepsKeepValues
steps_keep_values j c s t e r v h k =
    let kept : (x : Change) (u : State) → Any u x → IsAllowed u x → Keeps j s u → Keeps j s (changed x u) = λ x u a allowed keeps. keeps_then j s u (changed x u) keeps (change_keeps j x u allowed) in
    keeps_value j s t e (stepped Any (Keeps j s) kept c s t (adds_such Any c r v (λ u x q. tt) s) h (keeps_itself j s s refl (λ n i p. p))) k

-- ---- the new name

-- a name that isn't built in stands for what is declared
bytes_same : (n : List ℕ) → bytes_eq n n ≡ true
bytes_same n = (bytes_eq-Decides n n).1 refl

-- what a new name is worth
pub record IsNew (j : ScriptInterpretation) (n : List ℕ) (entry : Entry) (s t : State) : Type 0 where
  pub there : knows t (name n) ≡ true
  pub value : expression_value j t (name n) ≡ entry_meaning j n (expression_value j s (body_of entry)) entry None []
  pub sort : expression_sort t (name n) ≡ entry_sort entry []

pub new_name : (j : ScriptInterpretation) (n : List ℕ) (entry : Entry) (s : State) → is_taken s n ≡ false → IsNew j n entry s (with_name n entry s)
new_name j n entry s h =
    let b = or_parts (is_in n built_in_names) (is_in n (map (λ q. q.0) (names_of s))) (not_there s n h) in
    let c = or_parts (bytes_eq n (codes "true")) _ b.0 in
    let d = or_parts (bytes_eq n (codes "false")) _ c.1 in
    record {
      there = or_right (is_in n built_in_names) (bytes_eq n n || is_in n (map (λ q. q.0) (names_of s))) (or_left (bytes_eq n n) (is_in n (map (λ q. q.0) (names_of s))) (bytes_same n));
      value = rw (c.0, d.0, bytes_same n) refl;
      sort = rw (c.0, d.0, bytes_same n) refl;
    }

declared : (j : ScriptInterpretation) (n : List ℕ) (entry : Entry) (s t : State) → declare n entry s ≡ Some t → IsNew j n entry s t
declared j n entry s t h =
    let p = if_not (is_taken s n) (Some (with_name n entry s)) t h in
    subst (λ (u : State). IsNew j n entry s u) (some_is (with_name n entry s) t p.1) (new_name j n entry s p.0)

pub obeys : (c : Command) (s t : State) → s.ended ≡ false → step c s ≡ Some t → obey c s ≡ Some t
obeys c s t e h = elim (step_is c s t h) [ inl p ↦ absurd (false≢true (sym e ∙ p.0)) | inr p ↦ p.1 ]

pub names_have_values : NamesHaveValues
names_have_values j n sort body s t e = (
  λ h. (let new = declared j n (Defined sort body) s t (if_so (is_sort (has_sort s) sort && knows s body) (declare n (Defined sort body) s) t (obeys (DefineFun n sort body) s t e h)).1 in (new.there, new.value, new.sort)),
  λ h. (let new = declared j n (Constant sort) s t (if_so (is_sort (has_sort s) sort) (declare n (Constant sort) s) t (obeys (DeclareConst n sort) s t e h)).1 in (new.there, new.value, new.sort)),
)
