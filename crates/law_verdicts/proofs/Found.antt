-- The search finds the first model of a script of the fragment, and finds none exactly where there is none.
use Rattle.std.proofs.Common.{◌≡◌, ℕ, Bool, true, false, ◌&&◌, ◌||◌, cond, eqb, List, [], ◌∷◌, ◌++◌, length, map, refl, sym, ap, ap₂, ◌∙◌, subst, inl, inr, Option, Some, None}
use Rattle.std.specs.Prelude.{All, IsTrue, codes, bytes_eq}
use Rattle.std.specs.List.{list_all, list_any, AllByRecursion}
use Rattle.std.proofs.lemmas.Bool.{cases_Bool, and_parts, and_from, false≢true, cond-true, cond-false}
use Rattle.std.proofs.lemmas.List.{length-map}
use Rattle.std.proofs.lemmas.List.Elements.{All-from_recursion, recursion_from_All}
use Rattle.std.proofs.lemmas.Slice.Eq.{bytes_eq-Decides}
use Rattle.law_texts.specs.Reading.{Expression}
use Rattle.law_scripts.specs.ScriptValues.{ScriptValue, TruthOf, BitsOf, TextOf, ConstructorOf, SetOf, ScriptValues}
use Rattle.law_scripts.specs.Script.{Entry, Constant, Function, Defined, Builds, Selects, State, look_up, names_of, assertions_of}
use Rattle.law_scripts.specs.Sorts.{Entries, bool_sort, constructor_fields, entries, has_sort_in, have_sorts_in, same_sort}
use Rattle.law_scripts.specs.Value.{AgreeAt, AgreeFor, AgreeOn, IsModel, IsScriptInterpretation, ScriptInterpretation, Selection, applied_selectors, body_selections, expression_value, is_entry_given, is_selector_given, selections_in}
use Rattle.law_scripts.proofs.Results.{or_left, or_right}
use Rattle.law_scripts.specs.Written.{is_name}
use Rattle.law_scripts.proofs.Free.{free_names_decide}
use Rattle.law_verdicts.specs.Fragment.{is_formula}
use Rattle.law_verdicts.specs.FirstModel.{HasNone, IsFirst, ModelsAreFound, constants_in, constants_of, first_model, given, is_model, is_true, model_of, truth_at, truth_of, truths_of}
use Rattle.law_verdicts.proofs.Commands.{same_expression}
use Rattle.law_verdicts.proofs.Formulas.{either, none_selected}
use Rattle.law_verdicts.proofs.Search.{found_such, none_such}
use Rattle.law_verdicts.proofs.Small.{HasTruths, any, is_small_entry, small_has_truths}

-- ---- no selector is left open

none_in_bodies : (ds : List (List ℕ × Entry)) → list_all is_small_entry ds ≡ true → body_selections ds ≡ []
none_in_bodies [] h = refl
none_in_bodies ((n, Constant sort) ∷ older) h = none_in_bodies older (and_parts (is_name n && same_sort sort bool_sort) (list_all is_small_entry older) h).1
none_in_bodies ((n, Defined sort body) ∷ older) h =
    let p = and_parts (is_formula any body) (list_all is_small_entry older) h in
    ap₂ (λ (x y : List Selection). x ++ y) (none_selected (λ m. look_up m older) any body p.0) (none_in_bodies older p.1)
none_in_bodies ((n, Function argument sort) ∷ older) h = absurd (false≢true h)
none_in_bodies ((n, Builds d ps place fields) ∷ older) h = none_in_bodies older (and_parts (bytes_eq d (codes "Option")) (list_all is_small_entry older) h).1
none_in_bodies ((n, Selects d ps c place field) ∷ older) h = none_in_bodies older h

none_in_each : (here : Entries) (es : List Expression) → list_all (is_formula any) es ≡ true → selections_in here es ≡ []
none_in_each here [] h = refl
none_in_each here (e ∷ es) h =
    let p = and_parts (is_formula any e) (list_all (is_formula any) es) h in
    ap₂ (λ (x y : List Selection). x ++ y) (none_selected here any e p.0) (none_in_each here es p.1)

none_applied : (s : State) → HasTruths s → applied_selectors s ≡ []
none_applied s h = ap₂ (λ (x y : List Selection). x ++ y) (none_in_bodies (names_of s) h.names) (none_in_each (entries s) (assertions_of s) h.assertions)

-- ---- the interpretations that give truths

given_each : (j : ScriptInterpretation) (here : Entries) → ((n : List ℕ) → (b : Bool) × (j.constants n ≡ TruthOf b)) → (ds : List (List ℕ × Entry)) → list_all is_small_entry ds ≡ true → AllByRecursion (λ p. IsTrue (is_entry_given j here p.0 p.1)) ds
given_each j here t [] h = tt
given_each j here t ((n, Constant sort) ∷ older) h =
    let p = and_parts (is_name n && same_sort sort bool_sort) (list_all is_small_entry older) h in
    (ap (has_sort_in here sort) (t n).1 ∙ (and_parts (is_name n) (same_sort sort bool_sort) p.0).1, given_each j here t older p.1)
given_each j here t ((n, Defined sort body) ∷ older) h = (refl, given_each j here t older (and_parts (is_formula any body) (list_all is_small_entry older) h).1)
given_each j here t ((n, Function argument sort) ∷ older) h = absurd (false≢true h)
given_each j here t ((n, Builds d ps place fields) ∷ older) h = (refl, given_each j here t older (and_parts (bytes_eq d (codes "Option")) (list_all is_small_entry older) h).1)
given_each j here t ((n, Selects d ps c place field) ∷ older) h = (refl, given_each j here t older h)

given_interprets : (s : State) (ns : List (List ℕ)) (bs : List Bool) → HasTruths s → IsScriptInterpretation (given ns bs) s
given_interprets s ns bs h = record {
  declared = All-from_recursion (λ p. IsTrue (is_entry_given (given ns bs) (entries s) p.0 p.1)) (names_of s) (given_each (given ns bs) (entries s) (λ n. (truth_at ns bs n, refl)) (names_of s) h.names);
  selected = subst (λ xs. All (λ p. IsTrue (is_selector_given (given ns bs) (entries s) p.selector p.sort p.entry)) xs) (sym (none_applied s h)) (All-from_recursion _ [] tt);
}

-- ---- what any interpretation gives

-- what a name stands for is one of the entries
entry_of : (n : List ℕ) (ds : List (List ℕ × Entry)) (x : Entry) → list_all is_small_entry ds ≡ true → look_up n ds ≡ Some x → (m : List ℕ) × (is_small_entry (m, x) ≡ true)
entry_of n [] x h e = absurd cc
entry_of n (d ∷ older) x h e =
    let p = and_parts (is_small_entry d) (list_all is_small_entry older) h in
    elim (cases_Bool (bytes_eq n d.0)) [
      | inl k ↦ (d.0, subst (λ y. is_small_entry (d.0, y) ≡ true) (some_entry d.1 x (sym (cond-true (bytes_eq n d.0) (Some d.1) (look_up n older) k) ∙ e)) p.0)
      | inr k ↦ entry_of n older x p.1 (sym (cond-false (bytes_eq n d.0) (Some d.1) (look_up n older) k) ∙ e)
    ]
  where
    some_entry : (y z : Entry) → Some y ≡ Some z → y ≡ z
    some_entry y z q = cc

abbrev none_here : Option (List Expression)
none_here = None

-- no constructor's value is of sort Bool
no_fields : (x : Option Entry) (place : ℕ) → ((y : Entry) → x ≡ Some y → (m : List ℕ) × (is_small_entry (m, y) ≡ true)) → constructor_fields x place bool_sort ≡ None
no_fields None place h = refl
no_fields (Some (Constant sort)) place h = refl
no_fields (Some (Defined sort body)) place h = refl
no_fields (Some (Function argument sort)) place h = refl
no_fields (Some (Selects d ps c k field)) place h = refl
no_fields (Some (Builds d ps k fields)) place h = subst (λ n. constructor_fields (Some (Builds n ps k fields)) place bool_sort ≡ None) (sym ((bytes_eq-Decides d (codes "Option")).0 (h (Builds d ps k fields) refl).1)) (by (eqb k place))
  where
    by : (b : Bool) → cond b None None ≡ none_here
    by true = refl
    by false = refl

-- a value of sort Bool is a truth
is_truth_value : (s : State) → HasTruths s → (v : ScriptValue) → has_sort_in (entries s) bool_sort v ≡ true → v ≡ TruthOf (truth_of v)
is_truth_value s h (TruthOf b) k = refl
is_truth_value s h (BitsOf w n) k = absurd (false≢true k)
is_truth_value s h (TextOf t) k = absurd (false≢true k)
is_truth_value s h (SetOf vs) k = absurd (false≢true k)
is_truth_value s h (ConstructorOf place c vs) k = absurd (false≢true (sym (ap (fitting place c vs) (no_fields (entries s c) place (λ y e. entry_of c (names_of s) y h.names e))) ∙ k))
  where
    fitting : ℕ → List ℕ → ScriptValues → Option (List Expression) → Bool
    fitting p d us o = elim o [ Some fields ↦ have_sorts_in (entries s) fields us | None ↦ false ]

-- so what is given for a constant of sort Bool is one
pub constant_is_truth : (s : State) (j : ScriptInterpretation) → HasTruths s → (n : List ℕ) (sort : Expression) → same_sort sort bool_sort ≡ true → IsTrue (is_entry_given j (entries s) n (Constant sort)) → j.constants n ≡ TruthOf (truth_of (j.constants n))
constant_is_truth s j t n sort e g = is_truth_value s t (j.constants n) (subst (λ x. has_sort_in (entries s) x (j.constants n) ≡ true) (same_expression sort bool_sort e) g)

-- the truths of names, found again by name
truth_found : (f : List ℕ → Bool) (ns : List (List ℕ)) (n : List ℕ) → list_any (bytes_eq n) ns ≡ true → truth_at ns (map f ns) n ≡ f n
truth_found f [] n h = absurd (false≢true h)
truth_found f (m ∷ ns) n h = elim (cases_Bool (bytes_eq n m)) [
  | inl e ↦ cond-true (bytes_eq n m) (f m) (truth_at ns (map f ns) n) e ∙ ap f (sym ((bytes_eq-Decides n m).0 e))
  | inr e ↦ cond-false (bytes_eq n m) (f m) (truth_at ns (map f ns) n) e ∙ truth_found f ns n (subst (λ b. (b || list_any (bytes_eq n) ns) ≡ true) e h)
]

-- a constant is among the constants
any_behind : (n : List ℕ) (ms : List (List ℕ)) (m : List ℕ) → list_any (bytes_eq n) ms ≡ true → list_any (bytes_eq n) (ms ++ m ∷ []) ≡ true
any_behind n [] m h = absurd (false≢true h)
any_behind n (x ∷ ms) m h = elim (either (bytes_eq n x) (list_any (bytes_eq n) ms) h) [
  | inl e ↦ or_left (bytes_eq n x) (list_any (bytes_eq n) (ms ++ m ∷ [])) e
  | inr e ↦ or_right (bytes_eq n x) (list_any (bytes_eq n) (ms ++ m ∷ [])) (any_behind n ms m e)
]

any_last : (n : List ℕ) (ms : List (List ℕ)) → list_any (bytes_eq n) (ms ++ n ∷ []) ≡ true
any_last n [] = or_left (bytes_eq n n) false ((bytes_eq-Decides n n).1 refl)
any_last n (x ∷ ms) = or_right (bytes_eq n x) (list_any (bytes_eq n) (ms ++ n ∷ [])) (any_last n ms)

-- Each constant of the older part is among all of them.
abbrev Within : List (List ℕ × Entry) → List (List ℕ) → Type 0
Within ds ns = (n : List ℕ) → list_any (bytes_eq n) (constants_in ds) ≡ true → list_any (bytes_eq n) ns ≡ true

agree_each : (s : State) (j : ScriptInterpretation) → HasTruths s → (ns : List (List ℕ)) (ds : List (List ℕ × Entry)) → Within ds ns → list_all is_small_entry ds ≡ true → AllByRecursion (λ p. IsTrue (is_entry_given j (entries s) p.0 p.1)) ds
    → AllByRecursion (λ p. AgreeAt j (given ns (map (λ n. truth_of (j.constants n)) ns)) p.0 p.1) ds
agree_each s j t ns [] w h g = tt
agree_each s j t ns ((n, Constant sort) ∷ older) w h g =
    let p = and_parts (is_name n && same_sort sort bool_sort) (list_all is_small_entry older) h in (
      constant_is_truth s j t n sort (and_parts (is_name n) (same_sort sort bool_sort) p.0).1 g.0 ∙ ap TruthOf (sym (truth_found (λ m. truth_of (j.constants m)) ns n (w n (any_last n (constants_in older))))),
      agree_each s j t ns older (λ m k. w m (any_behind m (constants_in older) n k)) p.1 g.1,
    )
agree_each s j t ns ((n, Defined sort body) ∷ older) w h g = (tt, agree_each s j t ns older w (and_parts (is_formula any body) (list_all is_small_entry older) h).1 g.1)
agree_each s j t ns ((n, Function argument sort) ∷ older) w h g = absurd (false≢true h)
agree_each s j t ns ((n, Builds d ps place fields) ∷ older) w h g = (tt, agree_each s j t ns older w (and_parts (bytes_eq d (codes "Option")) (list_all is_small_entry older) h).1 g.1)
agree_each s j t ns ((n, Selects d ps c place field) ∷ older) w h g = (tt, agree_each s j t ns older w h g.1)

-- An interpretation agrees with the one that gives its truths.
agrees : (s : State) (j : ScriptInterpretation) → HasTruths s → IsScriptInterpretation j s → AgreeFor j (model_of s (truths_of j s)) s
agrees s j t g = record {
  declared = All-from_recursion (λ p. AgreeAt j (model_of s (truths_of j s)) p.0 p.1) (names_of s)
      (agree_each s j t (constants_of s) (names_of s) (λ n k. k) t.names (recursion_from_All (λ p. IsTrue (is_entry_given j (entries s) p.0 p.1)) (names_of s) g.declared));
  selected = subst (λ xs. All (λ p. AgreeOn j (model_of s (truths_of j s)) p.selector p.sort p.entry) xs) (sym (none_applied s t)) (All-from_recursion _ [] tt);
}

-- ---- models

true_is : (v : Option ScriptValue) → is_true v ≡ true → v ≡ Some (TruthOf true)
true_is (Some (TruthOf b)) h = ap (λ x. Some (TruthOf x)) h
true_is None h = absurd (false≢true h)
true_is (Some v) h = absurd (false≢true h)

model_by_test : (j : ScriptInterpretation) (s : State) (es : List Expression) → list_all (λ e. is_true (expression_value j s e)) es ≡ true → AllByRecursion (λ e. expression_value j s e ≡ Some (TruthOf true)) es
model_by_test j s [] h = tt
model_by_test j s (e ∷ es) h = let p = and_parts (is_true (expression_value j s e)) (list_all (λ x. is_true (expression_value j s x)) es) h in (true_is (expression_value j s e) p.0, model_by_test j s es p.1)

test_by_model : (j : ScriptInterpretation) (s : State) (es : List Expression) → AllByRecursion (λ e. expression_value j s e ≡ Some (TruthOf true)) es → list_all (λ e. is_true (expression_value j s e)) es ≡ true
test_by_model j s [] h = refl
test_by_model j s (e ∷ es) h = and_from (is_true (expression_value j s e)) (list_all (λ x. is_true (expression_value j s x)) es) (ap is_true h.0) (test_by_model j s es h.1)

-- an interpretation that is a model gives truths of which the test holds
passes : (s : State) → HasTruths s → (j : ScriptInterpretation) → IsScriptInterpretation j s → IsModel j s → is_model (model_of s (truths_of j s)) s ≡ true
passes s t j g m =
    let k = model_of s (truths_of j s) in
    test_by_model k s (assertions_of s) (recursion_from_All (λ e. expression_value k s e ≡ Some (TruthOf true)) (assertions_of s) ((free_names_decide j k s (agrees s j t g)).1 m))

many : (s : State) (j : ScriptInterpretation) → length (truths_of j s) ≡ length (constants_of s)
many s j = length-map (constants_of s) (λ n. truth_of (j.constants n))

abbrev test : State → List Bool → Bool
test s bs = is_model (model_of s bs) s

pub none_is_none : (s : State) → HasTruths s → first_model s ≡ None → HasNone s
none_is_none s t h j g m = false≢true (sym (none_such (length (constants_of s)) (test s) h (truths_of j s) (many s j)) ∙ passes s t j g m)

pub found_is_first : (s : State) → HasTruths s → (bs : List Bool) → first_model s ≡ Some bs → IsFirst s bs
found_is_first s t bs h =
    let f = found_such (length (constants_of s)) (test s) bs h in
    record {
      interprets = given_interprets s (constants_of s) bs t;
      model = All-from_recursion (λ e. expression_value (model_of s bs) s e ≡ Some (TruthOf true)) (assertions_of s) (model_by_test (model_of s bs) s (assertions_of s) f.such);
      first = λ j g m. f.first (truths_of j s) (many s j) (passes s t j g m);
    }

none_found : (s : State) → HasTruths s → (o : Option (List Bool)) → first_model s ≡ o → HasNone s → o ≡ None
none_found s t None h none = refl
none_found s t (Some bs) h none = let f = found_is_first s t bs h in absurd (none (model_of s bs) f.interprets f.model)

pub models_are_found : ModelsAreFound
models_are_found s small = let t = small_has_truths s small in (none_is_none s t, λ none. none_found s t (first_model s) refl none, found_is_first s t)
