-- The numbers of variables.
use Rattle.std.proofs.Common.{◌≡◌, ℕ, suc, Bool, true, false, ◌||◌, List, [], ◌∷◌, ◌++◌, map, refl, sym, ap, ◌∙◌, subst, Result, Ok, Err}
use Rattle.std.specs.Prelude.{Option, Some, None, IfSome, IsTrue}
use Rattle.std.specs.Option.{option_or}
use Rattle.std.specs.List.{AllByRecursion, filter_map}
use Rattle.std.proofs.lemmas.List.{append-nil}
use Rattle.std.proofs.lemmas.List.Elements.{filter_map-append}
use Rattle.law_terms.specs.Reached.{subterms, subterms_of_all, reached_variable, reached_terms, reached_variables}
use Rattle.law_terms.specs.Plain.{PlainType, PlainTerm, Application, NoneTerm, LiteralTerm, RecordTerm, SetTerm, SomeTerm, VariableTerm, PlainTerms, no_terms, one_term}
use Rattle.law_terms.proofs.Matching.{or_second}
use Rattle.law_terms.proofs.Shapes.{all-become}
use Rattle.law_terms.proofs.Soundness.{all-front, all-back}
use Rattle.law_blasting.specs.Blasted.{Variables, is_among, AreNumbered, number_from, blasted, blasted_all, new_names, new_variable}
use Rattle.law_terms.specs.Interpretations.{variable_eq}
use Rattle.law_blasting.specs.Laws.{AreDistinct, AreSupported}
use Rattle.law_blasting.specs.Numbering.{with_variable, with_variables, variables_of, unless_refused, walked, walked_all, walked_list, WalksAreStated, ListsAreWalked, WalksNumber, WalksAddNothing, NumbersStay, VariablesAreNumbered, VariablesAreDistinct, VariablesAreSupported}
use Rattle.law_blasting.specs.OperatorCircuits.{term_gates, operator_circuit}
use Rattle.law_blasting.specs.Refusals.{Refusal, type_refusal, operator_refusal, term_refusal, terms_refusal, first_refusal}
use Rattle.law_blasting.proofs.Inverses.{unlike, variable_itself}
use Rattle.law_blasting.proofs.Keeping.{all_taken, none_first, none_second, reached}
use Rattle.law_blasting.proofs.Lookups.{same_is}
use Rattle.law_terms.proofs.Defaults.{all-join}

-- ---- more variables

among_first : (xs ys : Variables) (v : List ℕ × PlainType) → is_among xs v ≡ true → is_among (xs ++ ys) v ≡ true
among_first [] ys v h = cc
among_first (x ∷ xs) ys v h = by (variable_eq v x) h (among_first xs ys v)
  where
    by : (b : Bool) → (b || is_among xs v) ≡ true → (is_among xs v ≡ true → is_among (xs ++ ys) v ≡ true) → (b || is_among (xs ++ ys) v) ≡ true
    by true k again = refl
    by false k again = again k

among_last : (xs : Variables) (v : List ℕ × PlainType) → is_among (xs ++ v ∷ []) v ≡ true
among_last [] v = ap (λ b. b || false) (variable_itself v)
among_last (x ∷ xs) v = or_second (variable_eq v x) (is_among (xs ++ v ∷ []) v) (among_last xs v)

among_with : (vs : Variables) (w v : List ℕ × PlainType) → is_among vs v ≡ true → is_among (with_variable vs w) v ≡ true
among_with vs w v h = by (is_among vs w)
  where
    by : (b : Bool) → is_among (elim b [ true ↦ vs | false ↦ vs ++ w ∷ [] ]) v ≡ true
    by true = h
    by false = among_first vs (w ∷ []) v h

added_among : (vs : Variables) (w : List ℕ × PlainType) → is_among (with_variable vs w) w ≡ true
added_among vs w = by (is_among vs w) refl
  where
    by : (b : Bool) → is_among vs w ≡ b → is_among (elim b [ true ↦ vs | false ↦ vs ++ w ∷ [] ]) w ≡ true
    by true e = e
    by false e = among_last vs w

among_more : (vs ws : Variables) (v : List ℕ × PlainType) → is_among vs v ≡ true → is_among (with_variables vs ws) v ≡ true
among_more vs [] v h = h
among_more vs (w ∷ ws) v h = among_more (with_variable vs w) ws v (among_with vs w v h)

all_among : (vs ws : Variables) → AllByRecursion (λ v. is_among (with_variables vs ws) v ≡ true) ws
all_among vs [] = tt
all_among vs (w ∷ ws) = (among_more (with_variable vs w) ws w (added_among vs w), all_among (with_variable vs w) ws)

nothing_added : (vs ws : Variables) → AllByRecursion (λ v. is_among vs v ≡ true) ws → with_variables vs ws ≡ vs
nothing_added vs [] h = refl
nothing_added vs (w ∷ ws) h =
    let e : with_variable vs w ≡ vs = ap (λ b. elim b as (λ x. Variables) [ true ↦ vs | false ↦ vs ++ w ∷ [] ]) h.0 in
    ap (λ us. with_variables us ws) e ∙ nothing_added vs ws h.1

with_both : (vs xs ys : Variables) → with_variables vs (xs ++ ys) ≡ with_variables (with_variables vs xs) ys
with_both vs [] ys = refl
with_both vs (x ∷ xs) ys = with_both (with_variable vs x) xs ys

-- ---- numbers stay

number_first : (j : ℕ) (xs ys : Variables) (v : List ℕ × PlainType) → is_among xs v ≡ true → number_from j (xs ++ ys) v ≡ number_from j xs v
number_first j [] ys v h = cc
number_first j (x ∷ xs) ys v h = by (variable_eq v x) h (number_first (suc j) xs ys v)
  where
    by : (b : Bool) → (b || is_among xs v) ≡ true → (is_among xs v ≡ true → number_from (suc j) (xs ++ ys) v ≡ number_from (suc j) xs v) → ◌≡◌ {A = ℕ} (elim b [ true ↦ j | false ↦ number_from (suc j) (xs ++ ys) v ]) (elim b [ true ↦ j | false ↦ number_from (suc j) xs v ])
    by true k again = refl
    by false k again = again k

number_with : (vs : Variables) (w v : List ℕ × PlainType) → is_among vs v ≡ true → number_from 0 (with_variable vs w) v ≡ number_from 0 vs v
number_with vs w v h = by (is_among vs w)
  where
    by : (b : Bool) → number_from 0 (elim b [ true ↦ vs | false ↦ vs ++ w ∷ [] ]) v ≡ number_from 0 vs v
    by true = refl
    by false = number_first 0 vs (w ∷ []) v h

number_more : (vs ws : Variables) (v : List ℕ × PlainType) → is_among vs v ≡ true → number_from 0 (with_variables vs ws) v ≡ number_from 0 vs v
number_more vs [] v h = refl
number_more vs (w ∷ ws) v h = number_more (with_variable vs w) ws v (among_with vs w v h) ∙ number_with vs w v h

module _ (vs ws : Variables) where
  mutual
    term_stays : (t : PlainTerm) → AllByRecursion (λ u. IfSome (reached_variable u) (λ v. IsTrue (is_among vs v))) (subterms t) → blasted (with_variables vs ws) t ≡ blasted vs t
    term_stays (Application o ts t) k = ap (operator_circuit term_gates o) (terms_stay ts (all-front (λ u. IfSome (reached_variable u) (λ v. IsTrue (is_among vs v))) (subterms_of_all ts) (Application o ts t ∷ []) k))
    term_stays (LiteralTerm l) k = refl
    term_stays (VariableTerm id t) k = ap (λ n. map new_variable (new_names n t)) (number_more vs ws (id, t) k.0)
    term_stays (NoneTerm t) k = refl
    term_stays (RecordTerm fs) k = refl
    term_stays (SetTerm t ts) k = refl
    term_stays (SomeTerm t) k = refl

    terms_stay : (ts : PlainTerms) → AllByRecursion (λ u. IfSome (reached_variable u) (λ v. IsTrue (is_among vs v))) (subterms_of_all ts) → blasted_all (with_variables vs ws) ts ≡ blasted_all vs ts
    terms_stay no_terms k = refl
    terms_stay (one_term t ts) k =
        ap (λ us. us ∷ blasted_all (with_variables vs ws) ts) (term_stays t (all-front (λ u. IfSome (reached_variable u) (λ v. IsTrue (is_among vs v))) (subterms t) (subterms_of_all ts) k))
        ∙ ap (λ uss. blasted vs t ∷ uss) (terms_stay ts (all-back (λ u. IfSome (reached_variable u) (λ v. IsTrue (is_among vs v))) (subterms t) (subterms_of_all ts) k))

pub numbers_stay : NumbersStay
numbers_stay vs ws t n = (
  all-become (λ v. is_among vs v ≡ true) (λ v. is_among (with_variables vs ws) v ≡ true) (λ v h. among_more vs ws v h) (reached_variables (t ∷ [])) n,
  term_stays vs ws t (all-front (λ u. IfSome (reached_variable u) (λ v. IsTrue (is_among vs v))) (subterms t) [] (reached (λ v. IsTrue (is_among vs v)) (subterms t ++ []) n)),
)

-- ---- what terms reach

abbrev own : PlainTerm → Variables
own t = filter_map reached_variable (subterms t)

abbrev own_all : PlainTerms → Variables
own_all ts = filter_map reached_variable (subterms_of_all ts)

found_both : (xs ys : List PlainTerm) → filter_map reached_variable (xs ++ ys) ≡ filter_map reached_variable xs ++ filter_map reached_variable ys
found_both xs ys = filter_map-append reached_variable xs ys

found_alone : (xs : List PlainTerm) → filter_map reached_variable (xs ++ []) ≡ filter_map reached_variable xs
found_alone xs = ap (filter_map reached_variable) (append-nil xs)

-- ---- the walk

abbrev Step : Type 0
Step = Result Variables Refusal

mutual
  walk_is : (vs : Variables) (t : PlainTerm) → walked vs t ≡ unless_refused (term_refusal t) (with_variables vs (own t))
  walk_is vs (Application o ts t) = by (type_refusal t) (terms_refusal ts) (operator_refusal o) (walked_all vs ts) (walks_are vs ts)
    where
      same : with_variables vs (own_all ts) ≡ with_variables vs (filter_map reached_variable (subterms_of_all ts ++ Application o ts t ∷ []))
      same = sym (ap (with_variables vs) (found_both (subterms_of_all ts) (Application o ts t ∷ []) ∙ append-nil (own_all ts)))

      by : (f g h : Option Refusal) (w : Step) → w ≡ unless_refused g (with_variables vs (own_all ts)) → ◌≡◌ {A = Step} (elim f [ Some r ↦ Err r | None ↦ elim w [ Ok ws ↦ unless_refused h ws | Err r ↦ Err r ] ]) (unless_refused (option_or f (option_or g h)) (with_variables vs (filter_map reached_variable (subterms_of_all ts ++ Application o ts t ∷ []))))
      by (Some r) g h w e = refl
      by None (Some r) h w e = ap (λ x. elim x as (λ y. Step) [ Ok ws ↦ unless_refused h ws | Err r ↦ Err r ]) e
      by None None h w e = ap (λ x. elim x as (λ y. Step) [ Ok ws ↦ unless_refused h ws | Err r ↦ Err r ]) e ∙ ap (unless_refused h) same
  walk_is vs (LiteralTerm l) = refl
  walk_is vs (VariableTerm id t) = refl
  walk_is vs (NoneTerm t) = refl
  walk_is vs (RecordTerm fs) = refl
  walk_is vs (SetTerm t ts) = refl
  walk_is vs (SomeTerm t) = refl

  walks_are : (vs : Variables) (ts : PlainTerms) → walked_all vs ts ≡ unless_refused (terms_refusal ts) (with_variables vs (own_all ts))
  walks_are vs no_terms = refl
  walks_are vs (one_term t ts) =
      ap (λ x. elim x as (λ y. Step) [ Ok ws ↦ walked_all ws ts | Err r ↦ Err r ]) (walk_is vs t) ∙ by (term_refusal t) (walks_are (with_variables vs (own t)) ts)
    where
      same : with_variables (with_variables vs (own t)) (own_all ts) ≡ with_variables vs (filter_map reached_variable (subterms t ++ subterms_of_all ts))
      same = sym (with_both vs (own t) (own_all ts)) ∙ sym (ap (with_variables vs) (found_both (subterms t) (subterms_of_all ts)))

      by : (f : Option Refusal) → walked_all (with_variables vs (own t)) ts ≡ unless_refused (terms_refusal ts) (with_variables (with_variables vs (own t)) (own_all ts)) → ◌≡◌ {A = Step} (elim (unless_refused f (with_variables vs (own t))) [ Ok ws ↦ walked_all ws ts | Err r ↦ Err r ]) (unless_refused (option_or f (terms_refusal ts)) (with_variables vs (filter_map reached_variable (subterms t ++ subterms_of_all ts))))
      by None e = e ∙ ap (unless_refused (terms_refusal ts)) same
      by (Some r) e = refl

pub walks_are_stated : WalksAreStated
walks_are_stated vs t = walk_is vs t ∙ ap (λ us. unless_refused (term_refusal t) (with_variables vs us)) (sym (found_alone (subterms t)))

pub lists_are_walked : ListsAreWalked
lists_are_walked vs [] = refl
lists_are_walked vs (t ∷ ts) =
    ap (λ x. elim x as (λ y. Step) [ Ok ws ↦ walked_list ws ts | Err r ↦ Err r ]) (walk_is vs t) ∙ by (term_refusal t) (lists_are_walked (with_variables vs (own t)) ts)
  where
    same : with_variables (with_variables vs (own t)) (reached_variables ts) ≡ with_variables vs (reached_variables (t ∷ ts))
    same = sym (with_both vs (own t) (reached_variables ts)) ∙ sym (ap (with_variables vs) (found_both (subterms t) (reached_terms ts)))

    by : (f : Option Refusal) → walked_list (with_variables vs (own t)) ts ≡ unless_refused (first_refusal ts) (with_variables (with_variables vs (own t)) (reached_variables ts)) → ◌≡◌ {A = Step} (elim (unless_refused f (with_variables vs (own t))) [ Ok ws ↦ walked_list ws ts | Err r ↦ Err r ]) (unless_refused (option_or f (first_refusal ts)) (with_variables vs (reached_variables (t ∷ ts))))
    by None e = e ∙ ap (unless_refused (first_refusal ts)) same
    by (Some r) e = refl

pub walks_number : WalksNumber
walks_number vs ws t e = by (term_refusal t) refl (sym (walks_are_stated vs t) ∙ e)
  where
    by : (f : Option Refusal) → term_refusal t ≡ f → unless_refused f (with_variables vs (reached_variables (t ∷ []))) ≡ Ok ws → (term_refusal t ≡ None) × AreNumbered ws t
    by None q k =
        let same : with_variables vs (reached_variables (t ∷ [])) ≡ ws = ap (λ x. elim x as (λ y. Variables) [ Ok us ↦ us | Err r ↦ ws ]) k in
        (q, subst (λ us. AreNumbered us t) same (all_among vs (reached_variables (t ∷ []))))
    by (Some r) q k = cc

pub walks_add_nothing : WalksAddNothing
walks_add_nothing vs t r n = walks_are_stated vs t ∙ ap (λ f. unless_refused f (with_variables vs (reached_variables (t ∷ [])))) r ∙ ap Ok (nothing_added vs (reached_variables (t ∷ [])) n)

-- ---- the variables of terms

parts_numbered : (vs : Variables) (ts : List PlainTerm) → AllByRecursion (λ v. is_among vs v ≡ true) (reached_variables ts) → AllByRecursion (AreNumbered vs) ts
parts_numbered vs [] h = tt
parts_numbered vs (t ∷ ts) h =
    let k = subst (AllByRecursion (λ v. is_among vs v ≡ true)) (found_both (subterms t) _) h in
    (subst (AllByRecursion (λ v. is_among vs v ≡ true)) (sym (found_alone (subterms t))) (all-front (λ v. is_among vs v ≡ true) (own t) _ k), parts_numbered vs ts (all-back (λ v. is_among vs v ≡ true) (own t) _ k))

pub variables_are_numbered : VariablesAreNumbered
variables_are_numbered ts = parts_numbered (variables_of ts) ts (all_among [] (reached_variables ts))

apart_last : (vs : Variables) (w v : List ℕ × PlainType) → is_among vs v ≡ false → variable_eq v w ≡ false → is_among (vs ++ w ∷ []) v ≡ false
apart_last [] w v h e = ap (λ b. b || false) e
apart_last (x ∷ xs) w v h e = by (variable_eq v x) h (apart_last xs w v)
  where
    by : (b : Bool) → (b || is_among xs v) ≡ false → (is_among xs v ≡ false → variable_eq v w ≡ false → is_among (xs ++ w ∷ []) v ≡ false) → (b || is_among (xs ++ w ∷ []) v) ≡ false
    by true k again = cc
    by false k again = again k e

other : (v w : List ℕ × PlainType) → variable_eq w v ≡ false → variable_eq v w ≡ false
other v w h = by (variable_eq v w) refl
  where
    by : (b : Bool) → variable_eq v w ≡ b → b ≡ false
    by false e = refl
    by true e = absurd (unlike (sym h ∙ ap (λ x. variable_eq x v) (same_is v w e) ∙ variable_itself v))

neither : (b c : Bool) → (b || c) ≡ false → (b ≡ false) × (c ≡ false)
neither true c h = cc
neither false c h = (refl, h)

distinct_last : (vs : Variables) (w : List ℕ × PlainType) → is_among vs w ≡ false → AreDistinct vs → AreDistinct (vs ++ w ∷ [])
distinct_last [] w h d = (refl, tt)
distinct_last (v ∷ vs) w h d =
    let n = neither (variable_eq w v) (is_among vs w) h in
    (apart_last vs w v d.0 (other v w n.0), distinct_last vs w n.1 d.1)

distinct_with : (vs ws : Variables) → AreDistinct vs → AreDistinct (with_variables vs ws)
distinct_with vs [] d = d
distinct_with vs (w ∷ ws) d = distinct_with (with_variable vs w) ws (by (is_among vs w) refl)
  where
    by : (b : Bool) → is_among vs w ≡ b → AreDistinct (elim b [ true ↦ vs | false ↦ vs ++ w ∷ [] ])
    by true e = d
    by false e = distinct_last vs w e d

pub variables_are_distinct : VariablesAreDistinct
variables_are_distinct ts = distinct_with [] (reached_variables ts) tt

supported_with : (vs ws : Variables) → AreSupported vs → AreSupported ws → AreSupported (with_variables vs ws)
supported_with vs [] s k = s
supported_with vs (w ∷ ws) s k = supported_with (with_variable vs w) ws (by (is_among vs w)) k.1
  where
    by : (b : Bool) → AreSupported (elim b [ true ↦ vs | false ↦ vs ++ w ∷ [] ])
    by true = s
    by false = all-join (λ v. type_refusal v.1 ≡ None) vs (w ∷ []) s (k.0, tt)

both_supported : (xs ys : List PlainTerm) → AreSupported (filter_map reached_variable xs) → AreSupported (filter_map reached_variable ys) → AreSupported (filter_map reached_variable (xs ++ ys))
both_supported xs ys h k = subst AreSupported (sym (found_both xs ys)) (all-join (λ v. type_refusal v.1 ≡ None) (filter_map reached_variable xs) (filter_map reached_variable ys) h k)

mutual
  own_supported : (t : PlainTerm) → term_refusal t ≡ None → AreSupported (filter_map reached_variable (subterms t))
  own_supported (Application o ts t) r = both_supported (subterms_of_all ts) (Application o ts t ∷ []) (all_supported ts (none_first (terms_refusal ts) (operator_refusal o) (none_second (type_refusal t) (option_or (terms_refusal ts) (operator_refusal o)) r))) tt
  own_supported (LiteralTerm l) r = tt
  own_supported (VariableTerm id t) r = (r, tt)
  own_supported (NoneTerm t) r = tt
  own_supported (RecordTerm fs) r = cc
  own_supported (SetTerm t ts) r = cc
  own_supported (SomeTerm t) r = cc

  all_supported : (ts : PlainTerms) → terms_refusal ts ≡ None → AreSupported (filter_map reached_variable (subterms_of_all ts))
  all_supported no_terms r = tt
  all_supported (one_term t ts) r = both_supported (subterms t) (subterms_of_all ts) (own_supported t (none_first (term_refusal t) (terms_refusal ts) r)) (all_supported ts (none_second (term_refusal t) (terms_refusal ts) r))

list_supported : (ts : List PlainTerm) → AllByRecursion (λ t. term_refusal t ≡ None) ts → AreSupported (reached_variables ts)
list_supported [] h = tt
list_supported (t ∷ ts) h = both_supported (subterms t) _ (own_supported t h.0) (list_supported ts h.1)

pub variables_are_supported : VariablesAreSupported
variables_are_supported ts h = supported_with [] (reached_variables ts) tt (list_supported ts (all_taken ts h))
