-- Sorts stay over commands that take nothing away, so what has its sort in the last state has it in each state before.
use Rattle.std.proofs.Common.{◌≡◌, ℕ, true, false, ◌&&◌, List, [], ◌∷◌, ◌++◌, map, sym, ap, ◌∙◌, subst, append_assoc, inl, inr, Some}
use Rattle.std.specs.Prelude.{bytes_eq}
use Rattle.std.specs.List.{AllByRecursion}
use Rattle.std.proofs.lemmas.Bool.{and_parts, cases_Bool, cond-true, cond-false, false≢true}
use Rattle.std.proofs.lemmas.Slice.Eq.{bytes_eq-Decides}
use Rattle.law_terms.proofs.Soundness.{all-front, all-last}
use Rattle.law_terms.proofs.ValueOrder.{bytes_itself}
use Rattle.law_texts.specs.Reading.{Expression}
use Rattle.law_scripts.specs.Script.{Command, DeclareDatatype, DefineFun, Assert, Reset, Exit, Push, Pop, Entry, Defined, State, assertions_below, assertions_of, is_in, is_sort, is_taken, has_sort, knows, look_up, names_of, declare, with_assertion, with_name, step, run}
use Rattle.law_scripts.specs.ScriptValues.{TruthOf}
use Rattle.law_scripts.specs.Sorts.{entries, expression_sort, bool_sort}
use Rattle.law_scripts.specs.Value.{ScriptInterpretation}
use Rattle.law_scripts.specs.CommandLines.{IsSortedCommand, AreSorted, OnState}
use Rattle.law_scripts.proofs.CommandInduction.{Change, AddsName, AddsAssertion, AddsLevel, Ends, Adds, IsAllowed, changed, stepped}
use Rattle.law_scripts.proofs.Keeps.{obeys, steps_keep_values}
use Rattle.law_scripts.proofs.Results.{some_is, if_not, if_so, bind_gives}
use Rattle.law_theorem.proofs.OrderedEntries.{is_new, listed_if}
use Rattle.law_theorem.specs.SortedScripts.{IsLasting, IsSortedState, SortsGoBack}

-- ---- changes

-- a change that neither ends nor opens a level
abbrev pub GoesOn : State → Change → Type 0
GoesOn s Ends = ⊥
GoesOn s AddsLevel = ⊥
GoesOn s x = Unit {0}

adds : (c : Command) (s : State) → IsLasting c → Adds GoesOn s c
adds (DeclareDatatype d ps cs) s p = (λ u n place fields. tt, λ u n c place field. tt, λ u. tt)
adds Reset s p = absurd p
adds Push s p = absurd p
adds Pop s p = absurd p
adds Exit s p = absurd p
adds c s p = tt

module _ (P : State → Type 0) (kept : (x : Change) (s : State) → GoesOn s x → IsAllowed s x → P s → P (changed x s)) where
  pub after_one : (c : Command) (s t : State) → IsLasting c → step c s ≡ Some t → P s → P t
  after_one c s t p e h = stepped GoesOn P kept c s t (adds c s p) e h

  after_all : (cs : List Command) (s t : State) → AllByRecursion IsLasting cs → run cs s ≡ Some t → P s → P t
  after_all [] s t p e h = subst P (some_is s t e) h
  after_all (c ∷ cs) s t p e h = let q = bind_gives (step c s) (run cs) t e in after_all cs q.0 t p.1 q.2 (after_one c s q.0 p.0 q.1 h)

-- ---- what stays

pub not_ended : (x : Change) (s : State) → GoesOn s x → IsAllowed s x → s.ended ≡ false → (changed x s).ended ≡ false
not_ended Ends s a b h = absurd a
not_ended AddsLevel s a b h = absurd a
not_ended x s a b h = h

-- a declared name stands for what it did
entry_stays : (n : List ℕ) (y : Entry) (x : Change) (s : State) → GoesOn s x → IsAllowed s x → entries s n ≡ Some y → entries (changed x s) n ≡ Some y
entry_stays n y (AddsName m z) s a allowed h = cond-false (bytes_eq n m) (Some z) (look_up n (names_of s)) other ∙ h
  where
    other : bytes_eq n m ≡ false
    other = elim (cases_Bool (bytes_eq n m)) [
      | inl e ↦ absurd (false≢true (sym (is_new s m allowed.0).1 ∙ subst (λ (k : List ℕ). is_in k (map (λ p. p.0) (names_of s)) ≡ true) ((bytes_eq-Decides n m).0 e) (listed_if n (names_of s) y h)))
      | inr e ↦ e
    ]
entry_stays n y x s a allowed h = h

-- what all assertions have, all earlier ones have
earlier : (Q : Expression → Type 0) (first : State) (x : Change) (s : State) → GoesOn s x → IsAllowed s x → (AllByRecursion Q (assertions_of s) → AllByRecursion Q (assertions_of first))
    → AllByRecursion Q (assertions_of (changed x s)) → AllByRecursion Q (assertions_of first)
earlier Q first (AddsAssertion e) s a allowed h k = h (all-front Q (assertions_of s) (e ∷ []) (subst (AllByRecursion Q) (sym (append_assoc (assertions_below s.below) s.last.assertions (e ∷ []))) k))
earlier Q first AddsLevel s a allowed h k = absurd a
earlier Q first x s a allowed h k = h k

-- sorts don't ask for an interpretation, so any does
some_interpretation : ScriptInterpretation
some_interpretation = record {
  constants = λ n. TruthOf true;
  functions = λ n. record { pairs = []; default = TruthOf true };
  options = λ e. TruthOf true;
  selectors = λ n. record { pairs = []; default = TruthOf true };
}

sorts_stay : (cs : List Command) (s t : State) (e : Expression) → AllByRecursion IsLasting cs → run cs s ≡ Some t → knows s e ≡ true → expression_sort t e ≡ expression_sort s e
sorts_stay [] s t e p r k = ap (λ (u : State). expression_sort u e) (sym (some_is s t r))
sorts_stay (c ∷ cs) s t e p r k =
    let q = bind_gives (step c s) (run cs) t r in
    let h = steps_keep_values some_interpretation c s q.0 e (λ x. subst IsLasting x p.0) (λ x. subst IsLasting x p.0) q.1 k in
    sorts_stay cs q.0 t e p.1 q.2 h.0 ∙ h.2

-- ---- one command

module _ (cs : List Command) (s t : State) (running : s.ended ≡ false) (sorted : IsSortedState t) where
  -- of the sort Bool at last
  abbrev Q : Expression → Type 0
  Q d = expression_sort t d ≡ Some bool_sort

  definition : (f : List ℕ) (sort body : Expression) → AllByRecursion IsLasting (DefineFun f sort body ∷ cs) → run (DefineFun f sort body ∷ cs) s ≡ Some t → expression_sort s body ≡ Some sort
  definition f sort body p r =
      let c = DefineFun f sort body in
      let x = Defined sort body in
      let q = bind_gives (step c s) (run cs) t r in
      let k = if_so (is_sort (has_sort s) sort && knows s body) (declare f x s) q.0 (obeys c s q.0 running q.1) in
      let new = if_not (is_taken s f) (Some (with_name f x s)) q.0 k.1 in
      let there : entries q.0 f ≡ Some x = subst (λ (u : State). entries u f ≡ Some x) (some_is (with_name f x s) q.0 new.1) (cond-true (bytes_eq f f) (Some x) (look_up f (names_of s)) (bytes_itself f)) in
      sym (sorts_stay (c ∷ cs) s t body p r (and_parts (is_sort (has_sort s) sort) (knows s body) k.0).1)
      ∙ sorted.bodies f sort body (after_all (λ u. entries u f ≡ Some x) (entry_stays f x) cs q.0 t p.1 q.2 there)

  assertion : (e : Expression) → AllByRecursion IsLasting (Assert e ∷ cs) → run (Assert e ∷ cs) s ≡ Some t → expression_sort s e ≡ Some bool_sort
  assertion e p r =
      let q = bind_gives (step (Assert e) s) (run cs) t r in
      let k = if_so (knows s e) (Some (with_assertion e s)) q.0 (obeys (Assert e) s q.0 running q.1) in
      let all = after_all (λ u. AllByRecursion Q (assertions_of u) → AllByRecursion Q (assertions_of q.0)) (earlier Q q.0) cs q.0 t p.1 q.2 (λ h. h) sorted.assertions in
      let here : AllByRecursion Q (assertions_below s.below ++ (s.last.assertions ++ e ∷ [])) = subst (λ (u : State). AllByRecursion Q (assertions_of u)) (sym (some_is (with_assertion e s) q.0 k.1)) all in
      sym (sorts_stay (Assert e ∷ cs) s t e p r k.0) ∙ all-last Q (assertions_of s) e (subst (AllByRecursion Q) (sym (append_assoc (assertions_below s.below) s.last.assertions (e ∷ []))) here)

  one : (c : Command) → AllByRecursion IsLasting (c ∷ cs) → run (c ∷ cs) s ≡ Some t → IsSortedCommand s c
  one (DefineFun f sort body) p r = definition f sort body p r
  one (Assert e) p r = assertion e p r
  one c p r = tt

pub sorts_go_back : SortsGoBack
sorts_go_back [] s t p running r h = tt
sorts_go_back (c ∷ cs) s t p running r h =
    let q = bind_gives (step c s) (run cs) t r in (
      one cs s t running h c p r,
      subst (OnState (AreSorted cs)) (sym q.1) (sorts_go_back cs q.0 t p.1 (after_one (λ u. u.ended ≡ false) not_ended c s q.0 p.0 q.1 running) q.2 h),
    )
