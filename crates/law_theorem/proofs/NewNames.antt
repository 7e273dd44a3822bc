-- The names that commands declare differ, and so do the terms and functions that they stand for.
use Rattle.std.proofs.Common.{◌≡◌, ℕ, ◌+◌, ◌≤◌, Bool, true, false, ◌&&◌, ◌||◌, List, [], ◌∷◌, ◌++◌, length, map, refl, sym, ap, ◌∙◌, subst, inl, inr, Some, arith}
use Rattle.std.specs.Prelude.{bytes_eq}
use Rattle.std.specs.List.{AllByRecursion, IsDistinct}
use Rattle.std.specs.Set.{unique_keys, distinct_count}
use Rattle.std.proofs.lemmas.Bool.{cases_Bool, false≢true}
use Rattle.std.proofs.lemmas.Cmp.{nat_list_eq_equiv}
use Rattle.std.proofs.lemmas.List.{length-append, length-map}
use Rattle.std.proofs.lemmas.Map.Keys.{IsDistinct-cons}
use Rattle.std.proofs.lemmas.Map.Made.{length-le_from_is_member}
use Rattle.std.proofs.lemmas.Slice.Eq.{bytes_eq-Decides}
use Rattle.law_terms.specs.Interpretations.{function_eq}
use Rattle.law_terms.specs.Plain.{PlainFunction, UufOp, PlainTerm, Application, VariableTerm}
use Rattle.law_terms.specs.Reached.{reached_terms, reached_functions}
use Rattle.law_terms.specs.TermOrder.{term_eq}
use Rattle.law_terms.specs.TypeValues.{Enums}
use Rattle.law_terms.proofs.TermTotal.{functions_decided, terms_decided}
use Rattle.law_terms.proofs.ValueOrder.{bytes_itself}
use Rattle.law_scripts.specs.Script as script
use Rattle.law_scripts.specs.Script.{Command, Reset, Exit, Entry, Constant, Function, Defined, State, built_in_names, is_in, is_reserved, is_sort, is_taken, has_sort, knows, names_of, declare, with_assertion, with_name, obey, step, run}
use Rattle.law_scripts.proofs.CommandInduction.{Change, AddsName, AddsAssertion, AddsLevel, Adds, IsAllowed, changed, stepped}
use Rattle.law_scripts.proofs.Results.{some_is, if_not, if_so, bind_gives}
use Rattle.law_lines.specs.Command.{commands}
use Rattle.law_lines.specs.Fit.{EachLine}
use Rattle.law_lines.specs.Line.{Line, Comment, DeclareDatatype, DeclareConst, DeclareFun, DefineFun, Assert, Push, Pop}
use Rattle.law_lines.specs.NameTables.{Tables, name_of_term, name_of_function, text_of_name}
use Rattle.law_theorem.specs.Open.{IsAmong}
use Rattle.law_theorem.proofs.Origins.{OriginOf}
use Rattle.law_theorem.proofs.Reached.{in_front, in_back, key}
use Rattle.law_theorem.specs.SortedScripts.{IsLasting}
use Rattle.law_theorem.proofs.Backwards.{GoesOn, after_one, not_ended}
use Rattle.law_scripts.proofs.Keeps.{obeys}
use Rattle.law_theorem.proofs.DistinctKeys.{at_among, in_map, in_unique, member_among, among_member}

-- ---- names

-- the names of constants, functions and definitions
abbrev pub own_names : List Command → List (List ℕ)
own_names [] = []
own_names (script.DeclareConst n sort ∷ cs) = n ∷ own_names cs
own_names (script.DefineFun n sort body ∷ cs) = n ∷ own_names cs
own_names (script.DeclareFun n argument sort ∷ cs) = n ∷ own_names cs
own_names (c ∷ cs) = own_names cs

abbrev AreFree : State → List (List ℕ) → Type 0
AreFree s ns = AllByRecursion (λ n. is_taken s n ≡ false) ns

one_more : (a b c d : Bool) → ((a || b) || c) ≡ true → ((a || (d || b)) || c) ≡ true
one_more true b c d h = refl
one_more false true c true h = refl
one_more false true c false h = refl
one_more false false true true h = refl
one_more false false true false h = refl
one_more false false false d h = absurd cc

-- what is taken stays taken
taken_stays : (n : List ℕ) (x : Change) (s : State) → GoesOn s x → IsAllowed s x → is_taken s n ≡ true → is_taken (changed x s) n ≡ true
taken_stays n (AddsName m y) s a allowed h = one_more (is_in n built_in_names) (is_in n (map (λ p. p.0) (names_of s))) (is_reserved n) (bytes_eq n m) h
taken_stays n x s a allowed h = h

was_free : (n : List ℕ) (c : Command) (s t : State) → IsLasting c → step c s ≡ Some t → is_taken t n ≡ false → is_taken s n ≡ false
was_free n c s t p e h = elim (cases_Bool (is_taken s n)) [
  | inl q ↦ absurd (false≢true (sym h ∙ after_one (λ u. is_taken u n ≡ true) (taken_stays n) c s t p e q))
  | inr q ↦ q
]

were_free : (ns : List (List ℕ)) (c : Command) (s t : State) → IsLasting c → step c s ≡ Some t → AreFree t ns → AreFree s ns
were_free [] c s t p e h = tt
were_free (n ∷ ns) c s t p e h = (was_free n c s t p e h.0, were_free ns c s t p e h.1)

-- a name that is declared was free, and is taken then
declared : (n : List ℕ) (y : Entry) (s t : State) → declare n y s ≡ Some t → (is_taken s n ≡ false) × (is_taken t n ≡ true)
declared n y s t e =
    let p = if_not (is_taken s n) (Some (with_name n y s)) t e in
    (p.0, subst (λ (u : State). is_taken u n ≡ true) (some_is (with_name n y s) t p.1) (there (is_in n built_in_names) (bytes_eq n n) (is_in n (map (λ q. q.0) (names_of s))) (is_reserved n) (bytes_itself n)))
  where
    there : (a b c d : Bool) → b ≡ true → ((a || (b || c)) || d) ≡ true
    there true b c d h = refl
    there false true c d h = refl
    there false false c d h = absurd cc

-- a name that is taken is none of those that are free
is_other : (s : State) (n : List ℕ) (ns : List (List ℕ)) → is_taken s n ≡ true → AreFree s ns → AllByRecursion (λ m. bytes_eq n m ≡ false) ns
is_other s n [] h k = tt
is_other s n (m ∷ ns) h k = (
  elim (cases_Bool (bytes_eq n m)) [
    | inl q ↦ absurd (false≢true (sym k.0 ∙ subst (λ (l : List ℕ). is_taken s l ≡ true) ((bytes_eq-Decides n m).0 q) h))
    | inr q ↦ q
  ],
  is_other s n ns h k.1,
)

abbrev AreNew : State → List (List ℕ) → Type 0
AreNew s ns = AreFree s ns × IsDistinct bytes_eq ns

one_name : (n : List ℕ) (y : Entry) (ns : List (List ℕ)) (c : Command) (s q : State) → IsLasting c → step c s ≡ Some q → declare n y s ≡ Some q → AreNew q ns → AreNew s (n ∷ ns)
one_name n y ns c s q p e d h = let k = declared n y s q d in ((k.0, were_free ns c s q p e h.0), IsDistinct-cons bytes_eq n ns (is_other q n ns k.1 h.0) h.1)

none_differ : IsDistinct bytes_eq []
unfolding IsDistinct
none_differ = tt

-- The names that lasting commands declare were free before them, and differ.
pub names_differ : (cs : List Command) (s t : State) → AllByRecursion IsLasting cs → s.ended ≡ false → run cs s ≡ Some t → AreNew s (own_names cs)
names_differ [] s t p running e = (tt, none_differ)
names_differ (c ∷ cs) s t p running e =
    let q = bind_gives (step c s) (run cs) t e in
    one c p.0 q.1 (obeys c s q.0 running q.1) (names_differ cs q.0 t p.1 (after_one (λ u. u.ended ≡ false) not_ended c s q.0 p.0 q.1 running) q.2)
  where
    one : {q : State} (c : Command) → IsLasting c → step c s ≡ Some q → obey c s ≡ Some q → AreNew q (own_names cs) → AreNew s (own_names (c ∷ cs))
    one {q} (script.DeclareConst n sort) l e o h = one_name n (Constant sort) (own_names cs) (script.DeclareConst n sort) s q l e (if_so (is_sort (has_sort s) sort) (declare n (Constant sort) s) q o).1 h
    one {q} (script.DefineFun n sort body) l e o h = one_name n (Defined sort body) (own_names cs) (script.DefineFun n sort body) s q l e (if_so (is_sort (has_sort s) sort && knows s body) (declare n (Defined sort body) s) q o).1 h
    one {q} (script.DeclareFun n argument sort) l e o h = one_name n (Function argument sort) (own_names cs) (script.DeclareFun n argument sort) s q l e (if_so (is_sort (has_sort s) argument && is_sort (has_sort s) sort) (declare n (Function argument sort) s) q o).1 h
    one {q} c l e o h = (were_free (own_names cs) c s q l e h.0, h.1)

-- ---- assertions

abbrev assertions_in : Command → ℕ
assertions_in (script.Assert e) = 1
assertions_in c = 0

abbrev pub asserted : List Command → ℕ
asserted [] = 0
asserted (c ∷ cs) = assertions_in c + asserted cs

-- a change that asserts nothing at this level
abbrev AssertsNothing : State → Change → Type 0
AssertsNothing s (AddsAssertion e) = ⊥
AssertsNothing s AddsLevel = ⊥
AssertsNothing s x = Unit {0}

abbrev HasMany : ℕ → State → Type 0
HasMany k s = length s.last.assertions ≡ k

still_many : (k : ℕ) (x : Change) (s : State) → AssertsNothing s x → IsAllowed s x → HasMany k s → HasMany k (changed x s)
still_many k (AddsAssertion e) s a allowed h = absurd a
still_many k AddsLevel s a allowed h = absurd a
still_many k x s a allowed h = h

one_asserts : (c : Command) (s t : State) → IsLasting c → s.ended ≡ false → step c s ≡ Some t → HasMany (length s.last.assertions + assertions_in c) t
one_asserts c s t p running e = by c p (obeys c s t running e) (λ a. stepped AssertsNothing (HasMany (length s.last.assertions)) (still_many (length s.last.assertions)) c s t a e refl)
  where
    as_many : (k l : ℕ) → l ≡ k → l ≡ k + 0
    as_many k l h = omega arith

    by : (c : Command) → IsLasting c → obey c s ≡ Some t → (Adds AssertsNothing s c → HasMany (length s.last.assertions) t) → HasMany (length s.last.assertions + assertions_in c) t
    by (script.Assert f) p o g =
        let k = if_so (knows s f) (Some (with_assertion f s)) t o in
        ap (λ (u : State). length u.last.assertions) (sym (some_is (with_assertion f s) t k.1)) ∙ length-append s.last.assertions (f ∷ [])
    by (script.DeclareDatatype d ps cs) p o g = as_many (length s.last.assertions) (length t.last.assertions) (g (λ u n place fields. tt, λ u n c place field. tt, λ u. tt))
    by Reset p o g = absurd p
    by script.Push p o g = absurd p
    by script.Pop p o g = absurd p
    by Exit p o g = absurd p
    by c p o g = as_many (length s.last.assertions) (length t.last.assertions) (g tt)

-- Lasting commands leave one assertion more for each that they make.
pub all_asserted : (cs : List Command) (s t : State) → AllByRecursion IsLasting cs → s.ended ≡ false → run cs s ≡ Some t → length t.last.assertions ≡ length s.last.assertions + asserted cs
all_asserted [] s t p running e =
    let k : length t.last.assertions ≡ length s.last.assertions = ap (λ (u : State). length u.last.assertions) (sym (some_is s t e)) in
    omega arith
all_asserted (c ∷ cs) s t p running e =
    let q = bind_gives (step c s) (run cs) t e in
    let one = one_asserts c s q.0 p.0 running q.1 in
    let rest = all_asserted cs q.0 t p.1 (after_one (λ u. u.ended ≡ false) not_ended c s q.0 p.0 q.1 running) q.2 in
    sums (length s.last.assertions) (assertions_in c) (asserted cs) (length q.0.last.assertions) (length t.last.assertions) one rest
  where
    sums : (a b c d e : ℕ) → d ≡ a + b → e ≡ d + c → e ≡ a + (b + c)
    sums a b c d e h k = omega arith

-- ---- what the names stand for

module _ (enums : Enums) (ts : List PlainTerm) (s : Tables) where
  -- the functions and the terms that are reached, each once
  abbrev functions_once : List PlainFunction
  functions_once = unique_keys function_eq (reached_functions ts)

  abbrev terms_once : List PlainTerm
  terms_once = unique_keys term_eq (reached_terms ts)

  abbrev function_name : PlainFunction → List ℕ
  function_name f = text_of_name (name_of_function s f)

  abbrev term_name : PlainTerm → List ℕ
  term_name t = text_of_name (name_of_term s t)

  abbrev names_there : List (List ℕ)
  names_there = map function_name functions_once ++ map term_name terms_once

  term_there : (t : PlainTerm) (n : List ℕ) → IsAmong t (reached_terms ts) → name_of_term s t ≡ Some n → IsAmong n names_there
  term_there t n h e =
      in_back n (map function_name functions_once) (map term_name terms_once)
      (subst (λ (m : List ℕ). IsAmong m (map term_name terms_once)) (ap text_of_name e) (in_map term_name t terms_once (in_unique term_eq terms_decided t (reached_terms ts) h)))

  function_there : (f : PlainFunction) (n : List ℕ) → IsAmong f (reached_functions ts) → name_of_function s f ≡ Some n → IsAmong n names_there
  function_there f n h e =
      in_front n (map function_name functions_once) (map term_name terms_once)
      (subst (λ (m : List ℕ). IsAmong m (map function_name functions_once)) (ap text_of_name e) (in_map function_name f functions_once (in_unique function_eq functions_decided f (reached_functions ts) h)))

  all_there : (ls : List Line) → EachLine (OriginOf enums (reached_terms ts) s) ls → AllByRecursion (λ n. IsAmong n names_there) (own_names (commands ls))
  all_there [] h = tt
  all_there (Comment x ∷ ls) h = all_there ls h.1
  all_there (DeclareDatatype n ps cs ∷ ls) h = all_there ls h.1
  all_there (DeclareConst n sort ∷ ls) h = (term_there (VariableTerm h.0.id h.0.type) n h.0.reached h.0.named, all_there ls h.1)
  all_there (DeclareFun n a sort ∷ ls) h =
      let t = Application (UufOp h.0.function) h.0.arguments h.0.type in
      (function_there h.0.function n (key enums ts t h.0.reached).2.0 h.0.named, all_there ls h.1)
  all_there (DefineFun n sort body ∷ ls) h = (term_there h.0.term n h.0.reached h.0.named, all_there ls h.1)
  all_there (Assert e ∷ ls) h = all_there ls h.1
  all_there (Push ∷ ls) h = absurd h.0
  all_there (Pop ∷ ls) h = absurd h.0

  -- At most as many names as there are functions and terms that differ.
  pub few_names : (ls : List Line) → EachLine (OriginOf enums (reached_terms ts) s) ls → IsDistinct bytes_eq (own_names (commands ls))
      → length (own_names (commands ls)) ≤ distinct_count function_eq (reached_functions ts) + distinct_count term_eq (reached_terms ts)
  few_names ls h differ =
      let ns = own_names (commands ls) in
      let all = all_there ls h in
      let few : length ns ≤ length names_there = length-le_from_is_member nat_list_eq_equiv ns names_there differ
      (λ n m. among_member bytes_eq bytes_eq-Decides n names_there (at_among (λ k. IsAmong k names_there) n ns all (member_among bytes_eq bytes_eq-Decides n ns m))) in
      bound (length ns) (length names_there) (length (map function_name functions_once)) (length (map term_name terms_once)) (length functions_once) (length terms_once) few
      (length-append (map function_name functions_once) (map term_name terms_once)) (length-map functions_once function_name) (length-map terms_once term_name)
    where
      bound : (a b c d e f : ℕ) → a ≤ b → b ≡ c + d → c ≡ e → d ≡ f → a ≤ e + f
      bound a b c d e f h k l m = omega arith
