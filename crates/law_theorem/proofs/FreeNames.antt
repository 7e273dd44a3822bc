-- The free names of a script are the names of what is reached.
use Rattle.std.proofs.Common.{◌≡◌, ◌⊎◌, ℕ, Bool, true, false, cond, List, [], ◌∷◌, ◌++◌, map, refl, sym, ap, ◌∙◌, subst, inl, inr, Option, Some, None}
use Rattle.std.specs.Prelude.{◌↔◌, bytes_eq, IsTrue, unwrap_or}
use Rattle.std.specs.List.{AllByRecursion, filter_map, cons_option}
use Rattle.std.proofs.lemmas.Bool.{or_cases}
use Rattle.std.proofs.lemmas.Slice.Eq.{bytes_eq-Decides}
use Rattle.law_terms.specs.Plain.{PlainType, PlainFunction, PlainOp, UufOp, PlainTerm, Application, VariableTerm}
use Rattle.law_terms.specs.Reached.{reached_variable, reached_function, function_of_op, reached_terms, reached_variables, reached_functions}
use Rattle.law_scripts.specs.Script.{Entry, Constant, Function, Defined, Builds, Selects, State, is_in, names_of, look_up}
use Rattle.law_scripts.specs.Sorts.{entries}
use Rattle.law_scripts.specs.Value.{free_in, free_names}
use Rattle.law_lines.specs.Naming.{type_sort}
use Rattle.law_lines.specs.NameTables.{Tables}
use Rattle.law_theorem.specs.CarriedInterpretations.{variable_name, function_name}
use Rattle.law_theorem.specs.Open.{IsOpenEntry, IsAmong}
use Rattle.law_terms.proofs.ValueOrder.{bytes_itself}
use Rattle.law_theorem.specs.Headline.{reached_names}
use Rattle.law_theorem.specs.FittingStates.{IsOpOpen, IsOpen}
use Rattle.law_theorem.proofs.Lasting.{some_entry}
use Rattle.law_scripts.proofs.Results.{or_left, or_right}
use Rattle.law_theorem.proofs.Open.{at_term}

in_front : (n : List ℕ) (xs ys : List (List ℕ)) → is_in n xs ≡ true → is_in n (xs ++ ys) ≡ true
in_front n [] ys h = cc
in_front n (x ∷ xs) ys h = elim (or_cases (bytes_eq n x) (is_in n xs) h) [
  | inl e ↦ or_left (bytes_eq n x) (is_in n (xs ++ ys)) e
  | inr e ↦ or_right (bytes_eq n x) (is_in n (xs ++ ys)) (in_front n xs ys e)
]

in_back : (n : List ℕ) (xs ys : List (List ℕ)) → is_in n ys ≡ true → is_in n (xs ++ ys) ≡ true
in_back n [] ys h = h
in_back n (x ∷ xs) ys h = or_right (bytes_eq n x) (is_in n (xs ++ ys)) (in_back n xs ys h)

in_either : (n : List ℕ) (xs ys : List (List ℕ)) → is_in n (xs ++ ys) ≡ true → (is_in n xs ≡ true) ⊎ (is_in n ys ≡ true)
in_either n [] ys h = inr h
in_either n (x ∷ xs) ys h = elim (or_cases (bytes_eq n x) (is_in n (xs ++ ys)) h) [
  | inl e ↦ inl (or_left (bytes_eq n x) (is_in n xs) e)
  | inr e ↦ elim (in_either n xs ys e) [ inl f ↦ inl (or_right (bytes_eq n x) (is_in n xs) f) | inr f ↦ inr f ]
]

-- ---- what terms bring

module _ {X : Type 0} (brings : PlainTerm → Option X) (named : X → List ℕ) where
  -- what occurs is named
  occurs_named : (us : List PlainTerm) (t : PlainTerm) (y : X) → brings t ≡ Some y → IsAmong t us → is_in (named y) (map named (filter_map brings us)) ≡ true
  occurs_named [] t y e h = absurd h
  occurs_named (u ∷ us) t y e (inl q) =
      let f : brings u ≡ Some y = ap brings q ∙ e in
      subst (λ (o : Option X). is_in (named y) (map named (cons_option o (filter_map brings us))) ≡ true) (sym f) (or_left (bytes_eq (named y) (named y)) (is_in (named y) (map named (filter_map brings us))) (bytes_itself (named y)))
  occurs_named (u ∷ us) t y e (inr q) = by (brings u) (occurs_named us t y e q)
    where
      by : (o : Option X) → is_in (named y) (map named (filter_map brings us)) ≡ true → is_in (named y) (map named (cons_option o (filter_map brings us))) ≡ true
      by None h = h
      by (Some z) h = or_right (bytes_eq (named y) (named z)) (is_in (named y) (map named (filter_map brings us))) h

  -- a term among these that brings what has this name
  abbrev Bearer : List PlainTerm → List ℕ → Type 0
  Bearer us n = (t : PlainTerm) × (y : X) × (brings t ≡ Some y) × IsAmong t us × (n ≡ named y)

  later : (u : PlainTerm) (us : List PlainTerm) (n : List ℕ) → Bearer us n → Bearer (u ∷ us) n
  later u us n r = (r.0, r.1, r.2, inr r.3, r.4)

  -- what is named occurs
  named_occurs : (us : List PlainTerm) (n : List ℕ) → is_in n (map named (filter_map brings us)) ≡ true → Bearer us n
  named_occurs [] n h = absurd cc
  named_occurs (u ∷ us) n h = by (brings u) refl (λ k. later u us n (named_occurs us n k)) h
    where
      by : (o : Option X) → brings u ≡ o → (is_in n (map named (filter_map brings us)) ≡ true → Bearer (u ∷ us) n) → is_in n (map named (cons_option o (filter_map brings us))) ≡ true → Bearer (u ∷ us) n
      by None e again k = again k
      by (Some y) e again k = elim (or_cases (bytes_eq n (named y)) (is_in n (map named (filter_map brings us))) k) [
        | inl q ↦ (u, y, e, inl refl, (bytes_eq-Decides n (named y)).0 q)
        | inr q ↦ again q
      ]

abbrev variable_named : Tables → (List ℕ × PlainType) → List ℕ
variable_named s v = variable_name s v.0 v.1

-- ---- what is free is reached

module _ (s : Tables) (ts : List PlainTerm) where
  abbrev IsReached : List ℕ → Type 0
  IsReached n = is_in n (reached_names s ts) ≡ true

  abbrev variables : List (List ℕ)
  variables = map (variable_named s) (reached_variables ts)

  abbrev functions : List (List ℕ)
  functions = map (function_name s) (reached_functions ts)

  entry_reached : (n m : List ℕ) (y : Entry) (ds : List (List ℕ × Entry)) → IsOpenEntry s (reached_terms ts) m y → (is_in n (free_in ds) ≡ true → IsReached n) → is_in n (free_in ((m, y) ∷ ds)) ≡ true → IsReached n
  entry_reached n m (Constant sort) ds v again h = elim (or_cases (bytes_eq n m) (is_in n (free_in ds)) h) [
    | inl e ↦ (let q : n ≡ variable_name s v.id v.type = (bytes_eq-Decides n m).0 e ∙ v.named in
        subst IsReached (sym q) (in_front (variable_name s v.id v.type) variables functions (occurs_named reached_variable (variable_named s) (reached_terms ts) (VariableTerm v.id v.type) (v.id, v.type) refl v.reached)))
    | inr e ↦ again e
  ]
  entry_reached n m (Function argument sort) ds v again h = elim (or_cases (bytes_eq n m) (is_in n (free_in ds)) h) [
    | inl e ↦ (let q : n ≡ function_name s v.function = (bytes_eq-Decides n m).0 e ∙ v.named in
        subst IsReached (sym q) (in_back (function_name s v.function) variables functions (occurs_named reached_function (function_name s) (reached_terms ts) (Application (UufOp v.function) v.arguments v.type) v.function refl v.reached)))
    | inr e ↦ again e
  ]
  entry_reached n m (Defined sort body) ds v again h = again h
  entry_reached n m (Builds d ps place fields) ds v again h = again h
  entry_reached n m (Selects d ps c place field) ds v again h = again h

  free_reached : (ds : List (List ℕ × Entry)) → AllByRecursion (λ p. IsOpenEntry s (reached_terms ts) p.0 p.1) ds → (n : List ℕ) → is_in n (free_in ds) ≡ true → IsReached n
  free_reached [] h n k = absurd cc
  free_reached (d ∷ ds) h n k = entry_reached n d.0 d.1 ds h.0 (free_reached ds h.1 n) k

-- ---- what is reached is free

-- an entry without a body
abbrev IsFree : Entry → Type 0
IsFree (Constant sort) = Unit {0}
IsFree (Function argument sort) = Unit {0}
IsFree y = ⊥

here_free : (n m : List ℕ) (y : Entry) (ds : List (List ℕ × Entry)) → IsFree y → bytes_eq n m ≡ true → is_in n (free_in ((m, y) ∷ ds)) ≡ true
here_free n m (Constant sort) ds f e = or_left (bytes_eq n m) (is_in n (free_in ds)) e
here_free n m (Function argument sort) ds f e = or_left (bytes_eq n m) (is_in n (free_in ds)) e
here_free n m (Defined sort body) ds f e = absurd f
here_free n m (Builds d ps place fields) ds f e = absurd f
here_free n m (Selects d ps c place field) ds f e = absurd f

past_free : (n m : List ℕ) (y : Entry) (ds : List (List ℕ × Entry)) → is_in n (free_in ds) ≡ true → is_in n (free_in ((m, y) ∷ ds)) ≡ true
past_free n m (Constant sort) ds h = or_right (bytes_eq n m) (is_in n (free_in ds)) h
past_free n m (Function argument sort) ds h = or_right (bytes_eq n m) (is_in n (free_in ds)) h
past_free n m (Defined sort body) ds h = h
past_free n m (Builds d ps place fields) ds h = h
past_free n m (Selects d ps c place field) ds h = h

found_free : (n : List ℕ) (y : Entry) (ds : List (List ℕ × Entry)) → IsFree y → look_up n ds ≡ Some y → is_in n (free_in ds) ≡ true
found_free n y [] f h = absurd cc
found_free n y (d ∷ ds) f h = by (bytes_eq n d.0) refl (λ k. found_free n y ds f k) h
  where
    by : (b : Bool) → bytes_eq n d.0 ≡ b → (look_up n ds ≡ Some y → is_in n (free_in ds) ≡ true) → cond b (Some d.1) (look_up n ds) ≡ Some y → is_in n (free_in (d ∷ ds)) ≡ true
    by true e again k = here_free n d.0 d.1 ds (subst IsFree (sym (some_entry d.1 y k)) f) e
    by false e again k = past_free n d.0 d.1 ds (again k)

-- a name is declared without a body
abbrev IsLeft : State → List ℕ → Type 0
IsLeft state n = (y : Entry) × IsFree y × (entries state n ≡ Some y)

-- a term that brings a variable, or a function, is one
open_variable : (s : Tables) (state : State) (t : PlainTerm) (v : List ℕ × PlainType) → reached_variable t ≡ Some v → IsOpen s (entries state) t → IsLeft state (variable_named s v)
open_variable s state (VariableTerm id type) v e h = subst (λ (w : List ℕ × PlainType). IsLeft state (variable_named s w)) (inside (id, type) v e) (Constant (type_sort s type), tt, h)
  where
    inside : (v w : List ℕ × PlainType) → Some v ≡ Some w → v ≡ w
    inside v w e = ap (λ (o : Option (List ℕ × PlainType)). unwrap_or o v) e
open_variable s state t v e h = absurd (let z : None ≡ Some v = e in cc)

open_op : (s : Tables) (state : State) (op : PlainOp) (f : PlainFunction) → function_of_op op ≡ Some f → IsOpOpen s (entries state) op → IsLeft state (function_name s f)
open_op s state (UufOp g) f e h = subst (λ (k : PlainFunction). IsLeft state (function_name s k)) (inside g f e) (Function (type_sort s g.argument) (type_sort s g.output), tt, h)
  where
    inside : (g f : PlainFunction) → Some g ≡ Some f → g ≡ f
    inside g f e = ap (λ (o : Option PlainFunction). unwrap_or o g) e
open_op s state op f e h = absurd (let z : None ≡ Some f = e in cc)

open_function : (s : Tables) (state : State) (t : PlainTerm) (f : PlainFunction) → reached_function t ≡ Some f → IsOpen s (entries state) t → IsLeft state (function_name s f)
open_function s state (Application op ts type) f e h = open_op s state op f e h
open_function s state t f e h = absurd (let z : None ≡ Some f = e in cc)

pub free_names_are : (s : Tables) (ts : List PlainTerm) (state : State) → AllByRecursion (λ p. IsOpenEntry s (reached_terms ts) p.0 p.1) (names_of state) → AllByRecursion (IsOpen s (entries state)) (reached_terms ts)
    → (n : List ℕ) → IsTrue (is_in n (free_names state)) ↔ IsTrue (is_in n (reached_names s ts))
free_names_are s ts state h k n = (free_reached s ts (names_of state) h n, reached_free)
  where
    reached_free : is_in n (reached_names s ts) ≡ true → is_in n (free_names state) ≡ true
    reached_free r = elim (in_either n (map (variable_named s) (reached_variables ts)) (map (function_name s) (reached_functions ts)) r) [
      | inl e ↦ (let o = named_occurs reached_variable (variable_named s) (reached_terms ts) n e in
          let y = open_variable s state o.0 o.1 o.2 (at_term (IsOpen s (entries state)) (reached_terms ts) o.0 k o.3) in
          found_free n y.0 (names_of state) y.1 (ap (entries state) o.4 ∙ y.2))
      | inr e ↦ (let o = named_occurs reached_function (function_name s) (reached_terms ts) n e in
          let y = open_function s state o.0 o.1 o.2 (at_term (IsOpen s (entries state)) (reached_terms ts) o.0 k o.3) in
          found_free n y.0 (names_of state) y.1 (ap (entries state) o.4 ∙ y.2))
    ]
