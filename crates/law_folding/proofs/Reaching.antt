-- What a term reaches, by what holds of its subterms.
use Rattle.std.proofs.Common.{◌≡◌, ℕ, List, [], ◌∷◌, sym, subst}
use Rattle.std.specs.Prelude.{Option, Some, None, IfSome, Contains}
use Rattle.std.specs.List.{AllByRecursion, filter_map, cons_option}
use Rattle.std.proofs.lemmas.List.Elements.{All-contains, All-contains_itself, All-from_recursion, recursion_from_All, Contains-append_left, Contains-append_right, Contains-push}
use Rattle.law_folding.specs.Refinement.{AreAmong}
use Rattle.law_terms.specs.Interpretations.{IsTable, IsSelectorTable, IsGivenSelector, IsGiven}
use Rattle.law_terms.specs.Reached.{subterms, reached_terms, reached_variables, reached_functions, reached_options, reached_selectors, reached_variable, reached_function, opened_of, selector_of, selector_of_extension}
use Rattle.law_terms.specs.Tables.{Interpretation}
use Rattle.law_terms.specs.TypeValues.{Enums, IsValue}
use Rattle.law_terms.proofs.Defaults.{all-join}
use Rattle.law_terms.proofs.Shapes.{all-become}
use Rattle.law_terms.proofs.Soundness.{all-front}
use Rattle.law_terms.specs.Plain.{PlainType, PlainFunction, ExtensionOp, IpAddrV4Op, IpAddrV6Op, IpPrefixV4Op, IpPrefixV6Op, ExtOp, OptionGetOp, UufOp, PlainTerm, Application, VariableTerm}

-- ---- lists

module _ {X : Type 0} (Q : X → Type 0) where
  pub passed : (xs ys : List X) → AreAmong xs ys → AllByRecursion Q ys → AllByRecursion Q xs
  passed [] ys a h = tt
  passed (x ∷ xs) ys a h =
      (All-contains Q ys x (All-from_recursion Q ys h) (a x (Contains-append_left (x ∷ []) xs x (Contains-push [] x))), passed xs ys (λ z m. a z (Contains-append_right (x ∷ []) xs z m)) h)

pub held : {X : Type 0} (xs ys : List X) → AllByRecursion (Contains ys) xs → AreAmong xs ys
held xs ys h z m = All-contains (Contains ys) xs z (All-from_recursion (Contains ys) xs h) m

module _ {X Y : Type 0} (f : X → Option Y) (Q : Y → Type 0) where
  taken : (o : Option Y) (ys : List Y) → AllByRecursion Q (cons_option o ys) → IfSome o Q × AllByRecursion Q ys
  taken None ys h = (tt, h)
  taken (Some y) ys h = h

  given : (o : Option Y) (ys : List Y) → IfSome o Q → AllByRecursion Q ys → AllByRecursion Q (cons_option o ys)
  given None ys h g = g
  given (Some y) ys h g = (h, g)

  pub each : (xs : List X) → AllByRecursion Q (filter_map f xs) → AllByRecursion (λ x. IfSome (f x) Q) xs
  each [] h = tt
  each (x ∷ xs) h = let p : IfSome (f x) Q × AllByRecursion Q (filter_map f xs) = taken (f x) (filter_map f xs) h in (p.0, each xs p.1)

  pub gathered : (xs : List X) → AllByRecursion (λ x. IfSome (f x) Q) xs → AllByRecursion Q (filter_map f xs)
  gathered [] h = tt
  gathered (x ∷ xs) h = given (f x) (filter_map f xs) h.0 (gathered xs h.1)

-- ---- what a term asks of an interpretation

-- a term that asks for nothing itself
abbrev pub AsksNothing : PlainTerm → Type 0
AsksNothing w = (reached_variable w ≡ None) × (reached_function w ≡ None) × (opened_of w ≡ None) × (selector_of w ≡ None)

-- what holds of all that asks for nothing, and of each subterm of u, holds of each subterm of t
abbrev pub Reaches : PlainTerm → PlainTerm → Type 1
Reaches t u = (P : PlainTerm → Type 0) → ((w : PlainTerm) → AsksNothing w → P w) → AllByRecursion P (subterms u) → AllByRecursion P (subterms t)

module _ {Y : Type 0} (f : PlainTerm → Option Y) where
  -- the property of subterms that says that u reaches what they bring
  abbrev pub IsBrought : PlainTerm → PlainTerm → Type 0
  IsBrought u w = IfSome (f w) (Contains (filter_map f (reached_terms (u ∷ []))))

  pub brought_itself : (u : PlainTerm) → AllByRecursion (IsBrought u) (subterms u)
  brought_itself u =
      all-front (IsBrought u) (subterms u) [] (each f (Contains (filter_map f (reached_terms (u ∷ [])))) (reached_terms (u ∷ [])) (recursion_from_All (Contains (filter_map f (reached_terms (u ∷ [])))) (filter_map f (reached_terms (u ∷ []))) (All-contains_itself (filter_map f (reached_terms (u ∷ []))))))

  pub among_brought : (t u : PlainTerm) → AllByRecursion (IsBrought u) (subterms t) → AreAmong (filter_map f (reached_terms (t ∷ []))) (filter_map f (reached_terms (u ∷ [])))
  among_brought t u h =
      held (filter_map f (reached_terms (t ∷ []))) (filter_map f (reached_terms (u ∷ []))) (gathered f (Contains (filter_map f (reached_terms (u ∷ [])))) (reached_terms (t ∷ [])) (all-join (IsBrought u) (subterms t) [] h tt))

  -- by way of a list that stands among another
  pub through : (Q : Y → Type 0) (t u : PlainTerm) → AreAmong (filter_map f (reached_terms (t ∷ []))) (filter_map f (reached_terms (u ∷ []))) → AllByRecursion (λ w. IfSome (f w) Q) (subterms u) → AllByRecursion (λ w. IfSome (f w) Q) (subterms t)
  through Q t u a h =
      all-front (λ w. IfSome (f w) Q) (subterms t) [] (each f Q (reached_terms (t ∷ [])) (passed Q (filter_map f (reached_terms (t ∷ []))) (filter_map f (reached_terms (u ∷ []))) a (gathered f Q (reached_terms (u ∷ [])) (all-join (λ w. IfSome (f w) Q) (subterms u) [] h tt))))

  pub among : ((w : PlainTerm) → AsksNothing w → f w ≡ None) → (t u : PlainTerm) → Reaches t u → AreAmong (filter_map f (reached_terms (t ∷ []))) (filter_map f (reached_terms (u ∷ [])))
  among quiet t u r =
      among_brought t u (r (IsBrought u) (λ w a. subst (λ o. IfSome o (Contains (filter_map f (reached_terms (u ∷ []))))) (sym (quiet w a)) tt) (brought_itself u))

-- ---- interpretations

module _ (enums : Enums) (I : Interpretation) where
  abbrev Variable : (List ℕ × PlainType) → Type 0
  Variable x = IsValue enums x.1 (I.variable x.0 x.1)

  abbrev Function : PlainFunction → Type 0
  Function f = IsTable (IsValue enums f.argument) enums f.output (I.function f)

  abbrev Inside : PlainType → Type 0
  Inside t = IsValue enums t (I.inside_none t)

  abbrev Selector : ExtensionOp → Type 0
  Selector o = IsSelectorTable enums I o

  variable_given : (w : PlainTerm) → IsGiven enums I w → IfSome (reached_variable w) Variable
  variable_given (VariableTerm id t) h = h
  variable_given w h = tt

  function_given : (w : PlainTerm) → IsGiven enums I w → IfSome (reached_function w) Function
  function_given (Application (UufOp f) ts t) h = h
  function_given (Application o ts t) h = tt
  function_given w h = tt

  inside_given : (w : PlainTerm) → IsGiven enums I w → IfSome (opened_of w) Inside
  inside_given (Application OptionGetOp ts t) h = h
  inside_given (Application o ts t) h = tt
  inside_given w h = tt

  one_selector_given : (o : ExtensionOp) → IsGivenSelector enums I o → IfSome (selector_of_extension o) Selector
  one_selector_given IpAddrV4Op h = h
  one_selector_given IpAddrV6Op h = h
  one_selector_given IpPrefixV4Op h = h
  one_selector_given IpPrefixV6Op h = h
  one_selector_given o h = tt

  selector_given : (w : PlainTerm) → IsGiven enums I w → IfSome (selector_of w) Selector
  selector_given (Application (ExtOp o) ts t) h = one_selector_given o h
  selector_given (Application o ts t) h = tt
  selector_given w h = tt

  given_selector : (o : ExtensionOp) → IfSome (selector_of_extension o) Selector → IsGivenSelector enums I o
  given_selector IpAddrV4Op h = h
  given_selector IpAddrV6Op h = h
  given_selector IpPrefixV4Op h = h
  given_selector IpPrefixV6Op h = h
  given_selector o h = tt

  given_by_parts : (w : PlainTerm) → IfSome (reached_variable w) Variable → IfSome (reached_function w) Function → IfSome (opened_of w) Inside → IfSome (selector_of w) Selector → IsGiven enums I w
  given_by_parts (VariableTerm id t) v f o s = v
  given_by_parts (Application (UufOp g) ts t) v f o s = f
  given_by_parts (Application OptionGetOp ts t) v f o s = o
  given_by_parts (Application (ExtOp e) ts t) v f o s = given_selector e s
  given_by_parts (Application p ts t) v f o s = tt
  given_by_parts w v f o s = tt

  all_given : (ws : List PlainTerm) → AllByRecursion (λ w. IfSome (reached_variable w) Variable) ws → AllByRecursion (λ w. IfSome (reached_function w) Function) ws → AllByRecursion (λ w. IfSome (opened_of w) Inside) ws → AllByRecursion (λ w. IfSome (selector_of w) Selector) ws → AllByRecursion (IsGiven enums I) ws
  all_given [] v f o s = tt
  all_given (w ∷ ws) v f o s = (given_by_parts w v.0 f.0 o.0 s.0, all_given ws v.1 f.1 o.1 s.1)

  -- an interpretation of a term is one of a term that reaches no more
  pub interpreted : (t u : PlainTerm) → AreAmong (reached_variables (t ∷ [])) (reached_variables (u ∷ [])) → AreAmong (reached_functions (t ∷ [])) (reached_functions (u ∷ [])) → AreAmong (reached_options (t ∷ [])) (reached_options (u ∷ [])) → AreAmong (reached_selectors (t ∷ [])) (reached_selectors (u ∷ [])) → AllByRecursion (IsGiven enums I) (subterms u) → AllByRecursion (IsGiven enums I) (subterms t)
  interpreted t u v f o s g =
      all_given (subterms t)
      (through reached_variable Variable t u v (all-become (IsGiven enums I) (λ w. IfSome (reached_variable w) Variable) variable_given (subterms u) g))
      (through reached_function Function t u f (all-become (IsGiven enums I) (λ w. IfSome (reached_function w) Function) function_given (subterms u) g))
      (through opened_of Inside t u o (all-become (IsGiven enums I) (λ w. IfSome (opened_of w) Inside) inside_given (subterms u) g))
      (through selector_of Selector t u s (all-become (IsGiven enums I) (λ w. IfSome (selector_of w) Selector) selector_given (subterms u) g))
