-- The entries of an input are values of the types for which they stand.
use Rattle.std.proofs.Common.{◌≡◌, ℕ, Bool, true, false, ◌&&◌, List, [], ◌∷◌, ◌++◌, map, Option, Some, None, Ok, Err, refl, ap, sym, subst}
use Rattle.std.specs.Prelude.{bytes_eq, IfOk, IfSome, is_none}
use Rattle.std.specs.Bool.{then_some}
use Rattle.std.specs.Cmp.{IsTotalOrder, first_so, second_so}
use Rattle.std.specs.Ordering.{is_eq, is_lt}
use Rattle.std.specs.declared.cmp.Ordering.{Ordering}
use Rattle.std.specs.declared.cmp.Ordering.TheVariants.{Less}
use Rattle.std.proofs.lemmas.Cmp.{on_total}
use Rattle.std.specs.List.{AllByRecursion, list_all, list_any}
use Rattle.std.specs.Map.{lookup}
use Rattle.std.specs.Option.{option_and_then}
use Rattle.std.specs.Result.{result_ok}
use Rattle.law_assignments.specs.Assignments.{is_of_other_family}
use Rattle.law_assignments.specs.Sound.{AreDistinctTerms, IsFaultlessLeaf, IsSound, IsSoundSelector, IsSoundTable, IsValueTerm}
use Rattle.law_folding.specs.Built.{built}
use Rattle.law_folding.specs.Refinement.{Refines}
use Rattle.law_folding.proofs.BuiltTerms.{built_stands}
use Rattle.law_folding.proofs.SetLists.{passed_each}
use Rattle.law_folding.proofs.Standing.{same_type}
use Rattle.law_texts.specs.Reading.{Expression}
use Rattle.law_jobs.specs.Declarations.{Declared, declared}
use Rattle.law_jobs.specs.Outcomes.{Outcome}
use Rattle.law_jobs.specs.Terms.{term_of}
use Rattle.law_jobs.proofs.FormedTypes.{AreDeclaredFormed}
use Rattle.law_jobs.proofs.Outcomes.{if_some}
use Rattle.law_jobs.proofs.SoundTerms as jobs
use Rattle.law_jobs.proofs.SoundTerms.{term_sound}
use Rattle.law_terms.specs.Faults.{Fault, literal_fault}
use Rattle.law_terms.specs.Functions.{PlainDefinition}
use Rattle.law_terms.specs.Interpretations.{selector_eq}
use Rattle.law_terms.specs.Literals.{is_literal}
use Rattle.law_terms.specs.Names.{op_name}
use Rattle.law_terms.specs.Plain.{IpAddrKind, PlainType, ExtensionType, ExtensionOp, OptionGetOp, PlainTerm, LiteralTerm}
use Rattle.law_terms.specs.Reached.{subterms}
use Rattle.law_terms.specs.TermOrder.{term_cmp, term_eq}
use Rattle.law_terms.specs.Types.{extension_signature, type_eq, type_of}
use Rattle.law_terms.specs.TypeValues.{Enums}
use Rattle.law_terms.specs.ValueOrder.{ascends, is_below, sorted}
use Rattle.law_terms.proofs.Defaults.{all-join}
use Rattle.law_terms.proofs.Shapes.{all-become}
use Rattle.law_terms.proofs.Sorted.{all-sorted, ascends-sorted, less-is}
use Rattle.law_terms.proofs.TermTotal.{terms_total}
use Rattle.law_terms.proofs.TypeOrder.{eq_same}
use Rattle.law_assignments.specs.Entries.{assignment_of, assigned_function, get_of, given_by, is_faultless_leaf, is_value, pair_of, selector_named, selector_of, table_of, value_in, value_of, assigned_variable}
use Rattle.law_assignments.specs.Outcomes.{unless_given, NoValue, UnknownEntry}
use Rattle.law_texts.specs.Outcomes.{demanded}
use Rattle.law_assignments.specs.Written.{WrittenInput, WrittenTable}
use Rattle.law_assignments.proofs.Steps.{given_so, if_demanded, next, weaker, whatever}

-- ---- values

none_there : (o : Option Fault) → is_none o ≡ true → o ≡ None
none_there None h = refl
none_there (Some f) h = cc

leaf_faultless : (enums : Enums) (t : PlainTerm) → is_faultless_leaf enums t ≡ true → IsFaultlessLeaf enums t
leaf_faultless enums (LiteralTerm l) h = none_there (literal_fault enums l) h
leaf_faultless enums t h = tt

-- a test that tells values
tested_value : (enums : Enums) (ty : PlainType) (t : PlainTerm) → jobs.IsSound t → is_value enums ty (built t) ≡ true → IsValueTerm enums ty (built t)
tested_value enums ty t s h =
    let r : Refines (built t) t = built_stands t s.is_typed in
    let g : (type_eq (type_of (built t)) ty && list_all (is_faultless_leaf enums) (subterms (built t))) ≡ true = second_so (is_literal (built t)) (type_eq (type_of (built t)) ty && list_all (is_faultless_leaf enums) (subterms (built t))) h in
    record {
      literal = first_so (is_literal (built t)) (type_eq (type_of (built t)) ty && list_all (is_faultless_leaf enums) (subterms (built t))) h;
      type = record { parts = (same_type (built t) t r s.is_typed).0; type = eq_same (type_of (built t)) ty (first_so (type_eq (type_of (built t)) ty) (list_all (is_faultless_leaf enums) (subterms (built t))) g) };
      formed = r.formed s.formed;
      faultless = all-become (λ w. is_faultless_leaf enums w ≡ true) (IsFaultlessLeaf enums) (leaf_faultless enums) (subterms (built t)) (passed_each (is_faultless_leaf enums) (subterms (built t)) (second_so (type_eq (type_of (built t)) ty) (list_all (is_faultless_leaf enums) (subterms (built t))) g));
    }

-- ---- keys

abbrev Entries : Type 0
Entries = List (PlainTerm × PlainTerm)

abbrev by_key : PlainTerm × PlainTerm → PlainTerm × PlainTerm → Ordering
by_key p q = term_cmp p.0 q.0

pairs_total : IsTotalOrder by_key
pairs_total = on_total (λ (p : PlainTerm × PlainTerm). p.0) terms_total

-- what is less than a pair is less than those behind it
below_next : (p q : PlainTerm × PlainTerm) (qs : Entries) → by_key p q ≡ Less → is_below by_key q qs ≡ true → is_below by_key p qs ≡ true
below_next p q [] e h = refl
below_next p q (r ∷ rs) e h = ap is_lt (pairs_total.trans p q r e (less-is (by_key q r) h))

none_behind : (p : PlainTerm × PlainTerm) (qs : Entries) → is_below by_key p qs ≡ true → ascends by_key qs ≡ true → list_any (term_eq p.0) (map (λ e. e.0) qs) ≡ false
none_behind p [] h g = refl
none_behind p (q ∷ qs) h g =
    let e : by_key p q ≡ Less = less-is (by_key p q) h in
    let n : term_eq p.0 q.0 ≡ false = ap is_eq e in
    rw n (none_behind p qs (below_next p q qs e (first_so (is_below by_key q qs) (ascends by_key qs) g)) (second_so (is_below by_key q qs) (ascends by_key qs) g))

distinct_in_order : (qs : Entries) → ascends by_key qs ≡ true → AreDistinctTerms (map (λ e. e.0) qs)
distinct_in_order [] h = tt
distinct_in_order (q ∷ qs) h = (none_behind q qs (first_so (is_below by_key q qs) (ascends by_key qs) h) (second_so (is_below by_key q qs) (ascends by_key qs) h), distinct_in_order qs (second_so (is_below by_key q qs) (ascends by_key qs) h))

-- ---- entries

module _ (ds : Declared) (formed : AreDeclaredFormed ds) where
  abbrev IsValueHere : PlainType → PlainTerm → Type 0
  IsValueHere ty t = IsValueTerm ds.enums ty t

  value_found : (ty : PlainType) (test : PlainTerm → Bool) (e : Expression) → IfSome (value_in ds ty test e) (λ v. IsValueHere ty v × (test v ≡ true))
  value_found ty test e = by (term_of ds e) (term_sound ds formed e)
    where
      by : (o : Outcome PlainTerm) → IfOk o jobs.IsSound → IfSome (option_and_then (λ t. then_some (is_value ds.enums ty (built t) && test (built t)) (built t)) (result_ok o)) (λ v. IsValueHere ty v × (test v ≡ true))
      by (Ok t) s = if_some (λ v. IsValueHere ty v × (test v ≡ true)) (is_value ds.enums ty (built t) && test (built t)) (built t) (λ h. (
        tested_value ds.enums ty t s (first_so (is_value ds.enums ty (built t)) (test (built t)) h),
        second_so (is_value ds.enums ty (built t)) (test (built t)) h,
      ))
      by (Err fault) s = tt

  value_sound : (name : List ℕ) (ty : PlainType) (e : Expression) → IfOk (value_of ds name ty e) (IsValueHere ty)
  value_sound name ty e = if_demanded (IsValueHere ty) (NoValue name) (value_in ds ty (λ t. true) e) (weaker (value_in ds ty (λ t. true) e) (value_found ty (λ t. true) e) (λ v h. h.0))

  -- pairs of key and value so far
  record ArePairs (argument output : PlainType) (test : PlainTerm → Bool) (es : Entries) : Type 0 where
    keys : AllByRecursion (λ e. IsValueHere argument e.0) es
    answers : AllByRecursion (λ e. IsValueHere output e.1) es
    tested : AllByRecursion (λ e. test e.0 ≡ true) es

  one_more_pair : (argument output : PlainType) (test : PlainTerm → Bool) (es : Entries) (k v : PlainTerm) → ArePairs argument output test es → IsValueHere argument k → test k ≡ true → IsValueHere output v → ArePairs argument output test (es ++ (k, v) ∷ [])
  one_more_pair argument output test es k v p h t g = record {
    keys = all-join (λ e. IsValueHere argument e.0) es ((k, v) ∷ []) p.keys (h, tt);
    answers = all-join (λ e. IsValueHere output e.1) es ((k, v) ∷ []) p.answers (g, tt);
    tested = all-join (λ e. test e.0 ≡ true) es ((k, v) ∷ []) p.tested (t, tt);
  }

  pair_sound : (name : List ℕ) (argument output : PlainType) (test : PlainTerm → Bool) (before : Entries) (w : Expression × Expression) → ArePairs argument output test before → IfOk (pair_of ds name argument output test before w) (λ e. ArePairs argument output test (before ++ e ∷ []))
  pair_sound name argument output test before w p =
      next (λ k. IsValueHere argument k × (test k ≡ true)) (λ e. ArePairs argument output test (before ++ e ∷ [])) (demanded (NoValue name) (value_in ds argument test w.0)) _
      (if_demanded (λ k. IsValueHere argument k × (test k ≡ true)) (NoValue name) (value_in ds argument test w.0) (value_found argument test w.0)) (λ k h.
      whatever (λ e. ArePairs argument output test (before ++ e ∷ [])) (unless_given (lookup (term_eq k) before) name) _ (λ n.
      next (IsValueHere output) (λ e. ArePairs argument output test (before ++ e ∷ [])) (value_of ds name output w.1) _ (value_sound name output w.1) (λ v g. one_more_pair argument output test before k v p h.0 h.1 g)))

  -- a table of these types whose keys pass the test
  record IsTableRead (argument output : PlainType) (test : PlainTerm → Bool) (d : PlainDefinition) : Type 0 where
    table : IsSoundTable ds.enums d
    argument_type : d.argument ≡ argument
    output_type : d.output ≡ output
    tested : AllByRecursion (λ e. test e.0 ≡ true) d.entries

  table_sound : (argument output : PlainType) (test : PlainTerm → Bool) (w : WrittenTable) → IfOk (table_of ds argument output test w) (IsTableRead argument output test)
  table_sound argument output test w =
      next (IsValueHere output) (IsTableRead argument output test) (value_of ds w.name output w.elsewhere) _ (value_sound w.name output w.elsewhere) (λ d h.
      next (ArePairs argument output test) (IsTableRead argument output test) (given_by (pair_of ds w.name argument output test) [] w.entries) _
      (given_so (pair_of ds w.name argument output test) (ArePairs argument output test) (λ before p. pair_sound w.name argument output test before p) [] w.entries (record { keys = tt; answers = tt; tested = tt })) (λ es p.
      record {
        table = record {
          keys = all-sorted by_key (λ e. IsValueHere argument e.0) es p.keys;
          distinct = distinct_in_order (sorted by_key es) (ascends-sorted by_key pairs_total es);
          answers = all-sorted by_key (λ e. IsValueHere output e.1) es p.answers;
          elsewhere = h;
        };
        argument_type = refl;
        output_type = refl;
        tested = all-sorted by_key (λ e. test e.0 ≡ true) es p.tested;
      }))

  -- ---- sections

  abbrev Variables : List (List ℕ × PlainTerm) → Type 0
  Variables vs = AllByRecursion (λ e. IsValueHere (type_of e.1) e.1) vs

  variable_sound : (before : List (List ℕ × PlainTerm)) (w : List ℕ × Expression) → Variables before → IfOk (assigned_variable ds before w) (λ v. Variables (before ++ v ∷ []))
  variable_sound before w p =
      whatever (λ v. Variables (before ++ v ∷ [])) (demanded (UnknownEntry w.0) (declared ds.variables w.0)) _ (λ ty.
      whatever (λ v. Variables (before ++ v ∷ [])) (unless_given (lookup (bytes_eq w.0) before) w.0) _ (λ id.
      next (IsValueHere ty) (λ v. Variables (before ++ v ∷ [])) (value_of ds id ty w.1) _ (value_sound id ty w.1) (λ v h.
      all-join (λ e. IsValueHere (type_of e.1) e.1) before ((id, v) ∷ []) p (subst (λ u. IsValueHere u v) (sym h.type.type) h, tt))))

  abbrev Functions : List (List ℕ × PlainDefinition) → Type 0
  Functions fs = AllByRecursion (λ e. IsSoundTable ds.enums e.1) fs

  function_sound : (before : List (List ℕ × PlainDefinition)) (w : WrittenTable) → Functions before → IfOk (assigned_function ds before w) (λ v. Functions (before ++ v ∷ []))
  function_sound before w p =
      whatever (λ v. Functions (before ++ v ∷ [])) (demanded (UnknownEntry w.name) (declared ds.functions w.name)) _ (λ f.
      whatever (λ v. Functions (before ++ v ∷ [])) (unless_given (lookup (bytes_eq w.name) before) w.name) _ (λ id.
      next (IsTableRead f.argument f.output (λ k. true)) (λ v. Functions (before ++ v ∷ [])) (table_of ds f.argument f.output (λ k. true) w) _ (table_sound f.argument f.output (λ k. true) w) (λ d h.
      all-join (λ e. IsSoundTable ds.enums e.1) before ((id, d) ∷ []) p (h.table, tt))))

  abbrev Gets : List (PlainType × PlainTerm) → Type 0
  Gets gs = AllByRecursion (λ e. IsValueHere e.0 e.1) gs

  get_sound : (before : List (PlainType × PlainTerm)) (w : PlainType × Expression) → Gets before → IfOk (get_of ds before w) (λ v. Gets (before ++ v ∷ []))
  get_sound before w p =
      whatever (λ v. Gets (before ++ v ∷ [])) (unless_given (lookup (type_eq w.0) before) (op_name OptionGetOp)) _ (λ name.
      next (IsValueHere w.0) (λ v. Gets (before ++ v ∷ [])) (value_of ds name w.0 w.1) _ (value_sound name w.0 w.1) (λ v h. all-join (λ e. IsValueHere e.0 e.1) before ((w.0, v) ∷ []) p (h, tt)))

  abbrev Selectors : List (ExtensionOp × PlainDefinition) → Type 0
  Selectors ss = AllByRecursion (λ e. IsSoundSelector ds.enums e.0 e.1) ss

  selector_sound : (before : List (ExtensionOp × PlainDefinition)) (w : WrittenTable) → Selectors before → IfOk (selector_of ds before w) (λ v. Selectors (before ++ v ∷ []))
  selector_sound before w p =
      whatever (λ v. Selectors (before ++ v ∷ [])) (demanded (UnknownEntry w.name) (selector_named w.name)) _ (λ o.
      whatever (λ v. Selectors (before ++ v ∷ [])) (unless_given (lookup (selector_eq o) before) w.name) _ (λ n.
      next (IsTableRead (ExtensionType IpAddrKind) (extension_signature o).1 (is_of_other_family o)) (λ v. Selectors (before ++ v ∷ [])) (table_of ds (ExtensionType IpAddrKind) (extension_signature o).1 (is_of_other_family o) w) _ (table_sound (ExtensionType IpAddrKind) (extension_signature o).1 (is_of_other_family o) w) (λ d h.
      all-join (λ e. IsSoundSelector ds.enums e.0 e.1) before ((o, d) ∷ []) p (record { table = h.table; argument = h.argument_type; output = h.output_type; families = h.tested }, tt))))

  pub assignment_sound : (w : WrittenInput) → IfOk (assignment_of ds w) (IsSound ds.enums)
  assignment_sound w =
      next Variables (IsSound ds.enums) (given_by (assigned_variable ds) [] w.variables) _ (given_so (assigned_variable ds) Variables variable_sound [] w.variables tt) (λ vs v.
      next Functions (IsSound ds.enums) (given_by (assigned_function ds) [] w.functions) _ (given_so (assigned_function ds) Functions function_sound [] w.functions tt) (λ fs f.
      next Gets (IsSound ds.enums) (given_by (get_of ds) [] w.gets) _ (given_so (get_of ds) Gets get_sound [] w.gets tt) (λ gs g.
      next Selectors (IsSound ds.enums) (given_by (selector_of ds) [] w.selectors) _ (given_so (selector_of ds) Selectors selector_sound [] w.selectors tt) (λ ss s.
      record { variables = v; functions = f; gets = g; selectors = s }))))
