-- Values of entries, keys of tables, and tables, by their parts.
use Rattle.std.proofs.Common.{◌≡◌, ℕ, Bool, true, false, ◌&&◌, cond, List, [], ◌∷◌, ◌++◌, Option, Some, None, Ok, Err, inl, inr, option_map, refl, sym, ap, ◌∙◌}
use Rattle.std.specs.Bool.{then_some}
use Rattle.std.specs.BTreeMap.{is_at}
use Rattle.std.specs.BTreeSet.{BTreeSet, contains}
use Rattle.std.specs.Map.{lookup}
use Rattle.std.specs.Option.{option_and_then}
use Rattle.std.specs.Ordering.{is_eq}
use Rattle.std.specs.Prelude.{is_some}
use Rattle.std.specs.Result.{result_ok}
use Rattle.std.specs.declared.cmp.Ordering.{Ordering}
use Rattle.std.proofs.lemmas.Bool.{cases_Bool, false≢true}
use Rattle.law_assignments.specs.Entries.{given_by, is_value, pair_of, table_of, value_in, value_of}
use Rattle.law_assignments.specs.Outcomes.{InputFault, InputOutcome, DuplicateEntry, NoValue, unless_given}
use Rattle.law_assignments.specs.Written.{WrittenTable}
use Rattle.law_folding.specs.Built.{built}
use Rattle.law_jobs.specs.Declarations.{Declared}
use Rattle.law_jobs.specs.Terms.{term_of}
use Rattle.law_terms.specs.Functions.{PlainDefinition}
use Rattle.law_terms.specs.Plain.{PlainTerm, PlainType}
use Rattle.law_terms.specs.TermOrder.{term_cmp, term_eq}
use Rattle.law_terms.specs.TypeValues.{Enums}
use Rattle.law_terms.specs.ValueOrder.{sorted}
use Rattle.law_terms.proofs.TermTotal.{terms_decided}
use Rattle.law_texts.specs.Outcomes.{◌>>=◌, demanded}
use Rattle.law_texts.specs.Reading.{Expression}

-- ---- values

module _ (ds : Declared) (ty : PlainType) (test : PlainTerm → Bool) (e : Expression) where
  abbrev by_term : Option PlainTerm → Option PlainTerm
  by_term o = option_and_then (λ t. then_some (is_value ds.enums ty (built t) && test (built t)) (built t)) o

  at_built : (o : Option PlainTerm) (t : PlainTerm) → Some t ≡ option_map built o → by_term o ≡ then_some (is_value ds.enums ty t && test t) t
  at_built (Some u) t h = (let e : t ≡ built u = cc in ap (λ x. then_some (is_value ds.enums ty x && test x) x) (sym e))
  at_built None t h = absurd (cc)

  no_term : (o : Option PlainTerm) → None ≡ option_map built o → by_term o ≡ None
  no_term (Some u) h = absurd (cc)
  no_term None h = refl

  pub states_none : None ≡ option_map built (result_ok (term_of ds e)) → value_in ds ty test e ≡ None
  states_none h = no_term (result_ok (term_of ds e)) h

  module _ (t : PlainTerm) (stated : Some t ≡ option_map built (result_ok (term_of ds e))) where
    pub states_value : (enums : Enums) (v w : Bool) → enums ≡ ds.enums → v ≡ is_value enums ty t → w ≡ test t → v ≡ true → w ≡ true → value_in ds ty test e ≡ Some t
    states_value enums v w same is tested holds passed =
        at_built (result_ok (term_of ds e)) t stated
        ∙ ap (λ b. then_some (b && test t) t) (sym (is ∙ ap (λ es. is_value es ty t) same) ∙ holds)
        ∙ ap (λ b. then_some b t) (sym tested ∙ passed)

    pub states_no_value : (enums : Enums) (v : Bool) → enums ≡ ds.enums → v ≡ is_value enums ty t → v ≡ false → value_in ds ty test e ≡ None
    states_no_value enums v same is fails =
        at_built (result_ok (term_of ds e)) t stated ∙ ap (λ b. then_some (b && test t) t) (sym (is ∙ ap (λ es. is_value es ty t) same) ∙ fails)

    pub states_no_key : (enums : Enums) (v w : Bool) → enums ≡ ds.enums → v ≡ is_value enums ty t → w ≡ test t → v ≡ true → w ≡ false → value_in ds ty test e ≡ None
    states_no_key enums v w same is tested holds fails =
        at_built (result_ok (term_of ds e)) t stated
        ∙ ap (λ b. then_some (b && test t) t) (sym (is ∙ ap (λ es. is_value es ty t) same) ∙ holds)
        ∙ ap (λ b. then_some b t) (sym tested ∙ fails)

-- ---- keys

eq_turned : (t u : PlainTerm) → term_eq t u ≡ term_eq u t
eq_turned t u = elim (cases_Bool (term_eq t u)) [
  | inl same ↦ same ∙ sym ((terms_decided u t).1 (sym ((terms_decided t u).0 same)))
  | inr other ↦ other ∙ sym (elim (cases_Bool (term_eq u t)) [
    | inl same ↦ absurd (false≢true (sym other ∙ (terms_decided t u).1 (sym ((terms_decided u t).0 same))))
    | inr neither ↦ neither
  ])
]

-- what is found among pairs and one more
found_more : {K X : Type 0} (test : K → Bool) (ps : List (K × X)) (k : K) (v : X) → is_some (lookup test (ps ++ (k, v) ∷ [])) ≡ cond (test k) true (is_some (lookup test ps))
found_more test [] k v = go (test k)
  where
    go : (b : Bool) → is_some (cond b (Some v) None) ≡ cond b true false
    go true = refl
    go false = refl
found_more {X = X} test (p ∷ ps) k v = go (test p.0) (found_more test ps k v)
  where
    go : (b : Bool) → is_some (lookup test (ps ++ (k, v) ∷ [])) ≡ cond (test k) true (is_some (lookup test ps)) → is_some (cond b (Some p.1) (lookup test (ps ++ (k, v) ∷ []))) ≡ cond (test k) true (is_some (cond b (Some p.1) (lookup test ps)))
    go true h = both (test k)
      where
        both : (c : Bool) → true ≡ cond c true true
        both true = refl
        both false = refl
    go false h = h

module _ {K : Type 0} (cmp : K → K → Ordering) (view : K → PlainTerm) (same : (a b : K) → cmp a b ≡ term_cmp (view a) (view b)) where
  pub keys_more : (old new : BTreeSet K) (pairs : List (PlainTerm × PlainTerm)) (k : K) (t v : PlainTerm) → view k ≡ t
      → ((q : K) → contains cmp new q ≡ cond (is_at (cmp k) q) true (contains cmp old q)) → ((q : K) → contains cmp old q ≡ is_some (lookup (term_eq (view q)) pairs))
      → (q : K) → contains cmp new q ≡ is_some (lookup (term_eq (view q)) (pairs ++ (t, v) ∷ []))
  keys_more old new pairs k t v is update had q =
      update q
      ∙ ap (λ o. cond (is_eq o) true (contains cmp old q)) (same k q)
      ∙ ap (λ b. cond b true (contains cmp old q)) (eq_turned (view k) (view q) ∙ ap (term_eq (view q)) is)
      ∙ ap (cond (term_eq (view q) t) true) (had q)
      ∙ sym (found_more (term_eq (view q)) pairs t v)

pub unless_none : {A : Type 0} (o : Option A) (name : List ℕ) → is_some o ≡ false → unless_given o name ≡ Ok name
unless_none (Some a) name h = absurd (cc)
unless_none None name h = refl

pub unless_some : {A : Type 0} (o : Option A) (name : List ℕ) → is_some o ≡ true → unless_given o name ≡ Err (DuplicateEntry name)
unless_some (Some a) name h = refl
unless_some None name h = absurd (cc)

-- ---- pairs

module _ (ds : Declared) (name : List ℕ) (argument output : PlainType) (test : PlainTerm → Bool) (before : List (PlainTerm × PlainTerm)) (w : Expression × Expression) where
  abbrev behind_key : InputOutcome PlainTerm → InputOutcome (PlainTerm × PlainTerm)
  behind_key o = o >>= λ k. unless_given (lookup (term_eq k) before) name >>= λ n. value_of ds name output w.1 >>= λ v. Ok (k, v)

  pub key_fault : (f : InputFault) → demanded (NoValue name) (value_in ds argument test w.0) ≡ Err f → pair_of ds name argument output test before w ≡ Err f
  key_fault f h = ap behind_key h

  module _ (k : PlainTerm) (key : demanded (NoValue name) (value_in ds argument test w.0) ≡ Ok k) where
    abbrev behind_test : InputOutcome (List ℕ) → InputOutcome (PlainTerm × PlainTerm)
    behind_test o = o >>= λ n. value_of ds name output w.1 >>= λ v. Ok (k, v)

    pub twice_fault : (f : InputFault) → unless_given (lookup (term_eq k) before) name ≡ Err f → pair_of ds name argument output test before w ≡ Err f
    twice_fault f h = ap behind_key key ∙ ap behind_test h

    module _ (n : List ℕ) (once : unless_given (lookup (term_eq k) before) name ≡ Ok n) where
      pub answer_fault : (f : InputFault) → value_of ds name output w.1 ≡ Err f → pair_of ds name argument output test before w ≡ Err f
      answer_fault f h = ap behind_key key ∙ ap behind_test once ∙ ap (λ o. o >>= λ v. Ok (k, v)) h

      pub pair_stated : (v : PlainTerm) → value_of ds name output w.1 ≡ Ok v → pair_of ds name argument output test before w ≡ Ok (k, v)
      pair_stated v h = ap behind_key key ∙ ap behind_test once ∙ ap (λ o. o >>= λ v. Ok (k, v)) h

-- ---- tables

module _ (ds : Declared) (argument output : PlainType) (test : PlainTerm → Bool) (w : WrittenTable) where
  abbrev behind_elsewhere : InputOutcome PlainTerm → InputOutcome PlainDefinition
  behind_elsewhere o =
      o >>= λ d. given_by (pair_of ds w.name argument output test) [] w.entries >>= λ es. Ok (record { argument = argument; output = output; entries = sorted (λ p q. term_cmp p.0 q.0) es; elsewhere = d })

  pub elsewhere_fault : (f : InputFault) → value_of ds w.name output w.elsewhere ≡ Err f → table_of ds argument output test w ≡ Err f
  elsewhere_fault f h = ap behind_elsewhere h

  module _ (d : PlainTerm) (elsewhere : value_of ds w.name output w.elsewhere ≡ Ok d) where
    abbrev behind_pairs : InputOutcome (List (PlainTerm × PlainTerm)) → InputOutcome PlainDefinition
    behind_pairs o = o >>= λ es. Ok (record { argument = argument; output = output; entries = sorted (λ p q. term_cmp p.0 q.0) es; elsewhere = d })

    pub pairs_fault : (f : InputFault) → given_by (pair_of ds w.name argument output test) [] w.entries ≡ Err f → table_of ds argument output test w ≡ Err f
    pairs_fault f h = ap behind_elsewhere elsewhere ∙ ap behind_pairs h

    pub table_stated : (es : List (PlainTerm × PlainTerm)) → given_by (pair_of ds w.name argument output test) [] w.entries ≡ Ok es
        → table_of ds argument output test w ≡ Ok (record { argument = argument; output = output; entries = sorted (λ p q. term_cmp p.0 q.0) es; elsewhere = d })
    table_stated es h = ap behind_elsewhere elsewhere ∙ ap behind_pairs h
